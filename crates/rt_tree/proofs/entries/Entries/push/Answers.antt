use Rattle.std.proofs.{Common.{FitsSigned, rules, w64}, lemmas.Int.{to_z-of_z}}
use Rattle.rt_tree.specs.Leaves.{with_layer, without_layer}
use Rattle.rt_tree.proofs.PairLemmas.{paired-more}
use Rattle.rt_tree.proofs.entries.Entries.push.Goals as goal

pub returns-clause-ok : goal.returns-clause-ok
returns-clause-ok c =
    let fits : FitsSigned w64 c.args.entry.id = search rules in
    rw (← c.self.view_is, c.push_reserved.ensures.items, c.in_ok-push.ensures.items, c.reserve.ensures.items)
    (simp (to_z-of_z, fits) (paired-more with_layer c.self.inside.entries.items c.self.inside.layers.items
    (without_layer c.args.entry) c.args.entry.layer c.self.invariant))
