use Rattle.std.proofs.{Common.{arith}, lemmas.Grind.{common_steps}}
use Rattle.rt_tree.specs.Leaves.{without_layer}
use Rattle.rt_tree.proofs.PairLemmas.{lent_part}
use Rattle.rt_tree.proofs.tree.Tree.child_entries.Goals as goal

pub slice_bounds-result-end : goal.slice_bounds-result-end
slice_bounds-result-end c = grind (arith, common_steps)

pub returns : goal.returns
returns c = rw (← c.self.view_is)
    (lent_part without_layer c.args.node.first c.args.node.count c.leaves.result.now c.self.inside.leaves c.leaves.ensures)
