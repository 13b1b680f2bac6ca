use Rattle.std.proofs.Common.{◌∙◌, ap, arith, get_or, sym}
use Rattle.rt_tree.proofs.LeafLemmas.{layers-alone}
use Rattle.rt_tree.proofs.entries.Entries.layer.Goals as goal

pub returns-in-Some : goal.returns-in-Some
returns-in-Some c =
    let alone = layers-alone c.self.inside.entries.items c.self.inside.layers.items c.self.invariant in
    rw (← c.self.view_is) (c.in-Some.ensures.lookup.3.1 0
    ∙ ap (λ l. get_or l c.args.place 0) (c.deref.ensures.value ∙ sym alone))

pub returns-in-None : goal.returns-in-None
returns-in-None c =
    let alone = layers-alone c.self.inside.entries.items c.self.inside.layers.items c.self.invariant in
    rw (← c.self.view_is) (c.in-None.ensures.lookup.4 (omega arith) 0
    ∙ ap (λ l. get_or l c.args.place 0) (c.deref.ensures.value ∙ sym alone))
