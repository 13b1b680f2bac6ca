use Rattle.std.proofs.Common.{◌∙◌, sym}
use Rattle.rt_tree.proofs.LeafLemmas.{layers-alone}
use Rattle.rt_tree.proofs.entries.Entries.layers.Goals as goal

pub returns : goal.returns
returns c = rw (← c.self.view_is) (c.as_slice.ensures.value
    ∙ sym (layers-alone c.self.inside.entries.items c.self.inside.layers.items c.self.invariant))
