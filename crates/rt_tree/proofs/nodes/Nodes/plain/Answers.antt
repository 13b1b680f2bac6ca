use Rattle.std.proofs.Common.{◌∙◌, sym}
use Rattle.rt_tree.proofs.NodeLemmas.{nodes-alone}
use Rattle.rt_tree.proofs.nodes.Nodes.plain.Goals as goal

pub returns : goal.returns
returns c = rw (← c.self.view_is) (c.as_slice.ensures.value
    ∙ sym (nodes-alone c.self.inside.nodes.items c.self.inside.layers.items c.self.invariant))
