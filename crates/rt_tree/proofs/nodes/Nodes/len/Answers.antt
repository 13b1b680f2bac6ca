use Rattle.std.proofs.Common.{arith}
use Rattle.rt_tree.proofs.NodeLemmas.{length-nodes_of}
use Rattle.rt_tree.proofs.nodes.Nodes.len.Goals as goal

pub returns : goal.returns
returns c =
    let long = length-nodes_of c.self.inside.nodes.items c.self.inside.layers.items c.self.invariant in
    rw (← c.self.view_is) (omega (arith, c.len.ensures))
