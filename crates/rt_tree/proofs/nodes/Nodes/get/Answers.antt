use Rattle.std.proofs.Common.{◌<◌, arith, length}
use Rattle.rt_tree.specs.PlainNodes.{with_layers}
use Rattle.rt_tree.proofs.{NodeLemmas.{length-nodes_of}, PairLemmas.{paired-at}}
use Rattle.rt_tree.proofs.nodes.Nodes.get.Goals as goal

pub index-node-requires : goal.index-node-requires
index-node-requires c =
    let long = length-nodes_of c.self.inside.nodes.items c.self.inside.layers.items c.self.invariant in
    let there = rw (← c.self.view_is) at c.requires in
    omega arith

pub index-requires : goal.index-requires
index-requires c =
    let same = c.self.invariant in
    let long = length-nodes_of c.self.inside.nodes.items c.self.inside.layers.items same in
    let there = rw (← c.self.view_is) at c.requires in
    omega arith

pub returns : goal.returns
returns c =
    let nodes = c.self.inside.nodes.items in
    let layers = c.self.inside.layers.items in
    let long = length-nodes_of nodes layers c.self.invariant in
    let there : c.args.number < length nodes = omega (arith, rw (← c.self.view_is) at c.requires) in
    rw (← c.self.view_is) (paired-at with_layers nodes layers c.args.number c.index-node.result.now c.index.result.now
    c.self.invariant there c.index-node.ensures c.index.ensures)
