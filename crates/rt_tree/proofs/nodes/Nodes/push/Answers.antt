use Rattle.rt_tree.specs.PlainNodes.{with_layers, without_layers}
use Rattle.rt_tree.proofs.PairLemmas.{paired-more}
use Rattle.rt_tree.proofs.nodes.Nodes.push.Goals as goal

pub returns : goal.returns
returns c =
    rw (← c.self.view_is, c.push_reserved.ensures.items, c.in_ok-push.ensures.items, c.reserve.ensures.items)
    (paired-more with_layers c.self.inside.nodes.items c.self.inside.layers.items (without_layers c.args.node)
    c.args.node.layers c.self.invariant)
