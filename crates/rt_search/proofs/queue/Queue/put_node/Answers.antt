use Rattle.std.proofs.{Common.{arith}, lemmas.List.Sorted.{length_permutation}}
use Rattle.rt_search.specs.{Kept.{node_item}, Pooling.{keys_in}}
use Rattle.rt_search.proofs.{Heaps.{pushed}, Limits.{enough_same}, Merging.{length-queued, put-put_all}}
use Rattle.rt_search.proofs.{OrderedLists.{length-put, put-all, put_all-put}, Orders.{item_order}}
use Rattle.rt_search.proofs.queue.Queue.put_node.Goals as goal

pub put-requires : goal.put-requires
put-requires c = grind (arith, length-queued)

pub invariant_of-self : goal.invariant_of-self
invariant_of-self c = grind (arith, length-queued, length-put, item_order, put-all)

pub returns-then-score-ge-WIDE : goal.returns-then-score-ge-WIDE
returns-then-score-ge-WIDE c = grind (arith, enough_same, item_order, put-put_all)

pub put-requires-2 : goal.put-requires-2
put-requires-2 c = grind (arith, length-queued)

pub invariant_of-self-2 : goal.invariant_of-self-2
invariant_of-self-2 c =
    let long = length-queued (keys_in c.self.inside.nodes) c.self.inside.entries.items c.self.inside.wide.items in
    let longer = length-queued (keys_in c.put-2.new.self) c.self.inside.entries.items c.self.inside.wide.items in
    let one_more = length_permutation _ _ c.put-2.ensures.keys in
    grind arith

pub returns : goal.returns
returns c =
    let joined = pushed node_item _ _ _ c.put-2.ensures.keys in
    grind (arith, enough_same, put-put_all, put_all-put, item_order)
