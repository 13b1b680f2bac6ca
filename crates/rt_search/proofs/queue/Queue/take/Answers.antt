use Rattle.std.proofs.Common.{arith, rules, ◌≤◌, ◌^◌}
use Rattle.rt_search.specs.{Kept.{in_order, node_item, taken_item}, Pooling.{keys_in}}
use Rattle.rt_search.proofs.Merging.{fewer, taken_right, left-all, lower_least, none_taken, taken_left}
use Rattle.rt_search.proofs.{OrderedLists.{length-put_all}, Orders.{item_order}, Limits.{none_merged, still_none}}
use Rattle.rt_search.proofs.queue.Queue.take.Goals as goal

pub invariant_of-self : goal.invariant_of-self
invariant_of-self c =
    let few = fewer (taken_item c.take_narrow-node.result) _ _ c.take_narrow-node.ensures.taken in
    grind (arith, length-put_all, item_order)

pub returns-then-is_some : goal.returns-then-is_some
returns-then-is_some c = grind (arith, lower_least, taken_right)

pub take_wide-requires : goal.take_wide-requires
take_wide-requires c = grind (arith, none_merged, none_taken)

pub invariant_of-self-2 : goal.invariant_of-self-2
invariant_of-self-2 c =
    let r = taken_item c.take_wide.result in
    let w = c.take_wide.ensures in
    let nodes = in_order node_item (keys_in c.take_narrow-node.new.nodes) in
    let none = none_taken (taken_item c.take_narrow-node.result) _ _ (search rules) c.take_narrow-node.ensures.taken in
    let empty = still_none nodes c.take_narrow-node.new.entries.items c.take_wide.new.entries.items none.1 w.entries in
    let few = fewer r _ _ w.taken in
    let high = left-all (λ x. 2 ^ 64 ≤ x.score) r _ _ w.taken c.self.invariant.high in
    grind (arith, length-put_all, item_order)

pub returns : goal.returns
returns c = grind (arith, none_taken, still_none, taken_left)
