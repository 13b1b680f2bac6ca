use Rattle.std.proofs.Common.{arith, Some}
use Rattle.rt_search.specs.Kept.{node_item}
use Rattle.rt_search.proofs.{Heaps.{nodes_after, popped_out}, Merging.{taken_left, taken_right}}
use Rattle.rt_search.proofs.queue.take_narrow.Goals as goal

pub returns-then-is_node_next-clause-taken : goal.returns-then-is_node_next-clause-taken
returns-then-is_node_next-clause-taken c =
    let e = c.in-Some.ensures in
    let out = popped_out node_item (record { 0 = c.in-Some.key }) _ _ e.keys (nodes_after c.in-Some.key _ e.least) in
    let taken = taken_left (Some (node_item (record { 0 = c.in-Some.key }))) _ _ _ out c.if-is_node_next.ensures in
    grind arith

pub returns-clause-taken : goal.returns-clause-taken
returns-clause-taken c = grind (arith, taken_right)
