use Rattle.std.proofs.{Common.{arith}, lemmas.List.Sorted.{length_permutation}}
use Rattle.std.specs.{BinaryHeap.{heap_items}}
use Rattle.rt_search.specs.{Kept.{wide_item}}
use Rattle.rt_search.proofs.Heaps.{length-in_order, on_ok, pushed}
use Rattle.rt_search.proofs.wide.Wide.put.Goals as goal

pub invariant_of-self : goal.invariant_of-self
invariant_of-self c = grind (arith, length-in_order, on_ok, length_permutation)

pub returns-clause-items : goal.returns-clause-items
returns-clause-items c =
    let h = rw (← c.self.view_is) at c.requires in
    let n = length-in_order wide_item (heap_items c.self.inside.heap) in
    let ok = c.push-pushed.ensures.succeeds (omega (arith, c.self.invariant)) in
    let joined = pushed wide_item _ _ _ (on_ok _ ok c.push-pushed.ensures.permutation) in
    grind arith
