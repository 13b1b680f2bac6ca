use Rattle.std.proofs.{Common.{arith, rules}, lemmas.List.Sorted.{length_permutation}}
use Rattle.std.specs.BinaryHeap.{heap_items}
use Rattle.rt_search.proofs.Pools.{some_near}
use Rattle.rt_search.proofs.pool.Pool.fill.Goals as goal

pub invariant_of-self : goal.invariant_of-self
invariant_of-self c = grind (arith, length_permutation)

pub returns-clause-filled : goal.returns-clause-filled
returns-clause-filled c =
    let e = c.move_near-self-inside.ensures in
    some_near c.in-Some.least c.saturating_mul-self-inside.result (heap_items c.self.inside.near) c.self.inside.far.items
    _ _ (rw c.in-Some.is at c.self.invariant.outside.known).0 (search rules) e.same e.far.high
