use Rattle.std.proofs.{Common.{arith}, lemmas.{Grind.{common_steps}, List.{length-append}}}
use Rattle.std.proofs.lemmas.List.Sorted.{IsPermutation-append_left, length_permutation}
use Rattle.std.specs.{BinaryHeap.{heap_items}}
use Rattle.rt_search.proofs.{Heaps.{on_ok}, Pools.{far_more, put_right}}
use Rattle.rt_search.proofs.pool.Pool.put.Goals as goal

pub returns-then-score-self-clause-keys : goal.returns-then-score-self-clause-keys
returns-then-score-self-clause-keys c =
    let h = rw (← c.self.view_is) at c.requires in
    let far = c.self.inside.far.items in
    let ok = c.push-pushed.ensures.succeeds (omega (arith, length-append (heap_items c.self.inside.near) far)) in
    rw (← c.self.view_is) (IsPermutation-append_left far _ _ (on_ok _ ok c.push-pushed.ensures.permutation))

pub invariant_of-self-2 : goal.invariant_of-self-2
invariant_of-self-2 c =
    let h = rw (← c.self.view_is) at c.requires in
    let far = c.self.inside.far.items in
    let longer = length_permutation _ _ (put_right (record { 0 = c.args.key }) (heap_items c.self.inside.near) far) in
    let outside = far_more c.self.inside.edge c.self.inside.least far (record { 0 = c.args.key }) c.self.invariant.outside (omega arith) in
    grind arith

pub returns-clause-keys : goal.returns-clause-keys
returns-clause-keys c = grind (arith, put_right)

pub push_reserved-requires : goal.push_reserved-requires
push_reserved-requires c = grind (arith, common_steps)
