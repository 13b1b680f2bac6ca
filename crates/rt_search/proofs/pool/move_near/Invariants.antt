use Rattle.std.proofs.Common.{◌≡◌, ◌≤◌, ◌++◌, ◌-◌, length, take, vec_capacity, vec_len, IsPermutation}
use Rattle.std.specs.BinaryHeap.{heap_capacity, heap_items}
use Rattle.rt_search.specs.Pooling.{IsFar, IsNear}
use Rattle.rt_search.proofs.pool.move_near.Given as goal

abbrev pub invariant-loop-at : goal.invariant-loop-at
invariant-loop-at l = record {
  near : IsNear l.near l.edge;
  far : IsFar (take l.at l.far.items) l.edge l.least;
  reached : l.at ≤ length l.far.items;
  same : IsPermutation (heap_items l.initial.near ++ l.initial.far.items) (heap_items l.near ++ l.far.items);
  near_capacity : heap_capacity l.initial.near ≤ heap_capacity l.near;
  far_capacity : vec_capacity l.far ≡ vec_capacity l.initial.far;
}

abbrev pub decreases-loop-at : goal.decreases-loop-at
decreases-loop-at l = vec_len l.far - l.at
