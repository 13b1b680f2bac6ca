use Rattle.std.proofs.Common.{◌≡◌, length}
use Rattle.rt_search.proofs.search.cost.Given as goal

-- the search is the one that began
abbrev pub invariant-loop : goal.invariant-loop
invariant-loop g l = record {
  tree : l.search.tree ≡ l.initial.search.tree;
  geometry : l.search.geometry ≡ l.initial.search.geometry;
  limit : l.search.limit ≡ l.initial.search.limit;
  capacity : l.search.capacity ≡ l.initial.search.capacity;
  opened_before : l.search.opened_before ≡ l.initial.search.opened_before;
}

abbrev pub decreases-loop : goal.decreases-loop
decreases-loop g l = length l.search.to_come
