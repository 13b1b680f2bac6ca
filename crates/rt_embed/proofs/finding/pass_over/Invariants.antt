use Rattle.std.proofs.Common.{◌≡◌, ◌+◌, ◌-◌, drop, length}
use Rattle.rt_embed.proofs.finding.pass_over.Given as goal

-- what is left after passing over the rest is what the whole leaves
abbrev pub invariant-loop-left : goal.invariant-loop-left
invariant-loop-left g l = record {
  to_come : drop l.left l.search.to_come ≡ drop l.fn.skip l.initial.search.to_come;
  left : l.left - length l.search.to_come ≡ l.fn.skip - length l.initial.search.to_come;
  capacity : l.search.capacity ≡ l.initial.search.capacity;
  tree : l.search.tree ≡ l.initial.search.tree;
  geometry : l.search.geometry ≡ l.initial.search.geometry;
  limit : l.search.limit ≡ l.initial.search.limit;
  opened_before : l.search.opened_before ≡ l.initial.search.opened_before;
  given : l.search.given + l.left ≡ l.initial.search.given + l.fn.skip;
}

abbrev pub decreases-loop-left : goal.decreases-loop-left
decreases-loop-left g l = l.left
