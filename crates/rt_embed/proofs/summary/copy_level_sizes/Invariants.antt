use Rattle.std.proofs.Common.{length, ◌-◌, ◌≡◌, ◌<◌, ◌≤◌, ℕ, Some, get_or, slice_get}
use Rattle.rt_tree.specs.Levels.{level_sizes}
use Rattle.rt_embed.proofs.summary.copy_level_sizes.Given as goal

-- the sizes of so many levels are written
abbrev pub invariant-loop-level : goal.invariant-loop-level
invariant-loop-level l = record {
  bound : l.level ≤ length l.sizes;
  len : length l.sizes ≡ length l.initial.sizes;
  sizes : (level : ℕ) → level < l.level
      → slice_get l.sizes level ≡ Some (get_or (level_sizes (length l.tree.entries) l.tree.fanout) level 0);
}

abbrev pub decreases-loop-level : goal.decreases-loop-level
decreases-loop-level l = length l.initial.sizes - l.level
