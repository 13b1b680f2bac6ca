use Rattle.std.proofs.Common.{◌≡◌, ◌<◌, ◌≤◌, ◌-◌, ◌^◌, ◌++◌, length}
use Rattle.rt_tree.specs.Levels.{level_sizes, sizes_above}
use Rattle.rt_tree.proofs.levels.Levels.new.Given as goal

abbrev pub invariant-loop-size : goal.invariant-loop-size
invariant-loop-size l = record {
  course : l.levels ++ sizes_above l.size l.fanout l.size ≡ level_sizes l.len l.fanout;
  some : 0 < l.size;
  bound : l.size ≤ 2 ^ (25 - length l.levels);
  few : length l.levels ≤ 24;
}

abbrev pub decreases-loop-size : goal.decreases-loop-size
decreases-loop-size l = l.size
