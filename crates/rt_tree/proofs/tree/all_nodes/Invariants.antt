use Rattle.std.proofs.Common.{◌≡◌, ◌++◌, length}
use Rattle.std.specs.List.{All}
use Rattle.rt_tree.specs.{Packing.{nodes_from}, SortKeys.{IsInPlane}}
use Rattle.rt_tree.proofs.PackCounts.{IsCounted, all_nodes}
use Rattle.rt_tree.proofs.tree.all_nodes.Given as goal

abbrev pub invariant-levels : goal.invariant-levels
invariant-levels l = record {
  counted : IsCounted l.level l.nodes l.made;
  boxes : All (λ n. IsInPlane n.bounds) l.made;
  course : l.nodes ++ nodes_from (length l.made) l.fanout l.level (length l.nodes) l.made ≡ all_nodes l.fanout l.fn.made;
}

abbrev pub decreases-levels : goal.decreases-levels
decreases-levels l = length l.made
