use Rattle.std.proofs.Common.{◌≡◌, ◌+◌}
use Rattle.rt_tree.specs.Packed.{node_at}
use Rattle.rt_search.specs.{Joining.{join_nodes}, Limits.{KeepsEnough}}
use Rattle.rt_search.proofs.opening.open_node.Given as goal

abbrev pub invariant-loop-i : goal.invariant-loop-i
invariant-loop-i g l = record {
  children : KeepsEnough (join_nodes (g.G.Geometry.meaning l.initial.counted.geometry) l.tree l.parent
      (node_at l.tree l.fn.taken.node.number.number) l.i l.initial.queue.items) l.initial.queue l.queue;
  geometry : l.counted.geometry ≡ l.initial.counted.geometry;
  asked : l.counted.asked ≡ l.initial.counted.asked + l.i;
}
