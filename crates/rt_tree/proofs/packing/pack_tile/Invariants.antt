use Rattle.std.proofs.Common.{◌≡◌, ◌++◌, take}
use Rattle.rt_tree.specs.SortKeys.{items_at}
use Rattle.rt_tree.proofs.TileLoops.{with_children}
use Rattle.rt_tree.proofs.packing.pack_tile.Given as goal

abbrev pub invariant-loop-key : goal.invariant-loop-key
invariant-loop-key g l = let group = items_at (g.T.Items.list l.items) (take l.key-index l.tile) in record {
  count : l.node.count ≡ l.key-index;
  node : l.node ≡ with_children g.T.Items.extent g.T.Items.size l.initial.node group;
  packed : g.T.Items.list l.packed ≡ g.T.Items.list l.fn.packed ++ group;
}
