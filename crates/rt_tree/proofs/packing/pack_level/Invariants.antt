use Rattle.rt_tree.specs.{Packing.{groups, joined, nodes_over}, SortKeys.{box_of}}
use Rattle.std.proofs.Common.{◌≡◌, ◌++◌, length}
use Rattle.std.specs.Slice.Iter.{chunks_rest, chunks_size}
use Rattle.rt_tree.proofs.TileLoops.{IsLevelPart}
use Rattle.rt_tree.proofs.packing.pack_level.Given as goal

abbrev pub invariant-loop-tile : goal.invariant-loop-tile
invariant-loop-tile g l =
    let items = g.T.Items.list l.items in
    let cut = groups (box_of g.T.Items.extent) l.fanout (g.T.Items.in_order items) in
    let before = g.T.Items.list l.fn.packed in record {
      size : chunks_size l.tile-iterator ≡ l.fanout;
      part : IsLevelPart items g.T.Items.extent g.T.Items.size l.level l.fanout (before ++ joined cut)
          (nodes_over g.T.Items.extent g.T.Items.size l.level (length before) cut) (g.T.Items.list l.packed) l.nodes
          (chunks_rest l.tile-iterator);
    }
