-- Sort-tile-recursive packing (Leutenegger, Lopez and Edgington, 1997: STR, a simple and efficient algorithm for R-tree
-- packing). Items are cut into the groups that become nodes, these nodes are grouped in turn, and so on up to one node.
use Rattle.std.specs.Prelude.{◌+◌, ◌*◌, ℕ, zero, suc, nat_le, if◌then◌else◌, ℤ, ◌+ℤ◌, List, [], ◌∷◌, ◌++◌, length, map}
use Rattle.std.specs.Int.{div_ceil}
use Rattle.std.specs.List.{enumerate_from, flat_map, sum_by}
use Rattle.std.specs.Ordering.{int_cmp, nat_cmp, on, then_cmp}
use Rattle.std.specs.Simd.{first_chunks}
use Rattle.std.specs.declared.cmp.Ordering.{Ordering}
use Rattle.rt_geo.specs.Boxes.{Rect}
use Rattle.rt_geo.specs.Laws.{Extent, extent_of_entry}
use Rattle.rt_geo.specs.declared.entry.Entry.{Entry}
use Rattle.rt_tree.specs.Packed.{Packed, extent_of_node, hull_of, union_of}
use Rattle.rt_tree.specs.Sorting.{sorted}
use Rattle.rt_tree.specs.declared.tree.Node.{Node}

-- ---- the groups of one level

-- the least whole number whose square is at least n: that of the number before, or one more
abbrev pub ceil_sqrt : ℕ → ℕ
ceil_sqrt zero = 0
ceil_sqrt (suc n) = let root = ceil_sqrt n in if nat_le (suc n) (root * root) then root else suc root

-- xs cut into pieces of this size, of which the last may be shorter
abbrev pub chunks : {X : Type 0} → (size : ℕ) → List X → List (List X)
chunks size xs = first_chunks size (div_ceil (length xs) size) xs

-- twice the middle of a box on each axis
abbrev pub twice_middle_x : Rect → ℤ
twice_middle_x b = b.min_x +ℤ b.max_x

abbrev pub twice_middle_y : Rect → ℤ
twice_middle_y b = b.min_y +ℤ b.max_y

-- items with their places: by where the middle of the box is, and then by place
abbrev pub by_middle : {X : Type 0} → (box : X → Rect) → (twice_middle : Rect → ℤ) → ℕ × X → ℕ × X → Ordering
by_middle box twice_middle = then_cmp (on (λ p. twice_middle (box p.1)) int_cmp) (on (λ p. p.0) nat_cmp)

-- items in tiles: sorted by x and cut into vertical slices, as many as there are to be tiles in each, and each slice
-- sorted by y and cut into tiles of as many items as a node has children
abbrev pub tiles : {X : Type 0} → (box : X → Rect) → (fanout : ℕ) → List X → List (List (ℕ × X))
tiles box fanout items =
    let side = ceil_sqrt (div_ceil (length items) fanout) in
    let slices = chunks (side * fanout) (sorted (by_middle box twice_middle_x) (enumerate_from 0 items)) in
    flat_map (λ slice. chunks fanout (sorted (by_middle box twice_middle_y) slice)) slices

-- the items of each tile, without their places
abbrev pub groups : {X : Type 0} → (box : X → Rect) → (fanout : ℕ) → List X → List (List X)
groups box fanout items = map (map (λ p. p.1)) (tiles box fanout items)

-- ---- the nodes over them

-- the lists, one after the other
abbrev pub joined : {X : Type 0} → List (List X) → List X
joined = flat_map (λ xs. xs)

-- the node over a group of items, the first of which is at this index
abbrev pub node_over : {X : Type 0} → (extent : X → Extent) → (size : X → ℕ) → (level first : ℕ) → List X → Node
node_over extent size level first group = record {
  layers = union_of (map (λ x. (extent x).layers) group);
  bounds = hull_of (map (λ x. (extent x).bounds) group);
  first = first;
  size = sum_by size group;
  count = length group;
  level = level;
}

-- a node over each group: the items of the groups follow each other from this index on
abbrev pub nodes_over : {X : Type 0} → (extent : X → Extent) → (size : X → ℕ) → (level first : ℕ) → List (List X)
    → List Node
nodes_over extent size level first [] = []
nodes_over extent size level first (group ∷ more) =
    node_over extent size level first group ∷ nodes_over extent size level (first + length group) more

-- ---- level by level

-- the nodes of this level, in the order in which the level above it is cut, and then those of all levels above, up to one
-- with a single node. They are numbered in this order, from `first` on, and a node's first child is given by its number.
-- The fuel is at least the number of levels
abbrev pub nodes_from : (fuel fanout level first : ℕ) → List Node → List Node
nodes_from zero fanout level first nodes = nodes
nodes_from (suc fuel) fanout level first nodes =
    let cut = groups (λ n. n.bounds) fanout nodes in
    let above = nodes_over extent_of_node (λ n. n.size) (suc level) first cut in
    if nat_le (length nodes) 1 then nodes
    else joined cut ++ nodes_from fuel fanout (suc level) (first + length nodes) above

-- ---- the tree

-- the tree over entries: those with equal middles go by id. Places and numbers begin at 0, and there are no more levels
-- of nodes than nodes of level 1
abbrev pub pack_of : (fanout : ℕ) → List Entry → Packed
pack_of fanout entries =
    let cut = groups (λ e. e.bounds) fanout (sorted (on (λ e. e.id) int_cmp) entries) in
    let leaf_nodes = nodes_over extent_of_entry (λ _. 1) 1 0 cut in
    record { fanout = fanout; entries = joined cut; nodes = nodes_from (length leaf_nodes) fanout 1 0 leaf_nodes }
