-- A packed tree: its entries in the order of their places, and its nodes in the order of their numbers.
use Rattle.std.specs.Prelude.{◌↔◌, ◌≡◌, ◌+◌, ◌-◌, ◌<◌, ◌≤◌, ◌^◌, ◌==◌, ℕ, nat_lt, zero, suc, true, pos, if◌then◌else◌}
use Rattle.std.specs.Prelude.{List, [], ◌∷◌, drop, get_or, length, map, take, unwrap_or}
use Rattle.std.specs.List.{All, AllByRecursion, flat_map, reduce, sum_by}
use Rattle.std.specs.List.Sorted.{IsPermutation}
use Rattle.rt_geo.specs.Boxes.{Rect, IsRect, hull, inside, plane, rect_of}
use Rattle.rt_geo.specs.Layers.{HasSome, no_layers, union}
use Rattle.rt_geo.specs.Laws.{Extent, IsBoxInside, IsPart, extent_of_entry}
use Rattle.rt_geo.specs.declared.entry.Entry.{Entry}
use Rattle.rt_geo.specs.declared.layers.Layers.{Layers}
use Rattle.rt_tree.specs.Entries.{IsTable}
use Rattle.rt_tree.specs.Levels.{level_by_level, level_sizes}
use Rattle.rt_tree.specs.declared.tree.Node.{Node}

-- ---- what a tree holds

-- a tree: the most children of a node, the entries by index, and the nodes by number
pub record Packed : Type 0 where
  pub fanout : ℕ
  pub entries : List Entry
  pub nodes : List Node

-- the entries right under a node of level 1
abbrev pub child_entries : Packed → Node → List Entry
child_entries t n = take n.count (drop n.first t.entries)

-- the nodes right under a node of a higher level
abbrev pub child_nodes : Packed → Node → List Node
child_nodes t n = take n.count (drop n.first t.nodes)

-- the entries under a node that has `below` levels of nodes below it
abbrev pub entries_under : Packed → (below : ℕ) → Node → List Entry
entries_under t zero n = child_entries t n
entries_under t (suc below) n = flat_map (entries_under t below) (child_nodes t n)

-- the box of what has no children
abbrev pub no_box : Rect
no_box = rect_of (pos 0) (pos 0) (pos 0) (pos 0)

-- a node that no tree holds
abbrev pub no_node : Node
no_node = record { layers = no_layers; bounds = no_box; first = 0; size = 0; count = 0; level = 0 }

-- the node with a number
abbrev pub node_at : Packed → ℕ → Node
node_at t number = get_or t.nodes number no_node

-- the root: the node with the greatest number
abbrev pub root_of : Packed → Node
root_of t = node_at t (length t.nodes - 1)

-- how many levels of nodes are below the root
abbrev pub height : Packed → ℕ
height t = (root_of t).level - 1

-- all that a query function is shown of a node
abbrev pub extent_of_node : Node → Extent
extent_of_node n = record { bounds = n.bounds; layers = n.layers }

-- the least box in which boxes lie, of which there is at least one
abbrev pub hull_of : List Rect → Rect
hull_of boxes = unwrap_or (reduce hull boxes) no_box

-- the layers that are in some of the sets
abbrev pub union_of : List Layers → Layers
union_of sets = unwrap_or (reduce union sets) no_layers

-- ---- what holds of each
--
-- All of this follows from the definition of the packed tree, `pack_of` in Packing.antt, and is proved from it: nobody
-- has to believe it. What counts is the clause `value` of `Tree::pack`, which says that a tree is that packed tree.

-- a node of level 1: its children are entries
pub record IsLeafNode (t : Packed) (n : Node) : Type 0 where
  pub level : n.level ≡ 1
  pub some : 0 < n.count
  pub few : n.count ≤ t.fanout
  pub range : n.first + n.count ≤ length t.entries
  pub valid : IsRect n.bounds
  pub coordinates : inside n.bounds plane ≡ true
  pub layers : HasSome n.layers
  pub exact : n.bounds ≡ hull_of (map (λ e. e.bounds) (child_entries t n))
  pub exact_layers : n.layers ≡ union_of (map (λ e. (extent_of_entry e).layers) (child_entries t n))
  pub within : AllByRecursion (λ e. IsBoxInside (extent_of_entry e) (extent_of_node n)) (child_entries t n)
  pub size : n.size ≡ n.count

-- a node of a higher level, `Below` holding of its children, which are nodes
pub record IsInnerNode (t : Packed) (levels : ℕ) (Below : Node → Type 0) (n : Node) : Type 0 where
  pub level : n.level ≡ suc (suc levels)
  pub some : 0 < n.count
  pub few : n.count ≤ t.fanout
  pub range : n.first + n.count ≤ length t.nodes
  pub below : AllByRecursion Below (child_nodes t n)
  pub valid : IsRect n.bounds
  pub coordinates : inside n.bounds plane ≡ true
  pub layers : HasSome n.layers
  pub exact : n.bounds ≡ hull_of (map (λ k. k.bounds) (child_nodes t n))
  pub exact_layers : n.layers ≡ union_of (map (λ k. k.layers) (child_nodes t n))
  pub within : AllByRecursion (λ k. IsPart (extent_of_node k) (extent_of_node n)) (child_nodes t n)
  pub size : n.size ≡ sum_by (λ k. k.size) (child_nodes t n)

-- a node with `below` levels of nodes below it
abbrev pub IsSubtree : Packed → (below : ℕ) → Node → Type 0
IsSubtree t zero n = IsLeafNode t n
IsSubtree t (suc below) n = IsInnerNode t below (IsSubtree t below) n

-- a tree that a search may rely on: the entries are a table's, each is once under the root, and each node is as its level
-- requires
pub record IsSound (t : Packed) : Type 0 where
  pub several : 2 ≤ t.fanout
  pub table : IsTable t.entries
  pub some : (0 < length t.nodes) ↔ (0 < length t.entries)
  pub root : 0 < length t.nodes → IsSubtree t (height t) (root_of t)
  pub every : 0 < length t.nodes → IsPermutation (entries_under t (height t) (root_of t)) t.entries
  pub nodes : All (λ n. IsSubtree t (n.level - 1) n) t.nodes
  pub top : (root_of t).level + 1 ≡ length (level_sizes (length t.entries) t.fanout)
  pub few_levels : (root_of t).level ≤ 24
  pub few_nodes : length t.nodes < 2 ^ 32

-- the nodes right under a node above level 1, and the entries right under a node of level 1
abbrev pub nodes_under : Packed → Node → List Node
nodes_under t n = if nat_lt 1 n.level then child_nodes t n else []

abbrev pub right_under : Packed → Node → List Entry
right_under t n = if n.level == 1 then child_entries t n else []

-- each entry is a child of exactly one node, and so is each node but the root; the nodes are in order of level
pub record IsWhole (t : Packed) : Type 0 where
  pub entries_once : IsPermutation (flat_map (right_under t) t.nodes) t.entries
  pub nodes_once : 0 < length t.nodes → IsPermutation (root_of t ∷ flat_map (nodes_under t) t.nodes) t.nodes
  pub levels : map (λ n. n.level) t.nodes ≡ level_by_level 1 (drop 1 (level_sizes (length t.entries) t.fanout))
