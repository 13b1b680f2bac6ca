-- Answers that were worked out by hand: the definitions give them by computing.
use Rattle.std.proofs.Common.{◌≡◌, refl, ℕ, ℤ, pos, negsuc, zero, suc, [], ◌∷◌, Some, None, map}
use Rattle.std.specs.Ordering.{nat_cmp}
use Rattle.rt_geo.specs.{Boxes.{Rect, rect_of}, Layers.{only}, declared.entry.Entry.{Entry}}
use Rattle.rt_tree.specs.{Entries.{first_repeat}, Levels.{level_sizes}, Packing.{ceil_sqrt, chunks, pack_of}}
use Rattle.rt_tree.specs.{Sorting.{limited, sorted}, declared.tree.Node.{Node}}

sorted_row : sorted nat_cmp (3 ∷ 1 ∷ 2 ∷ 1 ∷ []) ≡ 1 ∷ 1 ∷ 2 ∷ 3 ∷ []
sorted_row = refl

limited_row : limited {X = ℕ} (Some 2) (5 ∷ 4 ∷ 3 ∷ []) ≡ 5 ∷ 4 ∷ []
limited_row = refl

not_limited : limited {X = ℕ} None (5 ∷ 4 ∷ 3 ∷ []) ≡ 5 ∷ 4 ∷ 3 ∷ []
not_limited = refl

-- five entries in pairs: three nodes, then two, then the root
five_in_pairs : level_sizes 5 2 ≡ 5 ∷ 3 ∷ 2 ∷ 1 ∷ []
five_in_pairs = refl

one_too_many : level_sizes 65 64 ≡ 65 ∷ 2 ∷ 1 ∷ []
one_too_many = refl

-- a single entry has a node above it
one_entry : level_sizes 1 16 ≡ 1 ∷ 1 ∷ []
one_entry = refl

no_entries : level_sizes 0 16 ≡ 0 ∷ []
no_entries = refl

-- ---- lists cut into pieces

in_twos : chunks {X = ℕ} 2 (1 ∷ 2 ∷ 3 ∷ 4 ∷ 5 ∷ []) ≡ (1 ∷ 2 ∷ []) ∷ (3 ∷ 4 ∷ []) ∷ (5 ∷ []) ∷ []
in_twos = refl

in_full_twos : chunks {X = ℕ} 2 (1 ∷ 2 ∷ 3 ∷ 4 ∷ []) ≡ (1 ∷ 2 ∷ []) ∷ (3 ∷ 4 ∷ []) ∷ []
in_full_twos = refl

nothing_cut : chunks {X = ℕ} 2 [] ≡ []
nothing_cut = refl

-- ---- the tree over five boxes, two children for each node

-- negative numbers by their absolute value
abbrev minus : ℕ → ℤ
minus zero = pos 0
minus (suc n) = negsuc n

abbrev entry : ℕ → Rect → Entry
entry id bounds = record { id = pos id; bounds = bounds; layer = 0 }

abbrev node : Rect → (level first count size : ℕ) → Node
node bounds level first count size =
    let layers = only 0 in
    record { layers = layers; bounds = bounds; first = first; size = size; count = count; level = level }

abbrev box1 : Entry
box1 = entry 1 (rect_of (pos 0) (pos 10) (pos 0) (pos 10))

abbrev box2 : Entry
box2 = entry 2 (rect_of (pos 5) (pos 15) (pos 5) (pos 15))

abbrev box3 : Entry
box3 = entry 3 (rect_of (pos 20) (pos 30) (pos 0) (pos 10))

abbrev box4 : Entry
box4 = entry 4 (rect_of (minus 5) (minus 1) (minus 5) (minus 1))

abbrev box5 : Entry
box5 = entry 5 (rect_of (pos 12) (pos 12) (pos 12) (pos 12))

five_boxes : (pack_of 2 (box1 ∷ box2 ∷ box3 ∷ box4 ∷ box5 ∷ [])).entries ≡ box4 ∷ box1 ∷ box2 ∷ box5 ∷ box3 ∷ []
five_boxes = refl

nodes_over_five_boxes : (pack_of 2 (box1 ∷ box2 ∷ box3 ∷ box4 ∷ box5 ∷ [])).nodes
    ≡ node (rect_of (minus 5) (pos 10) (minus 5) (pos 10)) 1 0 2 2
    ∷ node (rect_of (pos 20) (pos 30) (pos 0) (pos 10)) 1 4 1 1
    ∷ node (rect_of (pos 5) (pos 15) (pos 5) (pos 15)) 1 2 2 2
    ∷ node (rect_of (minus 5) (pos 30) (minus 5) (pos 10)) 2 0 2 3
    ∷ node (rect_of (pos 5) (pos 15) (pos 5) (pos 15)) 2 2 1 2
    ∷ node (rect_of (minus 5) (pos 30) (minus 5) (pos 15)) 3 3 2 5 ∷ []
nodes_over_five_boxes = refl

-- ---- five equal boxes, their ids falling: they stand by id

abbrev point : ℕ → Entry
point id = entry id (rect_of (pos 0) (pos 0) (pos 0) (pos 0))

abbrev over_points : (level first count size : ℕ) → Node
over_points = node (rect_of (pos 0) (pos 0) (pos 0) (pos 0))

five_points : (pack_of 2 (point 5 ∷ point 4 ∷ point 3 ∷ point 2 ∷ point 1 ∷ [])).entries ≡ point 1 ∷ point 2 ∷ point
    3 ∷ point 4 ∷ point 5 ∷ []
five_points = refl

nodes_over_five_points : (pack_of 2 (point 5 ∷ point 4 ∷ point 3 ∷ point 2 ∷ point 1 ∷ [])).nodes
    ≡ over_points 1 0 2 2 ∷ over_points 1 2 2 2 ∷ over_points 1 4 1 1 ∷ over_points 2 0 2 4 ∷ over_points 2 2 1 1 ∷
    over_points 3 3 2 5 ∷ []
nodes_over_five_points = refl

-- ---- a single entry has a node above it, and no entries have none

nodes_over_one_entry : (pack_of 16 (box1 ∷ [])).nodes ≡ node box1.bounds 1 0 1 1 ∷ []
nodes_over_one_entry = refl

nothing_packed : (pack_of 16 []).nodes ≡ []
nothing_packed = refl

square_roots : map ceil_sqrt (0 ∷ 1 ∷ 2 ∷ 4 ∷ 5 ∷ 9 ∷ 10 ∷ []) ≡ 0 ∷ 1 ∷ 2 ∷ 2 ∷ 3 ∷ 3 ∷ 4 ∷ []
square_roots = refl

-- ---- ids that come again: the first entry whose id an earlier one has is reported

no_repeat : first_repeat (point 3 ∷ point 1 ∷ point 2 ∷ []) ≡ None
no_repeat = refl

last_repeats : first_repeat (point 1 ∷ point 2 ∷ point 3 ∷ point 1 ∷ []) ≡ Some 3
last_repeats = refl

first_of_two_repeats : first_repeat (point 1 ∷ point 2 ∷ point 2 ∷ point 1 ∷ []) ≡ Some 2
first_of_two_repeats = refl
