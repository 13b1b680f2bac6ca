-- The bounds of a root are the hull of all boxes of its tree.
use Rattle.std.proofs.Common.{◌≡◌, ◌<◌, ℕ, zero, suc, true, List, [], ◌∷◌, ◌++◌, None, Some, length, map, fold, ap, arith, refl, sym, subst}
use Rattle.std.proofs.lemmas.Int.{ints}
use Rattle.std.proofs.lemmas.List.{length-drop, length-take}
use Rattle.std.proofs.lemmas.List.Sorted.{IsPermutation-sym}
use Rattle.std.specs.List.{AllByRecursion, flat_map, reduce}
use Rattle.rt_geo.specs.Boxes.{Rect, hull, inside}
use Rattle.rt_geo.specs.Lemmas.Boxes.{hull-inside, inside-hull_left, inside-hull_right, inside-same, inside-trans}
use Rattle.rt_geo.specs.declared.entry.Entry.{Entry}
use Rattle.rt_tree.specs.Packed.{Packed, IsSound, IsSubtree, child_entries, child_nodes, entries_under, extent_of_node, height, hull_of, root_of}
use Rattle.rt_tree.specs.declared.tree.Node.{Node}
use Rattle.rt_search.proofs.Answering.{IsEntryInside, all_inside}
use Rattle.rt_search.proofs.Elements.{all_map, all_moved}

-- boxes that lie in each other are the same
same_box : (a b : Rect) → inside a b ≡ true → inside b a ≡ true → a ≡ b
same_box a b p q =
    let min_x : a.min_x ≡ b.min_x = grind (arith, ints) in
    let max_x : a.max_x ≡ b.max_x = grind (arith, ints) in
    let min_y : a.min_y ≡ b.min_y = grind (arith, ints) in
    let max_y : a.max_y ≡ b.max_y = grind (arith, ints) in
    λ i. record { min_x = min_x i; max_x = max_x i; min_y = min_y i; max_y = max_y i }

-- ---- the hull of the boxes that a list shows

module _ {X : Type 0} (box : X → Rect) where
  abbrev AreInside : Rect → List X → Type 0
  AreInside c = AllByRecursion (λ x. inside (box x) c ≡ true)

  least_fold : (c y : Rect) (xs : List X) → inside y c ≡ true → AreInside c xs → inside (fold hull y (map box xs)) c ≡ true
  least_fold c y [] h a = h
  least_fold c y (x ∷ xs) h a = least_fold c (hull y (box x)) xs (hull-inside y (box x) c h a.0) a.1

  -- what holds all boxes holds their hull
  least : (c : Rect) (xs : List X) → 0 < length xs → AreInside c xs → inside (hull_of (map box xs)) c ≡ true
  least c [] some a = absurd (omega arith)
  least c (x ∷ xs) some a = least_fold c (box x) xs a.0 a.1

  first_inside : (y : Rect) (xs : List X) → inside y (fold hull y (map box xs)) ≡ true
  first_inside y [] = inside-same y
  first_inside y (x ∷ xs) =
      inside-trans y (hull y (box x)) _ (inside-hull_left y (box x)) (first_inside (hull y (box x)) xs)

  others_inside : (y : Rect) (xs : List X) → AreInside (fold hull y (map box xs)) xs
  others_inside y [] = tt
  others_inside y (x ∷ xs) = (
    inside-trans (box x) (hull y (box x)) _ (inside-hull_right y (box x)) (first_inside (hull y (box x)) xs),
    others_inside (hull y (box x)) xs,
  )

  -- the hull holds all boxes
  around : (xs : List X) → AreInside (hull_of (map box xs)) xs
  around [] = tt
  around (x ∷ xs) = (first_inside (box x) xs, others_inside (box x) xs)

-- ---- a tree

abbrev box_of : Entry → Rect
box_of e = e.bounds

abbrev node_box : Node → Rect
node_box n = n.bounds

all-left : {X : Type 0} (P : X → Type 0) (xs ys : List X) → AllByRecursion P (xs ++ ys) → AllByRecursion P xs
all-left P [] ys a = tt
all-left P (x ∷ xs) ys a = (a.0, all-left P xs ys a.1)

all-right : {X : Type 0} (P : X → Type 0) (xs ys : List X) → AllByRecursion P (xs ++ ys) → AllByRecursion P ys
all-right P [] ys a = a
all-right P (x ∷ xs) ys a = all-right P xs ys a.1

children_inside : (t : Packed) (h : ℕ) (c : Rect)
    → ((n : Node) → IsSubtree t h n → AreInside box_of c (entries_under t h n) → inside n.bounds c ≡ true)
    → (ks : List Node) → AllByRecursion (IsSubtree t h) ks → AreInside box_of c (flat_map (entries_under t h) ks)
    → AreInside node_box c ks
children_inside t h c each [] s a = tt
children_inside t h c each (k ∷ ks) s a = (
  each k s.0 (all-left _ (entries_under t h k) (flat_map (entries_under t h) ks) a),
  children_inside t h c each ks s.1 (all-right _ (entries_under t h k) (flat_map (entries_under t h) ks) a),
)

-- what holds all entries under a node holds its bounds
node_inside : (t : Packed) (h : ℕ) (c : Rect) (n : Node) → IsSubtree t h n → AreInside box_of c (entries_under t h n)
    → inside n.bounds c ≡ true
node_inside t zero c n s a =
    let some : 0 < length (child_entries t n) = grind (arith, length-take, length-drop, s.some, s.range) in
    subst (λ b. inside b c ≡ true) (sym s.exact) (least box_of c (child_entries t n) some a)
node_inside t (suc h) c n s a =
    let some : 0 < length (child_nodes t n) = grind (arith, length-take, length-drop, s.some, s.range) in
    subst (λ b. inside b c ≡ true) (sym s.exact)
    (least node_box c (child_nodes t n) some (children_inside t h c (node_inside t h c) (child_nodes t n) s.below a))

list_empty : (es : List Entry) → (0 < length es → ⊥) → reduce hull (map box_of es) ≡ None
list_empty [] none = refl
list_empty (e ∷ es) none = absurd (none (omega arith))

-- the least box around boxes is their hull
hull_is : (c : Rect) (es : List Entry) → 0 < length es → AreInside box_of c es
    → ((d : Rect) → AreInside box_of d es → inside c d ≡ true) → Some c ≡ reduce hull (map box_of es)
hull_is c [] some a is_least = absurd (omega arith)
hull_is c (e ∷ es) some a is_least =
    ap Some (same_box c (fold hull e.bounds (map box_of es)) (is_least _ (around box_of (e ∷ es))) (least_fold box_of c e.bounds es a.0 a.1))

pub no_boxes : (t : Packed) → (0 < length t.entries → ⊥) → reduce hull (map box_of t.entries) ≡ None
no_boxes t none = list_empty t.entries none

-- the box of the root of a tree that has entries is the hull of their boxes
pub root_box : (t : Packed) → IsSound t → 0 < length t.nodes → Some (root_of t).bounds ≡ reduce hull (map box_of t.entries)
root_box t sound some =
    let root = root_of t in let subtree = sound.root some in let under = entries_under t (height t) root in
    let all : AreInside box_of root.bounds under =
    all_map (IsEntryInside (extent_of_node root)) (λ e. inside e.bounds root.bounds ≡ true) (λ e i. i.inside) under
    (all_inside t (height t) root subtree) in
    hull_is root.bounds t.entries (sound.some.0 some) (all_moved _ under t.entries (sound.every some) all)
    (λ d a. node_inside t (height t) d root subtree
    (all_moved _ t.entries under (IsPermutation-sym under t.entries (sound.every some)) a))
