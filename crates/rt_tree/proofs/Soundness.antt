-- A packed tree is sound.
use Rattle.std.proofs.Common.{◌≡◌, ◌<◌, ◌≤◌, ◌+◌, ℕ, zero, suc, Bool, true, List, [], ◌∷◌, ◌++◌, length, map, take, drop, refl}
use Rattle.std.proofs.lemmas.List.{drop_at, take_at, Elements.{recursion_from_All}, Sums.{sum_by-cons}}
use Rattle.std.proofs.{Common.{sym, ◌∙◌, ap, subst, arith, append_assoc, length-append, rules}}
use Rattle.std.proofs.lemmas.{Grind.{flat_map-append}, List.{drop-append-le, length-drop, take-append-le}}
use Rattle.std.specs.{List.{All, AllByRecursion, flat_map, fold, reduce, sum_by}, Prelude.{unwrap_or}}
use Rattle.rt_geo.specs.{Boxes.{Rect, hull, inside, plane}, Entries.{HasBox, HasLayer}, Lemmas.Layers.{HasSome-only}}
use Rattle.rt_geo.specs.{Laws.{Extent, IsBoxInside, IsPart, extent_of_entry}, Layers.{HasSome, no_layers, subset, union}}
use Rattle.rt_geo.specs.Lemmas.Boxes.{IsRect-hull, hull-inside, inside-hull_left, inside-hull_right, inside-same, inside-trans}
use Rattle.rt_geo.specs.{Lemmas.Laws.{IsBoxInside-entry, IsBoxInside-part}, declared.entry.Entry.{Entry}}
use Rattle.rt_geo.specs.Lemmas.Layers.{HasSome-union, subset-same, subset-trans, subset-union_left, subset-union_right}
use Rattle.rt_geo.specs.declared.layers.Layers.{Layers}
use Rattle.rt_tree.specs.Packed.{Packed, IsLeafNode, IsSubtree, child_nodes, entries_under, extent_of_node, hull_of, no_box}
use Rattle.rt_tree.specs.{Packed.{union_of}, Packing.{chunks, joined, node_over, nodes_over}, SortKeys.{IsInPlane}}
use Rattle.rt_tree.specs.declared.tree.Node.{Node}
use Rattle.rt_tree.proofs.{ChunkLemmas.{chunks-All, chunks-size}, OrderLemmas.{flat_map-same}}

-- ---- lists

-- a group that stands behind others
pub group_at : {X : Type 0} (front group rest : List X) → take (length group) (drop (length front) (front ++
    (group ++ rest))) ≡ group
group_at front group rest =
    ap (take (length group)) (drop_at front (group ++ rest) (length front) refl)
    ∙ take_at group rest (length group) refl

pub all_map : {X : Type 0} (P Q : X → Type 0) → ((x : X) → P x → Q x) → (xs : List X) → AllByRecursion P xs
    → AllByRecursion Q xs
all_map P Q f [] a = tt
all_map P Q f (x ∷ xs) a = (f x a.0, all_map P Q f xs a.1)

-- ---- hulls and unions

-- what a function of two elements makes of a list, from the first on; of an empty list another element
abbrev reduced : {X : Type 0} → (X → X → X) → (none : X) → List X → X
reduced f none xs = unwrap_or (reduce f xs) none

module _ {X Y : Type 0} (show : X → Y) (f : Y → Y → Y) where
  -- what each of a group shows, and what two make of it, the whole group makes
  kept-fold : (P : Y → Type 0) → ((a b : Y) → P a → P b → P (f a b)) → (y : Y) (xs : List X) → P y
      → AllByRecursion (λ x. P (show x)) xs → P (fold f y (map show xs))
  kept-fold P kept y [] h a = h
  kept-fold P kept y (x ∷ xs) h a = kept-fold P kept (f y (show x)) xs (kept y (show x) h a.0) a.1

  kept-reduced : (P : Y → Type 0) → ((a b : Y) → P a → P b → P (f a b)) → (none : Y) (xs : List X) → 0 < length xs
      → AllByRecursion (λ x. P (show x)) xs → P (reduced f none (map show xs))
  kept-reduced P kept none [] some a = absurd (omega arith)
  kept-reduced P kept none (x ∷ xs) some a = kept-fold P kept (show x) xs a.0 a.1

  module _ (is_part : Y → Y → Bool) (same : (a : Y) → is_part a a ≡ true)
      (trans : (a b c : Y) → is_part a b ≡ true → is_part b c ≡ true → is_part a c ≡ true)
      (left : (a b : Y) → is_part a (f a b) ≡ true) (right : (a b : Y) → is_part b (f a b) ≡ true) where
    -- the first is part of what is made of all, and so is each later one
    part-fold : (y : Y) (xs : List X) → is_part y (fold f y (map show xs)) ≡ true
    part-fold y [] = same y
    part-fold y (x ∷ xs) = trans y (f y (show x)) _ (left y (show x)) (part-fold (f y (show x)) xs)

    all_part-fold : (y : Y) (xs : List X) → AllByRecursion (λ x. is_part (show x) (fold f y (map show xs)) ≡ true) xs
    all_part-fold y [] = tt
    all_part-fold y (x ∷ xs) = (
      trans (show x) (f y (show x)) _ (right y (show x)) (part-fold (f y (show x)) xs),
      all_part-fold (f y (show x)) xs,
    )

    parts-reduced : (none : Y) (xs : List X)
        → AllByRecursion (λ x. is_part (show x) (reduced f none (map show xs)) ≡ true) xs
    parts-reduced none [] = tt
    parts-reduced none (x ∷ xs) = (part-fold (show x) xs, all_part-fold (show x) xs)

-- the hull of boxes in the plane is one
hull-in_plane : {X : Type 0} (box : X → Rect) (xs : List X) → 0 < length xs → AllByRecursion (λ x. IsInPlane (box x)) xs
    → IsInPlane (hull_of (map box xs))
hull-in_plane box =
    kept-reduced box hull IsInPlane (λ a b p q. (IsRect-hull a b p.0 q.0, hull-inside a b plane p.1 q.1)) no_box

union-HasSome : {X : Type 0} (layers : X → Layers) (xs : List X) → 0 < length xs
    → AllByRecursion (λ x. HasSome (layers x)) xs → HasSome (union_of (map layers xs))
union-HasSome layers = kept-reduced layers union HasSome HasSome-union no_layers

-- two facts of each element, as one
both_of_all : {X : Type 0} (P Q R : X → Type 0) → ((x : X) → P x → Q x → R x) → (xs : List X) → AllByRecursion P xs
    → AllByRecursion Q xs → AllByRecursion R xs
both_of_all P Q R f [] a b = tt
both_of_all P Q R f (x ∷ xs) a b = (f x a.0 b.0, both_of_all P Q R f xs a.1 b.1)

module _ {X : Type 0} (extent : X → Extent) where
  -- the extent of a group: the hull of their bounds, and the union of their layers
  abbrev whole_of : List X → Extent
  whole_of xs = record {
    bounds = hull_of (map (λ x. (extent x).bounds) xs);
    layers = union_of (map (λ x. (extent x).layers) xs);
  }

  -- each of them is part of it
  parts_of-whole : (xs : List X) → AllByRecursion (λ x. IsPart (extent x) (whole_of xs)) xs
  parts_of-whole xs =
      both_of_all (λ x. inside (extent x).bounds (whole_of xs).bounds ≡ true)
      (λ x. subset (extent x).layers (whole_of xs).layers ≡ true) (λ x. IsPart (extent x) (whole_of xs))
      (λ x h k. record { bounds = h; layers = k }) xs
      (parts-reduced (λ x. (extent x).bounds) hull inside inside-same inside-trans inside-hull_left inside-hull_right
      no_box xs)
      (parts-reduced (λ x. (extent x).layers) union subset subset-same subset-trans subset-union_left subset-union_right
      no_layers xs)

-- an entry as tables have them
abbrev pub IsEntry : Entry → Type 0
IsEntry e = HasBox e × HasLayer e

-- ---- what the nodes of a level stand for

pub length-nodes_over : {X : Type 0} (extent : X → Extent) (size : X → ℕ) (level first : ℕ) (groups : List (List X))
    → length (nodes_over extent size level first groups) ≡ length groups
length-nodes_over extent size level first [] = refl
length-nodes_over extent size level first (g ∷ gs) = ap (λ n. suc n) (length-nodes_over extent size level
    (first + length g) gs)

pub sum_by-ones : {X : Type 0} (xs : List X) → sum_by (λ _. 1) xs ≡ length xs
sum_by-ones [] = refl
sum_by-ones (x ∷ xs) = sum_by-cons (λ _. 1) x xs ∙ ap (λ n. 1 + n) (sum_by-ones xs) ∙ omega arith

-- a chunk of a level
abbrev pub IsGroup : {X : Type 0} → (fanout : ℕ) → (X → Type 0) → List X → Type 0
IsGroup fanout P g = ((0 < length g) × (length g ≤ fanout)) × AllByRecursion P g

-- chunks are such groups
pub chunk_groups : {X : Type 0} (fanout : ℕ) (P : X → Type 0) (gs : List (List X)) → 0 < fanout
    → gs ≡ chunks fanout (joined gs) → All P (joined gs) → AllByRecursion (IsGroup fanout P) gs
chunk_groups fanout P gs some e a =
    let xs = joined gs in
    subst (AllByRecursion (IsGroup fanout P)) (sym e) (both_of_all (λ g. (0 < length g) × (length g ≤ fanout)) (All P)
    (IsGroup fanout P) (λ g size all. (size, recursion_from_All P g all)) (chunks fanout xs)
    (chunks-size fanout xs some) (chunks-All P fanout xs a))

-- the children of a node above level 1 are nodes of the tree
pub inner-range : (t : Packed) (below : ℕ) (n : Node) → IsSubtree t below n → 0 < below
    → n.first + n.count ≤ length t.nodes
inner-range t zero n s h = absurd (omega arith)
inner-range t (suc below) n s h = s.range

-- the boxes of nodes over groups are in the plane where those of the groups are
pub nodes_over-in_plane : {X : Type 0} (extent : X → Extent) (size : X → ℕ) (fanout level first : ℕ) (gs : List (List X))
    → AllByRecursion (IsGroup fanout (λ x. IsInPlane (extent x).bounds)) gs
    → AllByRecursion (λ n. IsInPlane n.bounds) (nodes_over extent size level first gs)
nodes_over-in_plane extent size fanout level first [] a = tt
nodes_over-in_plane extent size fanout level first (g ∷ gs) a = (
  hull-in_plane (λ x. (extent x).bounds) g a.0.0.0 a.0.1,
  nodes_over-in_plane extent size fanout level (first + length g) gs a.1,
)

-- nodes over groups of items that stand one after the other: each has its group
module _ {X : Type 0} (extent : X → Extent) (size : X → ℕ) (level : ℕ) (xs : List X) where
  over_each : (P : Node → Type 0) (Q : List X → Type 0) → ((first : ℕ) (g : List X) → Q g → take (length g) (drop first xs) ≡ g
      → first + length g ≤ length xs → P (node_over extent size level first g))
      → (gs : List (List X)) (front : List X) → xs ≡ front ++ joined gs → AllByRecursion Q gs
      → AllByRecursion P (nodes_over extent size level (length front) gs)
  over_each P Q each [] front is a = tt
  over_each P Q each (g ∷ gs) front is a = (
    each (length front) g a.0 (ap (λ l. take (length g) (drop (length front) l)) is ∙ group_at front g (joined gs))
        (omega (arith, ap length is, length-append front (g ++ joined gs), length-append g (joined gs))),
    subst (λ n. AllByRecursion P (nodes_over extent size level n gs)) (length-append front g)
        (over_each P Q each gs (front ++ g) (is ∙ sym (append_assoc front g (joined gs))) a.1),
  )

  pub over_flat : {Y : Type 0} (f : Node → List Y) (h : List X → List Y) → ((first : ℕ) (g : List X)
      → take (length g) (drop first xs) ≡ g → f (node_over extent size level first g) ≡ h g)
      → (gs : List (List X)) (front : List X) → xs ≡ front ++ joined gs
      → flat_map f (nodes_over extent size level (length front) gs) ≡ flat_map h gs
  over_flat f h each [] front is = refl
  over_flat f h each (g ∷ gs) front is =
      let here = ap (λ l. take (length g) (drop (length front) l)) is ∙ group_at front g (joined gs) in
      let rest = subst (λ n. flat_map f (nodes_over extent size level n gs) ≡ flat_map h gs) (length-append front g)
      (over_flat f h each gs (front ++ g) (is ∙ sym (append_assoc front g (joined gs)))) in
      rw (each (length front) g here, rest) refl

module _ (fanout : ℕ) (es : List Entry) where
  -- the tree with these nodes
  abbrev pub tree : List Node → Packed
  tree ns = record { fanout = fanout; entries = es; nodes = ns }

  -- ---- more nodes behind change nothing below a node

  pub children_more : (ns more : List Node) (n : Node) → n.first + n.count ≤ length ns
      → child_nodes (tree (ns ++ more)) n ≡ child_nodes (tree ns) n
  children_more ns more n h =
      ap (take n.count) (drop-append-le n.first ns more (omega arith))
      ∙ take-append-le n.count (drop n.first ns) more (omega (arith, length-drop n.first ns))

  pub subtree_more : (ns more : List Node) (h : ℕ) (n : Node) → IsSubtree (tree ns) h n
      → IsSubtree (tree (ns ++ more)) h n
  subtree_more ns more zero n s = search rules
  subtree_more ns more (suc h) n s =
      let same = sym (children_more ns more n s.range) in
      record {
        level = s.level;
        some = s.some;
        few = s.few;
        range = (let r = s.range in omega (arith, length-append ns more));
        below = subst (AllByRecursion (IsSubtree (tree (ns ++ more)) h)) same (all_map (IsSubtree (tree ns) h)
            (IsSubtree (tree (ns ++ more)) h) (λ k. subtree_more ns more h k) (child_nodes (tree ns) n) s.below);
        valid = s.valid;
        coordinates = s.coordinates;
        layers = s.layers;
        exact = s.exact ∙ ap (λ ks. hull_of (map (λ (k : Node). k.bounds) ks)) same;
        exact_layers = s.exact_layers ∙ ap (λ ks. union_of (map (λ (k : Node). k.layers) ks)) same;
        within = subst (AllByRecursion (λ k. IsPart (extent_of_node k) (extent_of_node n))) same s.within;
        size = s.size ∙ ap (sum_by (λ k. k.size)) same;
      }

  under_more : (ns more : List Node) (h : ℕ) (n : Node) → IsSubtree (tree ns) h n
      → entries_under (tree (ns ++ more)) h n ≡ entries_under (tree ns) h n
  under_more ns more zero n s = refl
  under_more ns more (suc h) n s =
      ap (flat_map (entries_under (tree (ns ++ more)) h)) (children_more ns more n s.range)
      ∙ flat_map-same _ _ (IsSubtree (tree ns) h) (λ k. under_more ns more h k) (child_nodes (tree ns) n) s.below

  pub all_under_more : (ns more : List Node) (h : ℕ) (ks : List Node) → AllByRecursion (IsSubtree (tree ns) h) ks
      → flat_map (entries_under (tree (ns ++ more)) h) ks ≡ flat_map (entries_under (tree ns) h) ks
  all_under_more ns more h = flat_map-same _ _ (IsSubtree (tree ns) h) (under_more ns more h)

  subtree_in_plane : (t : Packed) (h : ℕ) (n : Node) → IsSubtree t h n → IsInPlane n.bounds
  subtree_in_plane t zero n s = (s.valid, s.coordinates)
  subtree_in_plane t (suc h) n s = (s.valid, s.coordinates)

  subtree_layers : (t : Packed) (h : ℕ) (n : Node) → IsSubtree t h n → HasSome n.layers
  subtree_layers t zero n s = s.layers
  subtree_layers t (suc h) n s = s.layers

  -- ---- the nodes over groups of entries

  pub leaves_sound : (ns : List Node) (gs : List (List Entry)) (front : List Entry) → es ≡ front ++ joined gs
      → AllByRecursion (IsGroup fanout IsEntry) gs
      → AllByRecursion (IsLeafNode (tree ns)) (nodes_over extent_of_entry (λ _. 1) 1 (length front) gs)
  leaves_sound ns = over_each extent_of_entry (λ _. 1) 1 es (IsLeafNode (tree ns)) (IsGroup fanout IsEntry) (λ first g a here range.
      let box = λ (e : Entry). e.bounds in
      let layers = λ (e : Entry). (extent_of_entry e).layers in
      let whole = whole_of extent_of_entry g in
      let around = hull-in_plane box g a.0.0 (all_map IsEntry (λ e. IsInPlane e.bounds) (λ e b. (b.0.box, b.0.coordinates)) g a.1) in
      record {
        level = refl;
        some = a.0.0;
        few = a.0.1;
        range = range;
        valid = around.0;
        coordinates = around.1;
        layers = union-HasSome layers g a.0.0 (all_map IsEntry (λ e. HasSome (layers e)) (λ e b. HasSome-only e.layer b.1) g a.1);
        exact = ap (λ l. hull_of (map box l)) (sym here);
        exact_layers = ap (λ l. union_of (map layers l)) (sym here);
        within = subst (AllByRecursion (λ e. IsBoxInside (extent_of_entry e) whole)) (sym here)
            (both_of_all IsEntry (λ e. IsPart (extent_of_entry e) whole) (λ e. IsBoxInside (extent_of_entry e) whole)
            (λ e b part. IsBoxInside-part (extent_of_entry e) (extent_of_entry e) whole part
            (IsBoxInside-entry e b.0 b.1)) g a.1 (parts_of-whole extent_of_entry g));
        size = sum_by-ones g;
      })

  pub leaves_under : (ns : List Node) (gs : List (List Entry)) (front : List Entry) → es ≡ front ++ joined gs
      → flat_map (entries_under (tree ns) 0) (nodes_over extent_of_entry (λ _. 1) 1 (length front) gs) ≡ joined gs
  leaves_under ns = over_flat extent_of_entry (λ _. 1) 1 es (entries_under (tree ns) 0) (λ g. g) (λ first g here. here)

  -- ---- the nodes over groups of nodes

  pub over_sound : (ns : List Node) (h : ℕ) (gs : List (List Node)) (front : List Node) → ns ≡ front ++ joined gs
      → AllByRecursion (IsGroup fanout (IsSubtree (tree ns) h)) gs
      → AllByRecursion (IsSubtree (tree ns) (suc h)) (nodes_over extent_of_node (λ n. n.size) (suc (suc h))
      (length front) gs)
  over_sound ns h = over_each extent_of_node (λ n. n.size) (suc (suc h)) ns (IsSubtree (tree ns) (suc h))
      (IsGroup fanout (IsSubtree (tree ns) h)) (λ first g a here range.
      let box = λ (n : Node). n.bounds in
      let layers = λ (n : Node). n.layers in
      let around = hull-in_plane box g a.0.0 (all_map (IsSubtree (tree ns) h) (λ n. IsInPlane n.bounds)
      (subtree_in_plane (tree ns) h) g a.1) in
      record {
        level = refl;
        some = a.0.0;
        few = a.0.1;
        range = range;
        below = subst (AllByRecursion (IsSubtree (tree ns) h)) (sym here) a.1;
        valid = around.0;
        coordinates = around.1;
        layers = union-HasSome layers g a.0.0 (all_map (IsSubtree (tree ns) h) (λ n. HasSome n.layers)
            (subtree_layers (tree ns) h) g a.1);
        exact = ap (λ l. hull_of (map box l)) (sym here);
        exact_layers = ap (λ l. union_of (map layers l)) (sym here);
        within = subst (AllByRecursion (λ k. IsPart (extent_of_node k) (whole_of extent_of_node g))) (sym here)
            (parts_of-whole extent_of_node g);
        size = ap (sum_by (λ k. k.size)) (sym here);
      })

  pub over_under : (ns : List Node) (h : ℕ) (gs : List (List Node)) (front : List Node) → ns ≡ front ++ joined gs
      → flat_map (entries_under (tree ns) (suc h)) (nodes_over extent_of_node (λ n. n.size) (suc (suc h))
      (length front) gs) ≡ flat_map (entries_under (tree ns) h) (joined gs)
  over_under ns h gs front is = over_flat extent_of_node (λ n. n.size) (suc (suc h)) ns (entries_under (tree ns) (suc h))
      (flat_map (entries_under (tree ns) h)) (λ first g here. ap (flat_map (entries_under (tree ns) h)) here) gs front is
      ∙ flat_each gs
    where
      flat_each : (gs : List (List Node))
          → flat_map (flat_map (entries_under (tree ns) h)) gs ≡ flat_map (entries_under (tree ns) h) (joined gs)
      flat_each [] = refl
      flat_each (g ∷ gs) = rw (flat_each gs) (sym (flat_map-append (entries_under (tree ns) h) g (joined gs)))
