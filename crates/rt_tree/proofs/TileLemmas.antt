-- Tiles are chunks of the items in one order.
use Rattle.std.proofs.Common.{◌≡◌, ◌<◌, ◌≤◌, ◌+◌, ◌*◌, ℕ, Ordering, List, [], ◌∷◌, length, map, refl, sym, ◌∙◌, ap, subst}
use Rattle.std.proofs.{Common.{arith, IsPermutation}, lemmas.List.{Folds.{flat_map-map}, FromFn.{length-enumerate_from}}}
use Rattle.std.proofs.lemmas.List.Sorted.{IsPermutation-append, IsPermutation-map, IsPermutation-refl, IsPermutation-trans}
use Rattle.std.proofs.lemmas.List.Sorted.{length_permutation}
use Rattle.std.specs.{Int.{div_ceil}, List.{enumerate_from, flat_map}}
use Rattle.rt_geo.specs.Boxes.{Rect}
use Rattle.rt_tree.specs.Packing.{by_middle, ceil_sqrt, chunks, groups, joined, tiles, twice_middle_x, twice_middle_y}
use Rattle.rt_tree.specs.Sorting.{sorted}
use Rattle.rt_tree.proofs.ChunkLemmas.{chunks-nil, chunks_of-chunks, div_ceil-step, joined-chunks, map-chunks}
use Rattle.rt_tree.proofs.{OrderLemmas.{map-flat_map}, SortingLemmas.{IsPermutation-sorted}, SquareLemmas.{ceil_sqrt-positive}}

sorted-length : {Y : Type 0} (cmp : Y → Y → Ordering) (ys : List Y) → length (sorted cmp ys) ≡ length ys
sorted-length cmp ys = length_permutation ys (sorted cmp ys) (IsPermutation-sorted cmp ys)

-- sorting each of some lists moves elements
sorted_each : {Y : Type 0} (cmp : Y → Y → Ordering) (yss : List (List Y))
    → IsPermutation (joined yss) (flat_map (sorted cmp) yss)
sorted_each cmp [] = IsPermutation-refl []
sorted_each cmp (ys ∷ yss) = IsPermutation-append ys (sorted cmp ys) (joined yss) (flat_map (sorted cmp) yss)
    (IsPermutation-sorted cmp ys) (sorted_each cmp yss)

-- items with their places, without the places
pub numbered_items : {Y : Type 0} (n : ℕ) (ys : List Y) → map (λ p. p.1) (enumerate_from n ys) ≡ ys
numbered_items n [] = refl
numbered_items n (y ∷ ys) = ap (λ l. y ∷ l) (numbered_items (n + 1) ys)

positive_product : (m n : ℕ) → 0 < m → 0 < n → 0 < m * n
positive_product m n p q = grind arith

module _ {X : Type 0} (box : X → Rect) (items : List X) where
  -- the items with their places, by x
  abbrev pub by_x_of : List (ℕ × X)
  by_x_of = sorted (by_middle box twice_middle_x) (enumerate_from 0 items)

  -- the items with their places, in the order of the tiles
  abbrev pub tiled_of : ℕ → List (ℕ × X)
  tiled_of size = flat_map (sorted (by_middle box twice_middle_y)) (chunks size by_x_of)

  -- how many items a slice has
  abbrev slice_size : ℕ → ℕ
  slice_size fanout = ceil_sqrt (div_ceil (length items) fanout) * fanout

  wide : (fanout : ℕ) → 0 < fanout → 0 < length items → 0 < slice_size fanout
  wide fanout some there = positive_product (ceil_sqrt (div_ceil (length items) fanout)) fanout (ceil_sqrt-positive
      (div_ceil (length items) fanout) (omega (arith, div_ceil-step (length items) fanout some there))) some

  -- the tiles are chunks of the items in their order
  tiles-chunks : (fanout : ℕ) → 0 < fanout → tiles box fanout items ≡ chunks fanout (tiled_of (slice_size fanout))
  tiles-chunks fanout some =
      chunks_of-chunks (sorted (by_middle box twice_middle_y)) (sorted-length (by_middle box twice_middle_y))
      (ceil_sqrt (div_ceil (length items) fanout)) fanout some by_x_of
      (λ there. wide fanout some (omega (
        arith,
        sorted-length (by_middle box twice_middle_x) (enumerate_from 0 items),
        length-enumerate_from 0 items,
      )))

  -- the items in the order of their groups
  pub joined-groups : (fanout : ℕ) → 0 < fanout → joined (groups box fanout items) ≡ map (λ p. p.1) (tiled_of
      (slice_size fanout))
  joined-groups fanout some =
      flat_map-map (λ xs. xs) (map (λ p. p.1)) (tiles box fanout items)
      ∙ map-flat_map (λ p. p.1) (λ ps. ps) (tiles box fanout items)
      ∙ ap (λ ts. map (λ p. p.1) (joined ts)) (tiles-chunks fanout some)
      ∙ ap (map (λ p. p.1)) (joined-chunks fanout (tiled_of (slice_size fanout)) (λ _. some))

  -- the groups are chunks of the items in that order
  pub groups-chunks : (fanout : ℕ) → 0 < fanout → groups box fanout items ≡ chunks fanout (joined
      (groups box fanout items))
  groups-chunks fanout some =
      ap (map (map (λ p. p.1))) (tiles-chunks fanout some) ∙ sym (map-chunks (λ p. p.1) fanout (tiled_of
      (slice_size fanout))) ∙ ap (chunks fanout) (sym (joined-groups fanout some))

  -- the groups have the items, each once
  pub groups-moved : (fanout : ℕ) → 2 ≤ fanout → IsPermutation items (joined (groups box fanout items))
  groups-moved fanout several =
      let size = slice_size fanout in
      let numbered = enumerate_from 0 items in
      let whole = joined-chunks size by_x_of (λ there. wide fanout (omega arith) (omega (
        arith,
        sorted-length (by_middle box twice_middle_x) numbered,
        length-enumerate_from 0 items,
      ))) in
      let tiled = IsPermutation-trans _ _ _
      (IsPermutation-sorted (by_middle box twice_middle_x) numbered) (subst (λ l. IsPermutation l (tiled_of size)) whole
      (sorted_each (by_middle box twice_middle_y) (chunks size by_x_of))) in
      let moved = IsPermutation-map (λ (p : ℕ × X). p.1) _ _ tiled in
      subst (λ l. IsPermutation l (joined (groups box fanout items))) (numbered_items 0 items) (subst (IsPermutation
      (map (λ (p : ℕ × X). p.1) numbered)) (sym (joined-groups fanout (omega arith))) moved)

-- no items have no groups
pub groups-nil : {X : Type 0} (box : X → Rect) (fanout : ℕ) → groups box fanout [] ≡ []
groups-nil {X} box fanout = rw (chunks-nil {X = ℕ × X} (ceil_sqrt (div_ceil 0 fanout) * fanout)) refl
