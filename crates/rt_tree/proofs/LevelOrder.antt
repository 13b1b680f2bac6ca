-- The nodes of a packed tree stand level by level, as many on each as its size asks for.
use Rattle.std.proofs.Common.{◌≡◌, ◌<◌, ◌≤◌, ◌+◌, ℕ, zero, suc, true, nat_le, List, [], ◌∷◌}
use Rattle.std.proofs.Common.{length, map, drop, replicate, refl, sym, ◌∙◌, ap, arith, inl, inr}
use Rattle.std.proofs.lemmas.{Bool.{cases_lt, Decides.{nat_tests}}, List.{append-nil, map-append}}
use Rattle.std.proofs.lemmas.List.Sorted.{length_permutation}
use Rattle.std.specs.{Int.{div_ceil}, List.{AllByRecursion}}
use Rattle.rt_geo.specs.Laws.{Extent}
use Rattle.rt_tree.specs.{Levels.{level_by_level, level_sizes}, Packed.{extent_of_node}, declared.tree.Node.{Node}}
use Rattle.rt_tree.specs.Packing.{joined, nodes_from, nodes_over}
use Rattle.rt_tree.proofs.LevelLemmas.{div_ceil-positive, sizes_above-step, sizes_from, sizes_from-step}
use Rattle.rt_tree.proofs.PackCounts.{above, cut, fewer, length-above, nodes_from-last, nodes_from-more}
use Rattle.rt_tree.proofs.{OrderLemmas.{all_moved}, TileLemmas.{groups-moved}}

-- ---- level by level

-- nodes of one level
abbrev pub AreOn : ℕ → List Node → Type 0
AreOn level = AllByRecursion (λ n. n.level ≡ level)

levels_of : (level : ℕ) (ns : List Node) → AreOn level ns → map (λ n. n.level) ns ≡ replicate (length ns) level
levels_of level [] a = refl
levels_of level (n ∷ ns) a = rw (a.0, levels_of level ns a.1) refl

pub nodes_over-AreOn : {X : Type 0} (extent : X → Extent) (size : X → ℕ) (level first : ℕ) (gs : List (List X))
    → AreOn level (nodes_over extent size level first gs)
nodes_over-AreOn extent size level first [] = tt
nodes_over-AreOn extent size level first (g ∷ gs) = (refl, nodes_over-AreOn extent size level (first + length g) gs)

module _ (fanout : ℕ) (several : 2 ≤ fanout) where
  pub nodes_from-levels : (fuel level first : ℕ) (made : List Node) → length made ≤ fuel → 0 < length made
      → AreOn level made
      → map (λ n. n.level) (nodes_from fuel fanout level first made) ≡ level_by_level level (sizes_from fanout
      (length made))
  nodes_from-levels zero level first made few there on = absurd (omega arith)
  nodes_from-levels (suc fuel) level first made few there on = elim (cases_lt 1 (length made)) [
    | inr h ↦
        let last : nat_le (length made) 1 ≡ true = grind (arith, nat_tests) in
        ap (map (λ n. n.level)) (nodes_from-last fanout several (suc fuel) level first made h)
        ∙ levels_of level made on ∙ rw last (sym (append-nil (replicate (length made) level)))
    | inl h ↦
        let ordered = joined (cut fanout several made) in
        let new = above fanout several level first made in
        let moved = groups-moved (λ (n : Node). n.bounds) made fanout several in
        let count : length new ≡ div_ceil (length made) fanout = length-above fanout several level first made there in
        let here : map (λ n. n.level) ordered ≡ replicate (length made) level =
        levels_of level ordered (all_moved (λ (n : Node). n.level ≡ level) made ordered moved on)
        ∙ ap (λ n. replicate n level) (length_permutation made ordered moved) in
        let later = nodes_from-levels fuel (suc level) (first + length made) new
        (fewer fanout several level first fuel made h few) (omega (
          arith,
          div_ceil-positive (length made) fanout several there,
        )) (nodes_over-AreOn extent_of_node (λ n. n.size)
        (suc level) first (cut fanout several made)) in
        let sizes : sizes_from fanout (length made) ≡ length made ∷ sizes_from fanout (length new) =
        sizes_from-step fanout (length made) several h ∙ ap (λ n. length made ∷ sizes_from fanout n) (sym count) in
        ap (map (λ n. n.level)) (nodes_from-more fanout several fuel level first made h)
        ∙ map-append (λ (n : Node). n.level) ordered (nodes_from fuel fanout (suc level) (first + length made) new)
        ∙ rw (here, later) (ap (level_by_level level) (sym sizes))
  ]

-- ---- the sizes of the levels of nodes

pub sizes_from_first : (fanout len : ℕ) → 2 ≤ fanout → 0 < len
    → drop 1 (level_sizes len fanout) ≡ sizes_from fanout (div_ceil len fanout)
sizes_from_first fanout zero several there = absurd (omega arith)
sizes_from_first fanout (suc len) several there = sizes_above-step fanout (suc len) several there
