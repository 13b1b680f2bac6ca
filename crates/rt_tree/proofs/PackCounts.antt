-- How many nodes a packing makes, level by level.
use Rattle.std.proofs.Common.{◌≡◌, ◌<◌, ◌≤◌, ◌+◌, ◌-◌, ◌*◌, ◌^◌, ℕ, zero, suc, true, false, nat_le, List, [], ◌∷◌, ◌++◌, length}
use Rattle.std.proofs.Common.{refl, sym, ◌∙◌, ap, subst, arith, append_assoc, inl, inr, length-append}
use Rattle.std.proofs.lemmas.{Bool.{cases_lt}, Bool.Decides.{nat_tests}, List.Elements.{All-from_recursion}}
use Rattle.std.proofs.lemmas.List.Sorted.{All-permutation, length_permutation, sum_by-IsPermutation}
use Rattle.std.proofs.lemmas.List.Sums.{sum_by-append, sum_by-cons}
use Rattle.std.specs.{Int.{div_ceil}, List.{All, sum_by}}
use Rattle.rt_geo.specs.{Boxes.{Rect}, Laws.{Extent, extent_of_entry}, declared.entry.Entry.{Entry}}
use Rattle.rt_tree.specs.{Packed.{extent_of_node}, Packing.{groups, joined, node_over, nodes_from, nodes_over}}
use Rattle.rt_tree.specs.{SortKeys.{IsInPlane}, declared.tree.Node.{Node}}
use Rattle.rt_tree.proofs.{ChunkLemmas.{length-chunks}, TileLemmas.{groups-chunks, groups-moved}}
use Rattle.rt_tree.proofs.LevelLemmas.{div_ceil-halves, div_ceil-positive, power_left, power_more}
use Rattle.rt_tree.proofs.Soundness.{chunk_groups, length-nodes_over, nodes_over-in_plane, sum_by-ones}

-- the nodes of level 1, over groups of entries
abbrev pub leaf_nodes : List (List Entry) → List Node
leaf_nodes = nodes_over extent_of_entry (λ _. 1) 1 0

-- the nodes of all levels, over those of level 1
abbrev pub all_nodes : (fanout : ℕ) → List Node → List Node
all_nodes fanout nodes = nodes_from (length nodes) fanout 1 0 nodes

-- ---- one level

-- as many groups as it takes
pub length-groups : {X : Type 0} (box : X → Rect) (fanout : ℕ) (items : List X) → 2 ≤ fanout → 0 < length items
    → length (groups box fanout items) ≡ div_ceil (length items) fanout
length-groups box fanout items several there =
    ap length (groups-chunks box items fanout (omega arith))
    ∙ length-chunks fanout (joined (groups box fanout items))
    ∙ ap (λ n. div_ceil n fanout) (length_permutation items (joined (groups box fanout items))
    (groups-moved box items fanout several))

-- the nodes stand for as many entries as the items
pub weight-nodes_over : {X : Type 0} (extent : X → Extent) (weight : X → ℕ) (level first : ℕ) (gs : List (List X))
    → sum_by (λ n. n.size) (nodes_over extent weight level first gs) ≡ sum_by weight (joined gs)
weight-nodes_over extent weight level first [] = refl
weight-nodes_over extent weight level first (g ∷ gs) =
    let rest = nodes_over extent weight level (first + length g) gs in
    omega (
      arith,
      sum_by-cons (λ (n : Node). n.size) (node_over extent weight level first g) rest,
      weight-nodes_over extent weight level (first + length g) gs,
      sum_by-append weight g (joined gs),
    )

-- the boxes of nodes over items are in the plane where those of the items are
pub over_in_plane : {X : Type 0} (extent : X → Extent) (size : X → ℕ) (fanout level first : ℕ) (items : List X) → 2 ≤ fanout
    → All (λ x. IsInPlane (extent x).bounds) items
    → All (λ n. IsInPlane n.bounds) (nodes_over extent size level first (groups (λ x. (extent x).bounds) fanout items))
over_in_plane {X} extent size fanout level first items several a =
    let P = λ (x : X). IsInPlane (extent x).bounds in
    let gs = groups (λ x. (extent x).bounds) fanout items in
    All-from_recursion (λ n. IsInPlane n.bounds) (nodes_over extent size level first gs)
    (nodes_over-in_plane extent size fanout level first gs (chunk_groups fanout P gs (omega arith)
    (groups-chunks (λ x. (extent x).bounds) items fanout (omega arith))
    (All-permutation P items (joined gs) (groups-moved (λ x. (extent x).bounds) items fanout several) a)))

-- a loop that makes one level after another: it has made so many nodes, and then those of this level
pub record IsCounted (level : ℕ) (nodes made : List Node) : Type 0 where
  pub few_levels : level ≤ 24
  pub few : length made ≤ 2 ^ (24 - level)
  pub few_nodes : length nodes + 2 * length made ≤ 16777216 + level
  pub weight : sum_by (λ n. n.size) made ≤ 16777216

-- ---- one level after another

module _ (fanout : ℕ) (several : 2 ≤ fanout) where
  -- the groups of a level's nodes
  abbrev pub cut : List Node → List (List Node)
  cut = groups (λ n. n.bounds) fanout

  -- the nodes over them
  abbrev pub above : (level first : ℕ) → List Node → List Node
  above level first made = nodes_over extent_of_node (λ n. n.size) (suc level) first (cut made)

  pub length-above : (level first : ℕ) (made : List Node) → 0 < length made
      → length (above level first made) ≡ div_ceil (length made) fanout
  length-above level first made there = length-nodes_over extent_of_node (λ n. n.size) (suc level) first
      (cut made) ∙ length-groups (λ n. n.bounds) fanout made several there

  -- a level of one node, or of none, is the last one
  pub nodes_from-last : (fuel level first : ℕ) (made : List Node) → length made ≤ 1
      → nodes_from fuel fanout level first made ≡ made
  nodes_from-last zero level first made h = refl
  nodes_from-last (suc fuel) level first made h = let last : nat_le (length made) 1 ≡ true = grind
      (arith, nat_tests) in rw last refl

  pub nodes_from-more : (fuel level first : ℕ) (made : List Node) → 1 < length made
      → nodes_from (suc fuel) fanout level first made ≡ joined (cut made) ++ nodes_from fuel fanout (suc level)
      (first + length made) (above level first made)
  nodes_from-more fuel level first made h = let more : nat_le (length made) 1 ≡ false = grind (arith, nat_tests) in
      rw more refl

  -- there are fewer on each further level
  pub fewer : (level first fuel : ℕ) (made : List Node) → 1 < length made → length made ≤ suc fuel
      → length (above level first made) ≤ fuel
  fewer level first fuel made some few = omega (
    arith,
    length-above level first made (omega arith),
    div_ceil-halves (length made) fanout several,
  )

  -- any fuel that is no less than the number of nodes is enough
  pub nodes_from-fuel : (fuel other level first : ℕ) (made : List Node) → length made ≤ fuel → length made ≤ other
      → nodes_from fuel fanout level first made ≡ nodes_from other fanout level first made
  nodes_from-fuel zero other level first made f g = sym (nodes_from-last other level first made (omega arith))
  nodes_from-fuel (suc fuel) zero level first made f g = nodes_from-last (suc fuel) level first made (omega arith)
  nodes_from-fuel (suc fuel) (suc other) level first made f g = elim (cases_lt 1 (length made)) [
    | inr h ↦ nodes_from-last (suc fuel) level first made h ∙ sym (nodes_from-last (suc other) level first made h)
    | inl h ↦ nodes_from-more fuel level first made h
        ∙ ap (λ l. joined (cut made) ++ l) (nodes_from-fuel fuel other (suc level) (first + length made)
        (above level first made) (fewer level first fuel made h f) (fewer level first other made h g))
        ∙ sym (nodes_from-more other level first made h)
  ]

  -- there are some on each further level
  pub some_above : (level first : ℕ) (made : List Node) → 0 < length made → 0 < length (above level first made)
  some_above level first made there =
      omega (arith, length-above level first made there, div_ceil-positive (length made) fanout several there)

  -- with one more level numbered, the nodes to come are the same
  pub course : (fuel level : ℕ) (nodes made : List Node) → 1 < length made
      → (nodes ++ joined (cut made)) ++ nodes_from fuel fanout (suc level) (length (nodes ++ joined (cut made)))
      (above level (length nodes) made) ≡ nodes ++ nodes_from (suc fuel) fanout level (length nodes) made
  course fuel level nodes made some =
      let ordered = joined (cut made) in
      let new = above level (length nodes) made in
      let moved = groups-moved (λ (n : Node). n.bounds) made fanout several in
      let long : length (nodes ++ ordered) ≡ length nodes + length made = omega
      (arith, length-append nodes ordered, length_permutation made ordered moved) in
      rw (long, nodes_from-more fuel level (length nodes) made some)
      (append_assoc nodes ordered (nodes_from fuel fanout (suc level) (length nodes + length made) new))

  -- ---- a loop that makes one level after another

  pub counted_more : (level : ℕ) (nodes made : List Node) → IsCounted level nodes made → 1 < length made
      → IsCounted (suc level) (nodes ++ joined (cut made)) (above level (length nodes) made)
  counted_more level nodes made c some =
      let new = length-above level (length nodes) made (omega arith) in
      let halves = div_ceil-halves (length made) fanout several in
      let moved = groups-moved (λ (n : Node). n.bounds) made fanout several in
      let left = power_left (24 - level) (length made) c.few some in
      record {
        few_levels = omega arith;
        few = subst (λ n. n ≤ 2 ^ (24 - (suc level))) (sym new) (subst (λ n. div_ceil (length made) fanout ≤ 2 ^ n) (omega arith)
            (power_more (24 - level) (length made) (div_ceil (length made) fanout) c.few left halves));
        few_nodes = omega (
          arith,
          c.few_nodes,
          length-append nodes (joined (cut made)),
          length_permutation made (joined (cut made)) moved,
        );
        weight = omega (
          arith,
          c.weight,
          weight-nodes_over extent_of_node (λ n. n.size) (suc level) (length nodes) (cut made),
          sum_by-IsPermutation (λ (n : Node). n.size) made (joined (cut made)) moved,
        );
      }

  -- the nodes of level 1, over the groups of entries
  pub leaf_nodes-few : (box : Entry → Rect) (entries : List Entry) → length entries ≤ 16777216
      → (2 * length (leaf_nodes (groups box fanout entries)) ≤ 16777217)
      × (sum_by (λ n. n.size) (leaf_nodes (groups box fanout entries)) ≤ 16777216)
  leaf_nodes-few box entries few =
      let gs = groups box fanout entries in
      let long = length_permutation entries (joined gs) (groups-moved box entries fanout several) in
      let count : length (leaf_nodes gs) ≡ div_ceil (length (joined gs)) fanout = length-nodes_over extent_of_entry
      (λ _. 1) 1 0 gs ∙ ap length (groups-chunks box entries fanout (omega arith))
      ∙ length-chunks fanout (joined gs) in (
        omega (arith, few, div_ceil-halves (length (joined gs)) fanout several),
        omega (arith, weight-nodes_over extent_of_entry (λ _. 1) 1 0 gs, sum_by-ones (joined gs), few),
      )

  -- the course of the loop
  pub course_more : (level : ℕ) (nodes made whole : List Node) → 1 < length made
      → nodes ++ nodes_from (length made) fanout level (length nodes) made ≡ whole
      → (nodes ++ joined (cut made)) ++ nodes_from (length (above level (length nodes) made)) fanout (suc level)
      (length (nodes ++ joined (cut made))) (above level (length nodes) made) ≡ whole
  course_more level nodes made whole some so_far =
      let after = nodes ++ joined (cut made) in
      let new = above level (length nodes) made in
      let fuel = length made - 1 in
      let one_less : suc fuel ≡ length made = omega arith in
      ap (λ l. after ++ l) (nodes_from-fuel (length new) fuel (suc level) (length after) new (omega arith)
      (fewer level (length nodes) fuel made some (omega arith))) ∙ course fuel level nodes made some
      ∙ ap (λ n. nodes ++ nodes_from n fanout level (length nodes) made) one_less ∙ so_far
