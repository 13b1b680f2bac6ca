-- A search whose nodes all score 0: any bound opens what no bound opens.
use Rattle.std.proofs.Common.{◌≡◌, ◌≢◌, ◌&&◌, ℕ, zero, suc, cond, List, [], ◌∷◌, Option, Some, None}
use Rattle.std.proofs.{Common.{refl, ◌∙◌, ap, arith}, lemmas.List.Sums.{sum_by-cons}}
use Rattle.std.specs.{List.{AllByRecursion, sum_by}, Option.{option_map_or}, Prelude.{nat_le, true}}
use Rattle.rt_geo.specs.{Laws.{IsUnscored, Meaning, estimate_of}, declared.geometry.Verdict.{Verdict}}
use Rattle.rt_tree.specs.{Packed.{Packed, IsSound, IsSubtree, child_nodes}, declared.tree.Node.{Node}}
use Rattle.rt_search.specs.Work.{info_of_node, is_kept, is_reached, reached, reached_from_root, search_work}
use Rattle.rt_search.proofs.{Children.{subtree_level}, Starting.{nat_eq_false, within_zero}}

-- ---- any bound opens what none does

module _ (meaning : Meaning) (unscored : IsUnscored (estimate_of meaning)) (t : Packed) (within : Option ℕ) (cost : Node → ℕ) where
  abbrev below : (bound : Option ℕ) → (h : ℕ) → Verdict → Node → ℕ
  below bound h v k =
      let w = meaning.verdict (info_of_node t v k) in cond (is_reached bound w) (reached (is_reached bound) cost meaning t h w k) 0

  children_alike : (h : ℕ) → ((v : Verdict) (n : Node) → IsSubtree t h n
      → reached (is_reached within) cost meaning t h v n ≡ reached (is_reached None) cost meaning t h v n)
      → (v : Verdict) (ks : List Node) → AllByRecursion (IsSubtree t h) ks
      → sum_by (below within h v) ks ≡ sum_by (below None h v) ks
  children_alike h f v [] sub = refl
  children_alike h f v (k ∷ ks) sub =
      let i = info_of_node t v k in
      let w = meaning.verdict i in
      let level = subtree_level t h k sub.0 in
      let same = ap (λ o. cond o (reached (is_reached within) cost meaning t h w k) 0) (
      ap (λ s. is_kept w.within && option_map_or (nat_le s) within true) (unscored i (omega arith))
      ∙ ap (λ l. is_kept w.within && l) (within_zero within))
      ∙ ap (λ m. cond (is_reached None w) m 0) (f w k sub.0) in
      let here = sum_by-cons (below within h v) k ks in
      omega (arith, sum_by-cons (below None h v) k ks, children_alike h f v ks sub.1)

  pub reached_alike : (h : ℕ) (v : Verdict) (n : Node) → IsSubtree t h n
      → reached (is_reached within) cost meaning t h v n ≡ reached (is_reached None) cost meaning t h v n
  reached_alike zero v n sub = refl
  reached_alike (suc h) v n sub =
      grind (arith, children_alike h (λ w k. reached_alike h w k) v (child_nodes t n) sub.below)

  whole_alike : IsSound t
      → reached_from_root (is_reached within) cost meaning t ≡ reached_from_root (is_reached None) cost meaning t
  whole_alike sound = grind (arith, reached_alike, nat_eq_false)

-- ---- so that a search for any answers has the same work

-- the work of a search for so many answers is the whole, unless it is for none
pub work : (meaning : Meaning) (t : Packed) → IsSound t → IsUnscored (estimate_of meaning) → (limit : Option ℕ)
    → limit ≢ Some 0 → (cost : Node → ℕ)
    → search_work cost meaning t limit ≡ reached_from_root (is_reached None) cost meaning t
work meaning t sound unscored limit some cost = grind (arith, whole_alike)
