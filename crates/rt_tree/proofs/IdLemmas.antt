-- Ids in order, and ids in two parts.
use Rattle.std.proofs.Common.{◌≡◌, ◌∙◌, ◌+◌, ℕ, ℤ, pos, Bool, true, false, ◌||◌, List, length, get_or, refl, sym, ap, arith}
use Rattle.std.proofs.{Common.{Result, Ok, Err, inl, inr}, Math.Bool.{or-false}, lemmas.{Bool.{cases_lt}, Cmp.{int_cmp_total}}}
use Rattle.std.proofs.lemmas.{Int.{ints}, List.Folds.{list_any_at, list_any_none}, Map.Keys.{Less-from_sorted}}
use Rattle.std.proofs.lemmas.List.Sorted.{IsPermutation-sym, list_any-IsPermutation, searchable_from_sorted}
use Rattle.std.proofs.lemmas.Map.Keys.{sorted_from_all_adjacent, IsDistinct-IsPermutation, IsDistinct-from_apart}
use Rattle.std.specs.{BTreeSet.{BTreeSet, contains}, List.{All, IsAllAdjacentAnswer, IsDistinct, list_any}}
use Rattle.std.specs.List.Sorted.{IsBinarySearchResult, IsPermutation, IsSearchInRange, IsSorted, IsStrictlySortedBy}
use Rattle.std.specs.{Ordering.{int_cmp, int_eq}, Prelude.{◌↔◌, int_lt, is_ok}}
use Rattle.std.specs.declared.cmp.Ordering.TheVariants.{Less, Equal}
use Rattle.rt_geo.specs.declared.entry.Entry.{Entry}
use Rattle.rt_tree.specs.{Entries.{ids_of}, Indexes.{AreIdsOf}}
use Rattle.rt_tree.proofs.EntryLemmas.{has_id-ids_of, int_eq-sym}

-- ---- what a binary search finds

tied : (a id : ℤ) → int_cmp a id ≡ Equal → int_eq id a ≡ true
tied a id h = grind (arith, ints)

apart : (a b : ℤ) → (int_cmp a b ≡ Equal → ⊥) → int_eq b a ≡ false
apart a b h = grind (arith, ints, h)

pub searched-is : (ids : List ℤ) (id : ℤ) (r : Result ℕ ℕ) → IsSorted int_cmp ids → IsSearchInRange r (length ids) → IsBinarySearchResult (λ other. int_cmp other id) ids r
    → is_ok r ≡ list_any (int_eq id) ids
searched-is ids id (Ok place) sorted bound found =
    sym (list_any_at (int_eq id) ids place (pos 0) bound (tied (get_or ids place (pos 0)) id (found (pos 0))))
searched-is ids id (Err place) sorted bound found = sym (list_any_none (int_eq id) ids here)
  where
    here : All (λ a. int_eq id a ≡ false) ids
    here k d h =
        let point = found (searchable_from_sorted int_cmp_total (λ (x : ℤ). x) ids id sorted) in
        elim (cases_lt k place) [
          | inl before ↦ apart (get_or ids k d) id (λ e. let is = point.0 k d (omega arith) before in absurd cc)
          | inr after ↦ apart (get_or ids k d) id (λ e. let is = point.1 k d after h in absurd cc)
        ]

-- ---- ids that rise differ

-- those that rise once they are sorted
pub distinct-from_rising : (ids sorted : List ℤ) → IsPermutation ids sorted → IsStrictlySortedBy int_cmp sorted
    → IsDistinct int_eq ids
distinct-from_rising ids sorted moved rising =
    IsDistinct-IsPermutation int_eq int_eq-sym sorted ids (IsPermutation-sym ids sorted moved)
    (IsDistinct-from_apart int_eq sorted (λ i j d h k. int_eq-sym (get_or sorted i d) (get_or sorted j d)
    ∙ apart (get_or sorted i d) (get_or sorted j d) (λ e. let is = Less-from_sorted int_cmp sorted i j d rising h k in
    absurd cc)))

-- the ids of entries, sorted, are kept where nothing was pushed
pub ids_are-sorted : (entries : List Entry) (ids sorted : List ℤ) (none : BTreeSet ℤ) → ids ≡ ids_of entries → IsPermutation ids sorted
    → ((id : ℤ) → contains int_cmp none id ≡ false) → AreIdsOf sorted none entries
ids_are-sorted entries ids sorted none same moved empty id =
    ap (λ b. list_any (int_eq id) sorted || b) (empty id) ∙ or-false (list_any (int_eq id) sorted)
    ∙ sym (list_any-IsPermutation (int_eq id) ids sorted moved) ∙ ap (list_any (int_eq id)) same ∙ has_id-ids_of entries id

-- ---- each is above the one before it

pub rising-is : (ids : List ℤ) (answer : Bool) → IsAllAdjacentAnswer (λ x y b. b ≡ int_lt x y) ids answer
    → (answer ≡ true) ↔ IsStrictlySortedBy int_cmp ids
rising-is ids true all = (
  (λ _. sorted_from_all_adjacent int_cmp_total ids (pos 0) (λ k h. below (get_or ids k (pos 0)) (get_or ids (k + 1) (pos 0))
      (all k (pos 0) h))),
  (λ _. refl),
)
  where
    below : (a b : ℤ) → true ≡ int_lt a b → int_cmp a b ≡ Less
    below a b h = grind (arith, ints)
rising-is ids false some = (
  (λ e. absurd cc),
  (λ rising. never (get_or ids some.0 (pos 0)) (get_or ids (some.0 + 1) (pos 0)) (Less-from_sorted int_cmp ids some.0
      (some.0 + 1) (pos 0) rising (omega arith) some.1) (some.2 (pos 0))),
)
  where
    never : (a b : ℤ) → int_cmp a b ≡ Less → false ≡ int_lt a b → false ≡ true
    never a b e h = absurd (grind (arith, ints))
