-- The first entry whose id an earlier one has.
use Rattle.std.proofs.Common.{◌≡◌, ◌∙◌, ◌<◌, ◌+◌, ℕ, ℤ, true, false, ◌||◌, List, [], ◌∷◌, ◌++◌, length, length-append}
use Rattle.std.proofs.Common.{drop, take, Option, Some, None, refl, sym, subst, ap, add-one, append_assoc, arith, slice_get}
use Rattle.std.proofs.lemmas.{Bool.{cases_Bool}, Map.Keys.{IsDistinct-push}}
use Rattle.std.proofs.lemmas.Option.{get_or_from_slice_get, slice_get_within}
use Rattle.std.proofs.{Common.{suc, inl, inr}, Math.Seq.{drop-cons}, lemmas.Cmp.{int_eq_equiv}}
use Rattle.std.proofs.lemmas.List.{append-nil, length-take-le, map-append, take_more}
use Rattle.std.specs.{List.{AllByRecursion, IsDistinct}, Ordering.{int_eq}, Prelude.{if◌then◌else◌}}
use Rattle.rt_geo.specs.declared.entry.Entry.{Entry}
use Rattle.rt_tree.specs.Entries.{first_repeat, has_id, ids_of, repeat_after}
use Rattle.rt_tree.proofs.EntryLemmas.{has_id-ids_of, has_id-push, int_eq-sym}

-- ---- one entry more

-- what one entry more makes of the place of the first repeat
abbrev pub repeat_with : (so_far : List Entry) → Entry → Option ℕ → Option ℕ
repeat_with so_far entry (Some place) = Some place
repeat_with so_far entry None = if has_id so_far entry.id then Some (length so_far) else None

repeat_after-push : (so_far entries : List Entry) (entry : Entry)
    → repeat_after so_far (entries ++ entry ∷ []) ≡ repeat_with (so_far ++ entries) entry (repeat_after so_far entries)
repeat_after-push so_far [] entry = rw (append-nil so_far) refl
repeat_after-push so_far (e ∷ entries) entry = elim (cases_Bool (has_id so_far e.id)) [
  | inl h ↦ rw h refl
  | inr h ↦ rw (h, ← append_assoc so_far (e ∷ []) entries) (repeat_after-push (so_far ++ e ∷ []) entries entry)
]

pub first_repeat-push : (entries : List Entry) (entry : Entry)
    → first_repeat (entries ++ entry ∷ []) ≡ repeat_with entries entry (first_repeat entries)
first_repeat-push entries entry = repeat_after-push [] entries entry

-- ---- entries that are distinct

distinct_more : (so_far : List Entry) (e : Entry) → IsDistinct int_eq (ids_of so_far) → has_id so_far e.id ≡ false → IsDistinct int_eq (ids_of (so_far ++ e ∷ []))
distinct_more so_far e d new =
    subst (IsDistinct int_eq) (sym (map-append (λ (e : Entry). e.id) so_far (e ∷ [])))
    (IsDistinct-push int_eq_equiv (ids_of so_far) e.id d (has_id-ids_of so_far e.id ∙ new))

distinct_after : (so_far entries : List Entry) → IsDistinct int_eq (ids_of so_far) → repeat_after so_far entries ≡ None
    → IsDistinct int_eq (ids_of (so_far ++ entries))
distinct_after so_far [] d once = rw (append-nil so_far) d
distinct_after so_far (e ∷ entries) d once = elim (cases_Bool (has_id so_far e.id)) [
  | inl h ↦ let bad : Some (length so_far) ≡ None = rw h at once in absurd cc
  | inr h ↦ subst (λ es. IsDistinct int_eq (ids_of es)) (append_assoc so_far (e ∷ []) entries)
      (distinct_after (so_far ++ e ∷ []) entries (distinct_more so_far e d h) (rw h at once))
]

pub distinct-from_once : (entries : List Entry) → first_repeat entries ≡ None → IsDistinct int_eq (ids_of entries)
unfolding IsDistinct
distinct-from_once entries once = distinct_after [] entries tt once

new_id : (so_far : List Entry) (e : Entry) (entries : List Entry) → IsDistinct int_eq (ids_of (so_far ++ e ∷ entries)) → has_id so_far e.id ≡ false
unfolding IsDistinct
new_id [] e entries d = refl
new_id (f ∷ so_far) e entries d = rw (int_eq-sym e.id f.id, differs so_far d.0, new_id so_far e entries d.1) refl
  where
    differs : (fs : List Entry) → AllByRecursion (λ id. int_eq f.id id ≡ false) (ids_of (fs ++ e ∷ entries)) → int_eq f.id e.id ≡ false
    differs [] all = all.0
    differs (g ∷ fs) all = differs fs all.1

once_after : (so_far entries : List Entry) → IsDistinct int_eq (ids_of (so_far ++ entries)) → repeat_after so_far entries ≡ None
once_after so_far [] d = refl
once_after so_far (e ∷ entries) d =
    rw (new_id so_far e entries d) (once_after (so_far ++ e ∷ []) entries (subst (λ es. IsDistinct int_eq (ids_of es)) (sym (append_assoc so_far (e ∷ []) entries)) d))

pub once-from_distinct : (entries : List Entry) → IsDistinct int_eq (ids_of entries) → first_repeat entries ≡ None
once-from_distinct entries d = once_after [] entries d

-- ---- one entry after the other

module _ (entries : List Entry) (place : ℕ) (entry : Entry) (at : slice_get entries place ≡ Some entry) where
  there : place < length entries
  there = slice_get_within entries place entry at

  one_more : take (place + 1) entries ≡ take place entries ++ entry ∷ []
  one_more = take_more entries place entry there
      ∙ ap (λ e. take place entries ++ e ∷ []) (get_or_from_slice_get entries place entry entry at)

  -- the ids of one entry more
  pub ids-more : (id : ℤ) → has_id (take (place + 1) entries) id ≡ (has_id (take place entries) id || int_eq id entry.id)
  ids-more id = rw one_more (has_id-push (take place entries) entry id)

  module _ (once : first_repeat entries ≡ repeat_after (take place entries) (drop place entries)) where
    next : drop place entries ≡ entry ∷ drop (place + 1) entries
    next = rw (add-one place) (drop-cons entries place entry there
        ∙ ap (λ e. e ∷ drop (suc place) entries) (get_or_from_slice_get entries place entry entry at))

    pub repeat-here : has_id (take place entries) entry.id ≡ true → first_repeat entries ≡ Some place
    repeat-here h = once ∙ rw (next, h) (ap (λ (n : ℕ). Some n) (length-take-le place entries (omega (arith, there))))

    pub repeat-later : has_id (take place entries) entry.id ≡ false
        → first_repeat entries ≡ repeat_after (take (place + 1) entries) (drop (place + 1) entries)
    repeat-later h = once ∙ rw (next, h, one_more) refl

-- ---- the place is that of an entry

repeat_after-below : (so_far entries : List Entry) (place : ℕ) → repeat_after so_far entries ≡ Some place → place < length so_far + length entries
repeat_after-below so_far [] place e = absurd cc
repeat_after-below so_far (entry ∷ more) place e = elim (cases_Bool (has_id so_far entry.id)) [
  | inl h ↦
      let here : Some (length so_far) ≡ Some place = rw h at e in
      let is : length so_far ≡ place = cc in omega arith
  | inr h ↦
      omega (arith, repeat_after-below (so_far ++ entry ∷ []) more place (rw h at e), length-append so_far (entry ∷ []))
]

pub first_repeat-below : (entries : List Entry) (place : ℕ) → first_repeat entries ≡ Some place → place < length entries
first_repeat-below entries place e = omega (arith, repeat_after-below [] entries place e)
