-- A table with one more entry.
use Rattle.std.proofs.Common.{◌≡◌, ◌∙◌, ◌<◌, ◌-◌, ℤ, take, false, ◌||◌, List, [], ◌∷◌, ◌++◌, length, refl, sym}
use Rattle.std.proofs.{Common.{IsPermutation, ap, subst, arith, length-append}, Math.Bool.{or-false}}
use Rattle.std.proofs.lemmas.{Cmp.{int_eq_equiv}, Int.{ints}, List.{map-append, take_at, Elements.{All-nil, All-push}}}
use Rattle.std.proofs.lemmas.{List.{Folds.{list_any-append}, Sorted.{IsPermutation-map}}}
use Rattle.std.proofs.lemmas.Map.Keys.{IsDistinct-IsPermutation, IsDistinct-push}
use Rattle.std.specs.{BTreeSet.{BTreeSet}, List.{IsDistinct, list_any}, Ordering.{int_eq}}
use Rattle.rt_geo.specs.{Entries.{HasBox, HasLayer}, declared.entry.Entry.{Entry}}
use Rattle.rt_tree.specs.{Entries.{IsTable, has_id, ids_of, most_entries}, Indexes.{IsIndexed, keeps}}

pub has_id-push : (entries : List Entry) (entry : Entry) (id : ℤ)
    → has_id (entries ++ entry ∷ []) id ≡ (has_id entries id || int_eq id entry.id)
has_id-push entries entry id = list_any-append (λ (e : Entry). int_eq id e.id) entries (entry ∷ [])
    ∙ ap (λ b. has_id entries id || b) (or-false (int_eq id entry.id))

-- an entry has the id exactly where the id is among theirs
pub has_id-ids_of : (entries : List Entry) (id : ℤ) → list_any (int_eq id) (ids_of entries) ≡ has_id entries id
has_id-ids_of [] id = refl
has_id-ids_of (e ∷ entries) id = ap (λ b. int_eq id e.id || b) (has_id-ids_of entries id)

IsTable-push : (entries : List Entry) (entry : Entry) → IsTable entries → has_id entries entry.id ≡ false → HasBox entry → HasLayer entry → length entries < most_entries
    → IsTable (entries ++ entry ∷ [])
IsTable-push entries entry t new box few below = record {
  distinct = subst (IsDistinct int_eq) (sym (map-append (λ (e : Entry). e.id) entries (entry ∷ []))) (IsDistinct-push int_eq_equiv (ids_of entries) entry.id t.distinct (has_id-ids_of entries entry.id ∙ new));
  boxes = All-push HasBox entries entry t.boxes box;
  layers = All-push HasLayer entries entry t.layers few;
  few = omega (arith, length-append entries (entry ∷ []));
}

-- the entry stands last, and its id beside the others
pub pushed : (loaded new_loaded : List ℤ) (later new_later : BTreeSet ℤ) (entries : List Entry) (entry : Entry) → IsIndexed loaded later entries → HasBox entry → HasLayer entry → keeps loaded later entry.id ≡ false
    → ((id : ℤ) → keeps new_loaded new_later id ≡ (keeps loaded later id || int_eq id entry.id)) → length entries < most_entries → IsIndexed new_loaded new_later (entries ++ entry ∷ [])
pushed loaded new_loaded later new_later entries entry kept box few absent added below = record {
  table = IsTable-push entries entry kept.table (sym (kept.ids_are entry.id) ∙ absent) box few below;
  ids_are = λ id. added id ∙ ap (λ b. b || int_eq id entry.id) (kept.ids_are id) ∙ sym (has_id-push entries entry id);
}

-- an entry that was pushed and then taken away again leaves what was there
pub pushed-popped : (entries : List Entry) (entry : Entry)
    → take (length (entries ++ entry ∷ []) - 1) (entries ++ entry ∷ []) ≡ entries
pushed-popped entries entry =
    take_at entries (entry ∷ []) (length (entries ++ entry ∷ []) - 1)
    (omega (arith, length-append entries (entry ∷ [])))

pub int_eq-sym : (a b : ℤ) → int_eq a b ≡ int_eq b a
int_eq-sym a b = grind (arith, ints)

-- entries in another order have distinct ids too
pub distinct-IsPermutation : (xs ys : List Entry) → IsPermutation xs ys → IsDistinct int_eq (ids_of xs)
    → IsDistinct int_eq (ids_of ys)
distinct-IsPermutation xs ys moved = IsDistinct-IsPermutation int_eq int_eq-sym (ids_of xs) (ids_of ys)
    (IsPermutation-map (λ (e : Entry). e.id) xs ys moved)

-- a table without entries
pub IsIndexed-empty : (loaded : List ℤ) (later : BTreeSet ℤ) → ((id : ℤ) → keeps loaded later id ≡ false) → IsIndexed loaded later []
unfolding IsDistinct
IsIndexed-empty loaded later none = record {
  table = record { distinct = tt; boxes = All-nil HasBox; layers = All-nil HasLayer; few = omega arith };
  ids_are = none;
}
