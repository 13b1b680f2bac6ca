-- The table: the fields of a record, and one record after the other.
use Rattle.std.proofs.Common.{◌≡◌, ◌+◌, ◌-◌, ◌<◌, ◌≤◌, ℕ, zero, suc, Bool, true, false, ◌&&◌, ◌==◌, List, [], ◌∷◌, ◌++◌, length, drop, get_or, option_map, Option, Some, None, refl, ◌∙◌, ap, inl, inr, arith, rules}
use Rattle.std.specs.Prelude.{Result, Ok, Err, if◌then◌else◌, nat_le, IsSome}
use Rattle.std.proofs.lemmas.Bool.Decides.{nat_tests}
use Rattle.csv.specs.Records.{field_at}
use Rattle.rt_geo.specs.declared.entry.Entry.{Entry}
use Rattle.rt_text.specs.Steps.{◌>>=◌}
use Rattle.rt_tree.specs.Entries.{first_repeat, has_id}
use Rattle.rt_tree.proofs.RepeatLemmas.{first_repeat-push, repeat_with}
use Rattle.rt_text.specs.Loads.{IsRefusal, after_ids, entry_after, first_number, repeat_or}
use Rattle.rt_text.specs.Tables.{IsFaultOf, entries_from, judged}
use Rattle.rt_text.specs.declared.tables.TableFault.{TableFault}
use Rattle.rt_text.specs.declared.tables.TableFault.TheVariants as fault

-- ---- the fields of a record

pub field_at-there : (fields : List (List ℕ)) (place : ℕ) → place < length fields → field_at fields place ≡ Some (get_or fields place [])
unfolding field_at
field_at-there [] place h = absurd (omega (arith, h))
field_at-there (f ∷ fs) zero h = refl
field_at-there (f ∷ fs) (suc place) h = field_at-there fs place (omega arith)

pub IsSome-field : {A : Type 0} (text : A → List ℕ) (o : Option A) (fields : List (List ℕ)) (place : ℕ)
    → option_map text o ≡ field_at fields place → place < length fields → IsSome o
IsSome-field text None fields place e h = let x : None ≡ Some (get_or fields place []) = e ∙ field_at-there fields place h in absurd cc
IsSome-field text (Some a) fields place e h = search rules

-- ---- one record

-- the entry, where no entry so far has its id
abbrev new_entry : (number : ℕ) → List Entry → Entry → Result Entry TableFault
new_entry number so_far entry = if has_id so_far entry.id then Err (fault.Repeated number) else Ok entry

-- a record is judged as it is but for its id, and then by its id
judged-entry : (max number : ℕ) (so_far : List Entry) (fields : List (List ℕ))
    → judged max number so_far fields ≡ (entry_after max number so_far fields >>= new_entry number so_far)
judged-entry max number so_far fields = by (nat_le max (length so_far)) refl
  where
    by : (b : Bool) → nat_le max (length so_far) ≡ b → judged max number so_far fields ≡ (entry_after max number so_far fields >>= new_entry number so_far)
    by true e = rw e refl
    by false e = rw e refl

judged-refused : (max number : ℕ) (so_far : List Entry) (fields : List (List ℕ)) (f : TableFault) → entry_after max number so_far fields ≡ Err f → judged max number so_far fields ≡ Err f
judged-refused max number so_far fields f refused = judged-entry max number so_far fields ∙ ap (λ r. r >>= new_entry number so_far) refused

judged-id : (max number : ℕ) (so_far : List Entry) (fields : List (List ℕ)) (entry : Entry) → entry_after max number so_far fields ≡ Ok entry → judged max number so_far fields ≡ new_entry number so_far entry
judged-id max number so_far fields entry read = judged-entry max number so_far fields ∙ ap (λ r. r >>= new_entry number so_far) read

-- ---- one record after the other

-- the table from a record on: with a header, the first is counted and not judged
abbrev pub table_after : (header : Bool) → (max number : ℕ) → List Entry → List (List (List ℕ)) → Result (List Entry) TableFault
table_after header max number so_far records =
    if header && (number == 1) then entries_from max (number + 1) so_far (drop 1 records) else entries_from max number so_far records

pub table_after-end : (header : Bool) (max number : ℕ) (so_far : List Entry) → table_after header max number so_far [] ≡ Ok so_far
unfolding entries_from
table_after-end header max number so_far = by (header && (number == 1)) refl
  where
    by : (b : Bool) → (header && (number == 1)) ≡ b → table_after header max number so_far [] ≡ Ok so_far
    by true e = rw e refl
    by false e = rw e refl

pub table_after-header : (header : Bool) (max number : ℕ) (so_far : List Entry) (first : List (List ℕ)) (more : List (List (List ℕ)))
    → header ≡ true → number ≡ 1 → table_after header max number so_far (first ∷ more) ≡ table_after header max (number + 1) so_far more
table_after-header header max number so_far first more h n = rw (h, n) refl

later_number : (header : Bool) (number : ℕ) → 1 ≤ number → (header && (number + 1 == 1)) ≡ false
later_number true number h = grind (arith, nat_tests)
later_number false number h = refl

pub table_after-more : (header : Bool) (max number : ℕ) (so_far : List Entry) (entry : Entry) (fields : List (List ℕ)) (more : List (List (List ℕ)))
    → 1 ≤ number → (header && (number == 1)) ≡ false → judged max number so_far fields ≡ Ok entry
    → table_after header max number so_far (fields ∷ more) ≡ table_after header max (number + 1) (so_far ++ entry ∷ []) more
unfolding entries_from
table_after-more header max number so_far entry fields more n judges ok = rw (judges, ok, later_number header number n) refl

table_after-refused : (header : Bool) (max number : ℕ) (so_far : List Entry) (f : TableFault) (fields : List (List ℕ)) (more : List (List (List ℕ)))
    → (header && (number == 1)) ≡ false → judged max number so_far fields ≡ Err f → table_after header max number so_far (fields ∷ more) ≡ Err f
unfolding entries_from
table_after-refused header max number so_far f fields more judges refused = rw (judges, refused) refl

-- the fault of a step may be reported
own : {A : Type 0} (f : TableFault) (step : Result A TableFault) → step ≡ Err f → IsFaultOf f step
own fault.Read step e = tt
own fault.Memory step e = tt
own (fault.TooMany n) step e = e
own (fault.FieldCount n k) step e = e
own (fault.NotNumber n k) step e = e
own (fault.OutOfRange n k) step e = e
own (fault.MinAboveMax n axis) step e = e
own (fault.Repeated n) step e = e

-- ---- and their ids at the end

-- the number of a record that is judged is that of the first entry, and one more for each entry so far
pub number_now : (header : Bool) (number count : ℕ) → 1 ≤ number → (header && (number == 1)) ≡ false → count ≡ number - first_number header
    → number ≡ first_number header + count
number_now true number count positive judges counted = let later : (number ≡ 1) → ⊥ = (λ e. cc (rw e at judges)) in omega arith
number_now false number count positive judges counted = omega arith

pub first_number-small : (header : Bool) → first_number header ≤ 2
first_number-small true = omega arith
first_number-small false = omega arith

-- after a header there are no more entries than before it
pub count-header : (header : Bool) (number count : ℕ) → header ≡ true → number ≡ 1 → count ≡ number - first_number header → count ≡ number + 1 - first_number header
count-header true number count is first counted = omega arith
count-header false number count is first counted = cc

-- one record more, whose id waits for the end like those before it
pub after_ids-more : (header : Bool) (max number : ℕ) (so_far : List Entry) (entry : Entry) (fields : List (List ℕ)) (more : List (List (List ℕ)))
    → 1 ≤ number → (header && (number == 1)) ≡ false → number ≡ first_number header + length so_far → entry_after max number so_far fields ≡ Ok entry
    → after_ids header so_far (table_after header max number so_far (fields ∷ more))
    ≡ after_ids header (so_far ++ entry ∷ []) (table_after header max (number + 1) (so_far ++ entry ∷ []) more)
after_ids-more header max number so_far entry fields more positive judges counted read =
    rw (first_repeat-push so_far entry) (by (first_repeat so_far) (has_id so_far entry.id) refl)
  where
    rest : Result (List Entry) TableFault
    rest = table_after header max (number + 1) (so_far ++ entry ∷ []) more

    by : (o : Option ℕ) (b : Bool) → has_id so_far entry.id ≡ b
        → repeat_or header o (table_after header max number so_far (fields ∷ more)) ≡ repeat_or header (repeat_with so_far entry o) rest
    by (Some place) b e = refl
    by None true e =
        let id = judged-id max number so_far fields entry read in
        rw (e, ← counted) (table_after-refused header max number so_far (fault.Repeated number) fields more judges (id ∙ rw e refl))
    by None false e =
        let id = judged-id max number so_far fields entry read in
        rw e (table_after-more header max number so_far entry fields more positive judges (id ∙ rw e refl))

-- a record that is refused, whatever its id
pub after_ids-refused : (header : Bool) (max number : ℕ) (so_far : List Entry) (f : TableFault) (fields : List (List ℕ)) (more : List (List (List ℕ)))
    → (header && (number == 1)) ≡ false → IsRefusal f (entry_after max number so_far fields) → IsFaultOf f (table_after header max number so_far (fields ∷ more))
after_ids-refused header max number so_far f fields more judges (inl memory) = rw memory tt
after_ids-refused header max number so_far f fields more judges (inr refused) =
    own f _ (table_after-refused header max number so_far f fields more judges (judged-refused max number so_far fields f refused))
