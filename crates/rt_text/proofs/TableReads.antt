-- Reading a table: what has been read before a record, and what one more read makes of it.
use Rattle.std.proofs.Common.{◌≡◌, ◌≤◌, ◌+◌, ◌==◌, ◌&&◌, ◌⊎◌, inl, inr, ℕ, Bool, true, false, List, [], ◌∷◌, ◌++◌, length, length-append, Option, Some, refl, ◌∙◌, ap, arith}
use Rattle.std.specs.Prelude.{Result, Ok, Err, IsOkAnd}
use Rattle.std.proofs.lemmas.Bool.Decides.{nat_tests}
use Rattle.csv.specs.Reading.{ReadRecord, default_config, source_of}
use Rattle.csv.specs.declared.reader.Reader.{Reader}
use Rattle.rt_geo.specs.declared.entry.Entry.{Entry}
use Rattle.rt_text.specs.Loads.{EndsAt, IsRefusal, after_ids, entry_after, first_number}
use Rattle.rt_text.specs.declared.tables.TableFault.{TableFault}
use Rattle.rt_text.proofs.Records.{records_after, records_after-end, records_after-found}
use Rattle.rt_text.proofs.TableLemmas.{after_ids-more, after_ids-refused, table_after, table_after-end, table_after-header}

-- before the record of this number: the table is the entries so far, if no id comes again, and what the bytes to come add
pub record ReadUpTo {R : Type 0} (rem : R → Option (List ℕ)) (records : Reader R) (so_far : List Entry) (header : Bool) (max number : ℕ) (table : Result (List Entry) TableFault) : Type 0 where
  pub rest : List ℕ
  pub known : source_of rem records ≡ Some rest
  pub whole : table ≡ after_ids header so_far (table_after header max number so_far (records_after default_config records.state rest))

-- which records are judged
pub is_judged : (header : Bool) (number : ℕ) → (header ≡ true × (number ≡ 1 → ⊥)) ⊎ (header ≡ false) → (header && (number == 1)) ≡ false
is_judged header number (inl both) = rw both.0 (later number both.1)
  where
    later : (n : ℕ) → (n ≡ 1 → ⊥) → (n == 1) ≡ false
    later n h = grind (arith, nat_tests)
is_judged header number (inr absent) = rw absent refl

-- one entry more
pub longer : (r : Result Entry TableFault) (so_far more : List Entry) → IsOkAnd r (λ entry. more ≡ so_far ++ entry ∷ []) → length more ≡ length so_far + 1
longer (Ok entry) so_far more added = ap length added ∙ length-append so_far (entry ∷ [])
longer (Err f) so_far more added = absurd added

module _ {R : Type 0} {rem : R → Option (List ℕ)} {records : Reader R} {so_far : List Entry} {header : Bool} {max number : ℕ} {table : Result (List Entry) TableFault} (after : Reader R) (fields : List (List ℕ)) where
  -- at the end the entries so far are the table
  pub read-end : ReadUpTo rem records so_far header max number table → records.config ≡ default_config → ReadRecord rem records after false fields → table ≡ after_ids header so_far (Ok so_far)
  read-end at config read =
      let none = records_after-end rem records after fields default_config at.rest config at.known read in
      at.whole ∙ ap (after_ids header so_far) (rw none (table_after-end header max number so_far))

  -- a header changes nothing
  pub read-header : ReadUpTo rem records so_far header max number table → records.config ≡ default_config → ReadRecord rem records after true fields
      → header ≡ true → number ≡ 1 → ReadUpTo rem after so_far header max (number + 1) table
  read-header at config read is_there first =
      let found = records_after-found rem records after fields default_config at.rest config at.known read in
      record {
        rest = found.0;
        known = found.1;
        whole = at.whole ∙ ap (after_ids header so_far) (rw found.2 (table_after-header header max number so_far fields _ is_there first));
      }

  -- a record that gives an entry
  pub read-entry : (more : List Entry) → ReadUpTo rem records so_far header max number table → records.config ≡ default_config → ReadRecord rem records after true fields
      → 1 ≤ number → (header && (number == 1)) ≡ false → number ≡ first_number header + length so_far → IsOkAnd (entry_after max number so_far fields) (λ entry. more ≡ so_far ++ entry ∷ [])
      → ReadUpTo rem after more header max (number + 1) table
  read-entry more at config read positive judges counted added =
      let found = records_after-found rem records after fields default_config at.rest config at.known read in
      let entry = ok_value (entry_after max number so_far fields) added in
      record {
        rest = found.0;
        known = found.1;
        whole = at.whole ∙ rw (found.2, entry.2) (after_ids-more header max number so_far entry.0 fields _ positive judges counted entry.1);
      }
    where
      ok_value : {A E : Type 0} {P : A → Type 0} (r : Result A E) → IsOkAnd r P → (a : A) × (r ≡ Ok a) × P a
      ok_value (Ok a) p = (a, refl, p)
      ok_value (Err e) p = absurd p

  -- a record that is refused, whatever its id
  pub read-refused : (f : TableFault) → ReadUpTo rem records so_far header max number table → records.config ≡ default_config → ReadRecord rem records after true fields
      → (header && (number == 1)) ≡ false → IsRefusal f (entry_after max number so_far fields) → EndsAt {U = Unit {0}} (Err f) header so_far table
  read-refused f at config read judges refused =
      let found = records_after-found rem records after fields default_config at.rest config at.known read in (
        table_after header max number so_far (records_after default_config records.state at.rest),
        at.whole,
        rw found.2 (after_ids-refused header max number so_far f fields _ judges refused),
      )
