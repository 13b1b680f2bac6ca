-- All records of a text of CSV, taken apart from the front as a reader takes them: a read that finds one
-- leaves the records after it, and a read that finds none leaves none.
use Rattle.std.proofs.Common.{◌≡◌, ◌+◌, ◌<◌, ◌≤◌, ℕ, zero, suc, Bool, true, false, List, [], ◌∷◌, length, Option, Some, None, refl, sym, ap, ◌∙◌, add-one, arith}
use Rattle.csv.specs.Machine.{Read, ends_at_end, field_after, fields_after, is_end, next_record, step}
use Rattle.csv.specs.Reading.{NextIs, ReadRecord, ReadsNext, pending_of, records_from, records_next, source_of}
use Rattle.csv.specs.declared.parser.Config.{Config}
use Rattle.csv.specs.declared.parser.State.{State}
use Rattle.csv.specs.declared.parser.State.TheVariants as st
use Rattle.csv.specs.declared.reader.Reader.{Reader}
use Rattle.csv.proofs.ReadFacts.{rows-end}

-- every record of a text from a state
abbrev pub records_after : Config → State → List ℕ → List (List (List ℕ))
records_after cfg s xs = records_from cfg (length xs + 1) s xs

-- ---- what one record leaves

same_read : (p q : Read) → ◌≡◌ {A = Option Read} (Some p) (Some q) → p ≡ q
same_read p q e = cc

-- a record that the end of a text ends leaves nothing
next_record-at_end : (cfg : Config) (s : State) (fields : List (List ℕ)) (field : List ℕ) (p : Read)
    → next_record cfg s fields field [] ≡ Some p → (p.1 ≡ st.StartRecord) × (p.2 ≡ [])
unfolding next_record
next_record-at_end cfg s fields field p e = by (ends_at_end s) refl e
  where
    by : (b : Bool) → ends_at_end s ≡ b → next_record cfg s fields field [] ≡ Some p → (p.1 ≡ st.StartRecord) × (p.2 ≡ [])
    by true d h =
        let same = same_read _ p (rw d at h) in
        (sym (ap (λ (q : Read). q.1) same), sym (ap (λ (q : Read). q.2) same))
    by false d h = let x : ◌≡◌ {A = Option Read} None (Some p) = rw d at h in cc

-- any other record takes a byte or more
next_record-shorter : (cfg : Config) (s : State) (fields : List (List ℕ)) (field : List ℕ) (c : ℕ) (rest : List ℕ) (p : Read)
    → next_record cfg s fields field (c ∷ rest) ≡ Some p → length p.2 ≤ length rest
unfolding next_record
next_record-shorter cfg s fields field c [] p h = by (is_end (step cfg s c).1) refl h
  where
    by : (b : Bool) → is_end (step cfg s c).1 ≡ b → next_record cfg s fields field (c ∷ []) ≡ Some p → length p.2 ≤ length {A = ℕ} []
    by true e h =
        let left : [] ≡ p.2 = ap (λ (q : Read). q.2) (same_read _ p (rw e at h)) in
        rw (← left) (omega arith)
    by false e h =
        let end = next_record-at_end cfg _ _ _ p (rw e at h) in
        rw end.1 (omega arith)
next_record-shorter cfg s fields field c (d ∷ more) p h =
    by (is_end (step cfg s c).1) refl h
    (next_record-shorter cfg (step cfg s c).0 (fields_after (step cfg s c).1 fields field) (field_after (step cfg s c).1 c field) d more p)
  where
    by : (b : Bool) → is_end (step cfg s c).1 ≡ b → next_record cfg s fields field (c ∷ d ∷ more) ≡ Some p
        → (next_record cfg (step cfg s c).0 (fields_after (step cfg s c).1 fields field) (field_after (step cfg s c).1 c field) (d ∷ more) ≡ Some p → length p.2 ≤ length more)
        → length p.2 ≤ length (d ∷ more)
    by true e h later =
        let left : d ∷ more ≡ p.2 = ap (λ (q : Read). q.2) (same_read _ p (rw e at h)) in
        rw (← left) (omega arith)
    by false e h later =
        let k : length p.2 ≤ length more = later (rw e at h) in
        omega arith

-- ---- the number of turns doesn't matter, where there are more than bytes

records_from-nothing : (cfg : Config) (n : ℕ) → records_from cfg n st.StartRecord [] ≡ []
unfolding records_from next_record
records_from-nothing cfg zero = refl
records_from-nothing cfg (suc n) = refl

records_from-turns : (cfg : Config) (n m : ℕ) (s : State) (xs : List ℕ) → length xs < n → length xs < m → records_from cfg n s xs ≡ records_from cfg m s xs
unfolding records_from
records_from-turns cfg zero m s xs a b = absurd (omega (arith, a))
records_from-turns cfg (suc n) zero s xs a b = absurd (omega (arith, b))
records_from-turns cfg (suc n) (suc m) s xs a b = by (next_record cfg s [] [] xs) refl (λ p. records_from-turns cfg n m p.1 p.2)
  where
    after : (ys : List ℕ) (p : Read) → length ys < suc n → length ys < suc m → next_record cfg s [] [] ys ≡ Some p
        → (length p.2 < n → length p.2 < m → records_from cfg n p.1 p.2 ≡ records_from cfg m p.1 p.2)
        → records_from cfg n p.1 p.2 ≡ records_from cfg m p.1 p.2
    after [] p a b e later =
        let end = next_record-at_end cfg s [] [] p e in
        rw (end.0, end.1) (records_from-nothing cfg n ∙ sym (records_from-nothing cfg m))
    after (c ∷ rest) p a b e later =
        let k = next_record-shorter cfg s [] [] c rest p e in
        later (omega arith) (omega arith)

    by : (o : Option Read) → next_record cfg s [] [] xs ≡ o
        → ((p : Read) → length p.2 < n → length p.2 < m → records_from cfg n p.1 p.2 ≡ records_from cfg m p.1 p.2)
        → records_next (records_from cfg n) (next_record cfg s [] [] xs) ≡ records_next (records_from cfg m) (next_record cfg s [] [] xs)
    by None e later = rw e refl
    by (Some p) e later = rw e (ap (λ (r : List (List (List ℕ))). p.0 ∷ r) (after xs p a b e (later p)))

-- ---- a record and the records after it, or none

pub records_after-some : (cfg : Config) (s : State) (xs : List ℕ) (p : Read)
    → next_record cfg s [] [] xs ≡ Some p → records_after cfg s xs ≡ p.0 ∷ records_after cfg p.1 p.2
unfolding records_from
records_after-some cfg s [] p e =
    let end = next_record-at_end cfg s [] [] p e in
    rw (add-one, e, end.0, end.1) (ap (λ (r : List (List (List ℕ))). p.0 ∷ r) (sym (records_from-nothing cfg 1)))
records_after-some cfg s (c ∷ rest) p e =
    let k = next_record-shorter cfg s [] [] c rest p e in
    rw (add-one (length (c ∷ rest)), e)
    (ap (λ (r : List (List (List ℕ))). p.0 ∷ r) (records_from-turns cfg (length (c ∷ rest)) (length p.2 + 1) p.1 p.2 (omega arith) (omega arith)))

pub records_after-none : (cfg : Config) (s : State) (xs : List ℕ) → next_record cfg s [] [] xs ≡ None → records_after cfg s xs ≡ []
unfolding records_from
records_after-none cfg s xs e = rw (add-one, e) refl

-- ---- one read of a reader

taken : (cfg : Config) (a b : State) (y : List ℕ) (fields : List (List ℕ)) (left : Option (List ℕ)) → ReadsNext cfg a (Some y) left true fields b
    → (z : List ℕ) × (left ≡ Some z) × (records_after cfg a y ≡ fields ∷ records_after cfg b z)
taken cfg a b y fields None r = absurd r
taken cfg a b y fields (Some z) r = by (next_record cfg a [] [] y) refl r
  where
    by : (o : Option Read) → next_record cfg a [] [] y ≡ o → NextIs o true fields b z
        → (w : List ℕ) × (Some z ≡ Some w) × (records_after cfg a y ≡ fields ∷ records_after cfg b w)
    by None e next = cc next
    by (Some p) e next = (z, refl, rw (next.1, next.2, next.3) (records_after-some cfg a y p e))

-- the records to come are the one that the read found and those that come after it
pub records_after-found : {R : Type 0} (rem : R → Option (List ℕ)) (old new : Reader R) (fields : List (List ℕ)) (cfg : Config) (y : List ℕ)
    → old.config ≡ cfg → source_of rem old ≡ Some y → ReadRecord rem old new true fields
    → (z : List ℕ) × (source_of rem new ≡ Some z) × (records_after cfg old.state y ≡ fields ∷ records_after cfg new.state z)
records_after-found rem old new fields cfg y same known r =
    let t = taken cfg old.state new.state y fields (pending_of (rem new.rdr) new) (rw (same, known) at r.0) in
    (t.0, rw r.1 t.1, t.2)

-- no record is to come where the read found none
pub records_after-end : {R : Type 0} (rem : R → Option (List ℕ)) (old new : Reader R) (fields : List (List ℕ)) (cfg : Config) (y : List ℕ)
    → old.config ≡ cfg → source_of rem old ≡ Some y → ReadRecord rem old new false fields → records_after cfg old.state y ≡ []
records_after-end rem old new fields cfg y same known r = records_after-none cfg old.state y (rows-end rem old new fields cfg y same known r)
