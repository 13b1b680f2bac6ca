-- The children of a node that wait to be opened. Nothing that a public call promises speaks of this.
use Rattle.std.specs.Prelude.{◌≡◌, ◌≢◌, ◌<◌, ◌≤◌, ◌==◌, ℕ, Bool, true, false, if◌then◌else◌, List, get_or}
use Rattle.std.specs.Int.{bit_at}
use Rattle.rt_geo.specs.declared.geometry.Verdict.{Verdict}
use Rattle.rt_geo.specs.declared.geometry.Within.TheVariants.{Not, Partly, Fully}

-- what is seen of them: which places wait, which are FULLY, each a bit, and the scores
pub record Waiting : Type 0 where
  pub places : ℕ
  pub full : ℕ
  pub scores : List ℕ

-- a place is among those whose bits are set
abbrev pub is_among : (places place : ℕ) → Bool
is_among places place = bit_at places place == 1

-- the verdict on the child at a place
abbrev pub verdict_at : (has_scores : Bool) → Waiting → (place : ℕ) → Verdict
verdict_at has_scores w place = record {
  within = if is_among w.full place then Fully else Partly;
  score = if has_scores then get_or w.scores place 0 else 0;
}

-- a child was checked, with this verdict
pub record HasKept (has_scores : Bool) (place : ℕ) (v : Verdict) (old new : Waiting) : Type 0 where
  pub same : new.places ≡ old.places
  pub kept : v.within ≢ Not → verdict_at has_scores new place ≡ v
  pub others : (i : ℕ) → i ≢ place → verdict_at has_scores new i ≡ verdict_at has_scores old i
  pub clear : (i : ℕ) → i ≢ place → is_among new.full i ≡ is_among old.full i

-- one more child waits
pub record HasPut (place : ℕ) (old new : Waiting) : Type 0 where
  pub here : is_among new.places place ≡ true
  pub others : (i : ℕ) → i ≢ place → is_among new.places i ≡ is_among old.places i
  pub same : new ≡ record old { places = new.places }

-- the first child that waited was taken out
pub record HasTakenOut (has_scores : Bool) (place : ℕ) (v : Verdict) (old new : Waiting) : Type 0 where
  pub first : is_among old.places place ≡ true
  pub before : (i : ℕ) → i < place → is_among old.places i ≡ false
  pub out : is_among new.places place ≡ false
  pub others : (i : ℕ) → i ≢ place → is_among new.places i ≡ is_among old.places i
  pub verdict : v ≡ verdict_at has_scores old place
  pub same : new ≡ record old { places = new.places }

-- the children from one place to another wait, where they are opened, with the verdicts on them
pub record HasWaiting (has_scores : Bool) (opens : Verdict → Bool) (verdict : ℕ → Verdict) (from to : ℕ) (w : Waiting)
    : Type 0 where
  pub places : (i : ℕ) → from ≤ i → i < to → is_among w.places i ≡ opens (verdict i)
  pub before : (i : ℕ) → i < from → is_among w.places i ≡ false
  pub behind : (i : ℕ) → to ≤ i → is_among w.places i ≡ false
  pub clear : (i : ℕ) → to ≤ i → is_among w.full i ≡ false
  pub verdicts : (i : ℕ) → i < to → opens (verdict i) ≡ true → verdict_at has_scores w i ≡ verdict i
