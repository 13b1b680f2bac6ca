-- What a pull and a push do to the bytes of a device.
use Rattle.std.specs.Prelude.{◌≡◌, ◌+◌, ℕ, Bool, List, take, Option, Some, IfSome, Result, MatchResult}
use Rattle.std.specs.Io.KnownBytes.{Appends, Consumes, IsAtEnd, Keeps}

-- a pull of n bytes: the next n bytes are at the front of the buffer, none only if none are to come; a failure consumes
-- nothing, and known bytes stay known
abbrev pub Pulls : {E : Type 0} → Option (List ℕ) → Option (List ℕ) → Result ℕ E → List ℕ → Type 0
Pulls old new pulled buffer =
    MatchResult pulled (λ n. Consumes old new (take n buffer) × (n ≡ 0 → IsAtEnd new)) (λ _. Keeps old new)

-- a push of n bytes: the first n bytes were appended; a failure appends nothing, and known bytes stay known
abbrev pub Pushes : {E : Type 0} → Option (List ℕ) → Option (List ℕ) → Result ℕ E → List ℕ → Type 0
Pushes old new pushed piece =
    MatchResult pushed (λ n. Appends old new (take n piece)) (λ _. Keeps old new)

-- `times` more pulls were made, if their number is still known
abbrev pub PulledTimes : (times : ℕ) → (old new : Option ℕ) → Type 0
PulledTimes times old new =
    IfSome new (λ now. (before : ℕ) × (old ≡ Some before) × (now ≡ before + times))

-- a reader or a writer of std, and how many of its calls failed
pub record Counting (D : Type 0) : Type 0 where
  pub device : D
  pub failures : ℕ

-- a writer of std, how many of its calls failed, and whether bytes that it took wait for a flush
pub record Writer (W : Type 0) : Type 0 where
  pub device : W
  pub failures : ℕ
  pub waits : Bool

-- bytes in memory that are to come, and the most that a pull returns
pub record Slice : Type 0 where
  pub bytes : List ℕ
  pub piece : ℕ
  -- the number, from 1, of the pull to come that fails; at 0 none does
  pub fails_in : ℕ
  pub failures : ℕ
  -- how many pulls were made, as far as 64 bits count
  pub pulls : Option ℕ

-- bytes that a buffer in memory has taken, and the most that a push takes
pub record Buffer : Type 0 where
  pub bytes : List ℕ
  -- how many more it can take
  pub left : ℕ
  pub piece : ℕ
  -- the number, from 1, of the push or flush to come that fails; at 0 none does
  pub fails_in : ℕ
  pub failures : ℕ
  -- whether bytes that it took wait for a flush
  pub waits : Bool
