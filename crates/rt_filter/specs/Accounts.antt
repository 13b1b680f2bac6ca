-- What serving and a run do to their devices, whatever bytes these report.
use Rattle.std.specs.Prelude.{◌≡◌, ◌+◌, ◌≤◌, ◌⊎◌, ℕ, Bool, false, List, Option}
use Rattle.rt_device.specs.Devices.{PulledTimes}
use Rattle.rt_filter.specs.Endings.{ConsumedAtLeast}

-- a source and a sink: the bytes to come and those written, how often each failed, how many pulls were made, and whether
-- written bytes wait for a flush
pub record Connection : Type 0 where
  pub coming : Option (List ℕ)
  pub pull_failures : ℕ
  pub pulls : Option ℕ
  pub written : Option (List ℕ)
  pub push_failures : ℕ
  pub waits : Bool

-- of devices with these members
abbrev pub connection_of : {S K : Type 0} → (coming : S → Option (List ℕ)) → (pull_failures : S → ℕ) → (pulls : S → Option ℕ)
    → (written : K → Option (List ℕ)) → (push_failures : K → ℕ) → (waits : K → Bool) → S → K → Connection
connection_of coming pull_failures pulls written push_failures waits source sink = record {
  coming = coming source;
  pull_failures = pull_failures source;
  pulls = pulls source;
  written = written sink;
  push_failures = push_failures sink;
  waits = waits sink;
}

-- the accounts of a connection for which `allowed` pulls may be made, and which may have ended by a failed read or write
pub record Accounts (old now : Connection) (allowed : ℕ) (OfRead OfWrite : Type 0) : Type 0 where
  -- each failure of the sink is reported, and no other
  pub pushes : (OfWrite → now.push_failures ≡ old.push_failures + 1) × (¬ OfWrite → now.push_failures ≡ old.push_failures)
  -- each failure of the source is reported. The source may also be given up without one
  pub pulls : (now.pull_failures ≡ old.pull_failures) ⊎ ((now.pull_failures ≡ old.pull_failures + 1) × OfRead)
  -- that is once all pulls are used up, each of which gave a byte at least
  pub turns : OfRead → now.pull_failures ≡ old.pull_failures → ConsumedAtLeast allowed old.coming now.coming
  pub used_up : OfRead → now.pull_failures ≡ old.pull_failures → PulledTimes allowed old.pulls now.pulls
  -- no more pulls are made
  pub most : (times : ℕ) × PulledTimes times old.pulls now.pulls × (times ≤ allowed)
  -- what was pushed is flushed, unless a push or a flush failed, or something waited for a flush before
  pub flushed : ¬ OfWrite → old.waits ≡ false → now.waits ≡ false
