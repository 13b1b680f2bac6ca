-- What holds whenever more queries are pulled, and what serving has done in the end. No public contract cites it.
use Rattle.std.specs.Prelude.{◌≡◌, ℕ, false, List, [], Option, None, Some}
use Rattle.std.specs.Io.KnownBytes.{Appends, Consumes}
use Rattle.rt_filter.specs.Accounts.{Accounts, Connection}
use Rattle.rt_filter.specs.Endings.{Known, Serves}
use Rattle.rt_filter.specs.Lines.{numbered_lines}
use Rattle.rt_filter.specs.Replies.{Loaded, output}
use Rattle.rt_filter.specs.declared.serving.ServeFault.TheVariants as serve
use Rattle.rt_filter.specs.declared.serving.Served.{Served}

-- what is known when serving begins: what queries search, and the devices
pub record AtStart : Type 0 where
  pub loaded : Loaded
  pub devices : Connection

-- nothing is loaded, and the devices report nothing
abbrev pub nothing : AtStart
nothing = record {
  loaded = record { entries = []; fanout = 0 };
  devices = record { coming = None; pull_failures = 0; pulls = None; written = None; push_failures = 0; waits = false };
}

-- some bytes were pulled since the start, and what was written since is the output for their complete lines
abbrev pub IsAnswered : AtStart → (coming written : Option (List ℕ)) → Type 0
IsAnswered start coming written =
    (pulled : List ℕ) × Consumes start.devices.coming coming pulled
    × Appends start.devices.written written (output start.loaded (numbered_lines pulled false))

-- what is known of their bytes
abbrev pub known_of : Connection → Known
known_of devices = record { coming = devices.coming; written = devices.written }

-- how serving ended within the turns that are allowed, and what it did to the devices: the clauses of `serve`
pub record IsServed (start : AtStart) (now : Connection) (allowed : ℕ) (served : Served) : Type 0 where
  pub ending : Serves start.loaded (known_of start.devices) (known_of now) served
  pub accounts : Accounts start.devices now allowed (served.fault ≡ Some serve.Read) (served.fault ≡ Some serve.Write)
