-- How serving the queries may end, and a whole run.
use Rattle.std.specs.Prelude.{◌≡◌, ◌+◌, ◌≤◌, ℕ, List, [], length, take, Bool, true, false, Option, Some, None, IfSome, Result, IsOkAnd}
use Rattle.std.specs.Io.{StartsWith}
use Rattle.std.specs.Io.KnownBytes.{Appends, Consumes}
use Rattle.rt_command.specs.Choices.{Choices}
use Rattle.rt_text.specs.Words.{is_empty}
use Rattle.rt_text.specs.declared.tables.TableFault.{TableFault}
use Rattle.rt_text.specs.declared.tables.TableFault.TheVariants as load
use Rattle.rt_filter.specs.Lines.{longest_line, numbered_lines}
use Rattle.rt_filter.specs.Replies.{Loaded, any_fault, output}
use Rattle.rt_filter.specs.Runs.{loaded_of, run_over}
use Rattle.rt_filter.specs.declared.filter.Outcome.{Outcome}
use Rattle.rt_text.specs.declared.run_faults.RunFault.{RunFault}
use Rattle.rt_text.specs.declared.run_faults.RunFault.TheVariants.{Table, Read, Write, Memory}
use Rattle.rt_filter.specs.declared.serving.ServeFault.{ServeFault}
use Rattle.rt_filter.specs.declared.serving.ServeFault.TheVariants as serve
use Rattle.rt_filter.specs.declared.serving.Served.{Served}

-- ---- what happened

-- of the query bytes those that were consumed and those that rest, and the bytes that went out
pub record Happened : Type 0 where
  pub consumed : List ℕ
  pub rest : List ℕ
  pub out : List ℕ

-- what is known of the bytes of a source and a sink: those to come, and those written
pub record Known : Type 0 where
  pub coming : Option (List ℕ)
  pub written : Option (List ℕ)

-- a source reports that some bytes were consumed, and that the rest is to come
abbrev pub SourceTells : (coming now : Option (List ℕ)) → Happened → Type 0
SourceTells coming now what = Consumes coming now what.consumed × IfSome now (λ rest. rest ≡ what.rest)

-- at least `count` of the bytes to come were consumed, if these are known
abbrev pub ConsumedAtLeast : (count : ℕ) → (old new : Option (List ℕ)) → Type 0
ConsumedAtLeast count old new = (consumed : List ℕ) × Consumes old new consumed × (count ≤ length consumed)

-- ---- serving the queries

-- the lines of what was consumed are answered; `ended` says that no more bytes come
pub record ServesLines (loaded : Loaded) (what : Happened) (bad ended : Bool) : Type 0 where
  pub replies : what.out ≡ output loaded (numbered_lines what.consumed ended)
  pub faults : bad ≡ any_fault (numbered_lines what.consumed ended)

-- what went out is a prefix of the replies to what was consumed, which has ended where nothing rests, and has all replies
-- to some part of it that is at most a line and its line feed shorter
pub record ServesPrefix (loaded : Loaded) (what : Happened) (bad : Bool) : Type 0 where
  pub replies : StartsWith (output loaded (numbered_lines what.consumed (is_empty what.rest))) what.out
  pub faults : bad ≡ true → any_fault (numbered_lines what.consumed (is_empty what.rest)) ≡ true
  -- so many bytes
  pub answered : ℕ
  pub shorter : length what.consumed ≤ answered + (longest_line + 1)
  pub replied : StartsWith what.out (output loaded (numbered_lines (take answered what.consumed) false))

-- how serving ends: all was read, a pull failed or the turns were used up, or a push or a flush failed
abbrev pub ServesWith : Loaded → Happened → (bad : Bool) → Option ServeFault → Type 0
ServesWith loaded what bad None = (what.rest ≡ []) × ServesLines loaded what bad true
ServesWith loaded what bad (Some serve.Read) = ServesLines loaded what bad false
ServesWith loaded what bad (Some serve.Write) = ServesPrefix loaded what bad

-- this happened, and serving ends so; a device that reports no bytes leaves its part open
abbrev pub Serves : Loaded → (old now : Known) → Served → Type 0
Serves loaded old now served =
    (what : Happened) × SourceTells old.coming now.coming what × Appends old.written now.written what.out
    × ServesWith loaded what served.bad served.fault

-- ---- a whole run

-- the fault of a run whose serving ends with this fault
abbrev pub run_fault_of : ServeFault → RunFault
run_fault_of serve.Read = Read
run_fault_of serve.Write = Write

-- the table is sound, and serving the queries ended with this fault
abbrev pub EndsServing : Result Loaded TableFault → Happened → ServeFault → Type 0
EndsServing loaded what cause = IsOkAnd loaded (λ loaded. (bad : Bool) × ServesWith loaded what bad (Some cause))

-- the row of each fault; where nothing fails outside, it is the run over what was loaded or over the table's fault
abbrev pub EndsWith : Result Loaded TableFault → Happened → Outcome → Option RunFault → Type 0
EndsWith loaded what outcome None = (what.rest ≡ []) × (run_over loaded what.consumed ≡ (what.out, outcome))
EndsWith loaded what outcome (Some (Table load.Read)) = (what.consumed ≡ []) × (what.out ≡ [])
EndsWith loaded what outcome (Some (Table of_text)) =
    (what.consumed ≡ []) × (run_over loaded what.rest ≡ (what.out, outcome))
EndsWith loaded what outcome (Some Read) = EndsServing loaded what serve.Read
EndsWith loaded what outcome (Some Write) = EndsServing loaded what serve.Write
EndsWith loaded what outcome (Some Memory) = (what.consumed ≡ []) × (what.out ≡ [])

-- how a run over a table's bytes may end; a device that reports no bytes leaves its part open
abbrev pub Ends : Choices → (table : List ℕ) → (old now : Known) → Outcome → Type 0
Ends choices table old now outcome =
    (what : Happened) × SourceTells old.coming now.coming what × Appends old.written now.written what.out
    × EndsWith (loaded_of choices table) what outcome outcome.fault
