-- How the program ends: its exit status, and the line on standard error.
use Rattle.std.specs.Prelude.{◌≡◌, ◌≤◌, ℕ, List, [], Option, Some, None, MatchOption, codes}
use Rattle.std.specs.Option.{option_map_or}
use Rattle.rt_command.specs.Choices.{Choices}
use Rattle.rt_command.specs.declared.invocation.ArgFault.{ArgFault}
use Rattle.rt_command.specs.declared.invocation.ArgFault.TheVariants as words
use Rattle.rt_text.specs.RunFaults.{run_fault_line, status_of}
use Rattle.rt_text.specs.declared.run_faults.RunFault.TheVariants.{Write, Memory}
use Rattle.rt_filter.specs.Endings.{Ends, Known}
use Rattle.rt_filter.specs.declared.filter.Outcome.{Outcome}
use Rattle.rt_filter.specs.declared.ending.Ending.{Ending}
use Rattle.rt_filter.specs.declared.ending.Ending.TheVariants.{Ran, Helped, NotHelped, BadCommandLine, NoTable, NoQueries, NoMemory}

-- the exit status
abbrev pub exit_status : Ending → ℕ
exit_status (Ran outcome) = outcome.status
exit_status Helped = 0
exit_status BadCommandLine = 2
exit_status NoTable = 3
exit_status NoQueries = 4
exit_status NotHelped = 5
exit_status NoMemory = 6

-- what is reported on standard error: a line, unless all went well or help was printed
abbrev pub report_of : Ending → List ℕ
report_of (Ran outcome) = option_map_or run_fault_line outcome.fault []
report_of Helped = []
report_of BadCommandLine = codes "rtfilter: bad command line\n"
report_of NoTable = codes "rtfilter: cannot open table\n"
report_of NoQueries = codes "rtfilter: cannot open queries\n"
report_of NotHelped = run_fault_line Write
report_of NoMemory = run_fault_line Memory

-- what help prints
abbrev pub usage_line : List ℕ
usage_line = codes "usage: rtfilter [-H|--header] [--fanout M] [--max-entries N] TABLE [QUERIES]\n"

-- how it ends where the words of the command line ask for no run, and what it asks for is printed
abbrev pub refusal_of : ArgFault → Ending
refusal_of words.Help = Helped
refusal_of words.Usage = BadCommandLine
refusal_of words.Memory = NoMemory

-- what is printed then
abbrev pub printed_for : ArgFault → List ℕ
printed_for words.Help = usage_line
printed_for other = []

-- a run with these settings, over a table's bytes where these are known, ended so
pub record HasRun (choices : Choices) (table : Option (List ℕ)) (old : Known) (written : Option (List ℕ)) (outcome : Outcome)
    : Type 0 where
  pub ends : (all : List ℕ) → table ≡ Some all
      → (coming : Option (List ℕ)) × Ends choices all old (record { coming = coming; written = written }) outcome
  pub status : MatchOption outcome.fault (outcome.status ≤ 1) (λ fault. outcome.status ≡ status_of fault)

-- the program ends with that run, or there was no memory for its buffer
abbrev pub EndsRun : {S : Type 0} → (written : S → Option (List ℕ)) → Choices → (table : Option (List ℕ)) → Known → Ending
    → Option S → Type 0
EndsRun written choices table old ending None = ending ≡ NoMemory
EndsRun written choices table old ending (Some sink) =
    (outcome : Outcome) × (ending ≡ Ran outcome) × HasRun choices table old (written sink) outcome
