-- A whole run: what it writes, the fault that it reports, and its status.
use Rattle.std.specs.Prelude.{ℕ, true, if◌then◌else◌, List, [], Some, None, Result, Ok, Err}
use Rattle.rt_command.specs.Choices.{Choices}
use Rattle.rt_text.specs.Steps.{◌>>=◌}
use Rattle.rt_text.specs.Tables.{table_of}
use Rattle.rt_text.specs.declared.tables.TableFault.{TableFault}
use Rattle.rt_filter.specs.Lines.{numbered_lines}
use Rattle.rt_filter.specs.Replies.{Loaded, any_fault, output}
use Rattle.rt_filter.specs.declared.filter.Outcome.{Outcome}
use Rattle.rt_text.specs.declared.run_faults.RunFault.TheVariants.{Table}

-- what a run writes, and its status and the fault that it reports: of the fault of the table, or over what was loaded,
-- where the status is 1 if some line is faulty, else 0
abbrev pub run_over : Result Loaded TableFault → (queries : List ℕ) → List ℕ × Outcome
run_over (Err cause) queries = ([], record { status = 3; fault = Some (Table cause) })
run_over (Ok loaded) queries =
    let lines = numbered_lines queries true in
    (output loaded lines, record { status = if any_fault lines then 1 else 0; fault = None })

-- what the settings load of a table's bytes, or the first fault of the table
abbrev pub loaded_of : Choices → (table : List ℕ) → Result Loaded TableFault
loaded_of choices table = do
  entries ← table_of table choices.header choices.max_entries
  Ok (record { entries = entries; fanout = choices.fanout })

-- the run of settings over a table's bytes and query bytes
abbrev pub run_of : Choices → (table queries : List ℕ) → List ℕ × Outcome
run_of choices table queries = run_over (loaded_of choices table) queries
