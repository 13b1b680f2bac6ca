-- How a table is loaded: first its entries, and once all are there, their ids. Nothing that the load promises speaks of
-- this.
use Rattle.std.specs.Prelude.{◌≡◌, ◌⊎◌, ℕ, ◌+◌, nat_le, Bool, true, if◌then◌else◌, List, length, Option, Some, None, Result, Ok, Err}
use Rattle.csv.specs.Reading.{Ready, default_config, is_flexible, reader_config, reader_trim}
use Rattle.csv.specs.declared.reader.Reader.{Reader}
use Rattle.csv.specs.declared.reader.Trim.TheVariants as trim
use Rattle.rt_geo.specs.declared.entry.Entry.{Entry}
use Rattle.rt_tree.specs.Entries.{first_repeat}
use Rattle.rt_text.specs.Tables.{IsFaultOf, entry_of_fields}
use Rattle.rt_text.specs.declared.tables.TableFault.{TableFault}
use Rattle.rt_text.specs.declared.tables.TableFault.TheVariants as fault

-- a reader of csv's usual records, of any number of fields, that may be read on
abbrev pub IsReading : {R : Type 0} → Reader R → Type 0
IsReading records =
    (reader_trim records ≡ trim.None) × Ready records × (reader_config records ≡ default_config) × (is_flexible records ≡ true)

-- one record, judged after the entries so far, but for whether its id comes again
abbrev pub entry_after : (max number : ℕ) → List Entry → List (List ℕ) → Result Entry TableFault
entry_after max number so_far fields =
    if nat_le max (length so_far) then Err (fault.TooMany number) else entry_of_fields number fields

-- a fault that a step of the load may answer, one that reads nothing, where this is what the step gives: its own
-- fault, or want of memory
abbrev pub IsRefusal : {A : Type 0} → TableFault → Result A TableFault → Type 0
IsRefusal cause step = (cause ≡ fault.Memory) ⊎ (step ≡ Err cause)

-- the number of the record that gives the first entry: a header is counted
abbrev pub first_number : (header : Bool) → ℕ
first_number header = if header then 2 else 1

-- the fault of the entry at a place whose id an earlier one has, or the rest where there is no such entry
abbrev pub repeat_or : (header : Bool) → Option ℕ → Result (List Entry) TableFault → Result (List Entry) TableFault
repeat_or header None rest = rest
repeat_or header (Some place) rest = Err (fault.Repeated (first_number header + place))

-- what a table is where these entries were read, and `rest` is what it would be if no id came again
abbrev pub after_ids : (header : Bool) → List Entry → Result (List Entry) TableFault → Result (List Entry) TableFault
after_ids header entries rest = repeat_or header (first_repeat entries) rest

-- how the reading of entries ended, where this is the table: at its end, or at a fault of the record after them
abbrev pub EndsAt : {U : Type 0} → Result U TableFault → (header : Bool) → List Entry → Result (List Entry) TableFault → Type 0
EndsAt (Ok _) header entries table = table ≡ after_ids header entries (Ok entries)
EndsAt (Err cause) header entries table =
    (rest : Result (List Entry) TableFault) × (table ≡ after_ids header entries rest) × IsFaultOf cause rest
