-- The fault of a table in numbers.
use Rattle.std.specs.Prelude.{◌≡◌, ◌==◌, ◌<◌, ◌-◌, ◌%◌, ◌^◌, ⊤, ℕ, if◌then◌else◌, List, length, take, Option, Some, None, Err}
use Rattle.rt_command.specs.Choices.{Choices}
use Rattle.rt_embed.specs.GivenBoxes.{Given, table_of}
use Rattle.rt_filter.specs.Runs.{loaded_of}
use Rattle.rt_text.specs.FaultLines.{fault_line}
use Rattle.rtfilter_c.specs.Calls.{copied}
use Rattle.rt_text.specs.declared.run_faults.RunFault.{RunFault}
use Rattle.rt_text.specs.declared.run_faults.RunFault.TheVariants.{Table}
use Rattle.rt_text.specs.declared.tables.Axis.TheVariants as axis
use Rattle.rt_text.specs.declared.tables.TableFault.{TableFault}
use Rattle.rt_text.specs.declared.tables.TableFault.TheVariants.{TooMany, FieldCount, NotNumber, OutOfRange, MinAboveMax, Repeated, Read, Memory}
use Rattle.rtfilter_c.specs.declared.fault.Fault.{Fault}

abbrev pub fault_of : (kind number field : ℕ) → Option Fault
fault_of kind number field = Some (record { kind = kind; «record» = number; field = field })

-- the kind, the record, and the field: of two that don't fit the first, min_x or min_y; how many fields were found where
-- their number is wrong; that of the id where it comes again. A failed read and want of memory are no faults of the table
abbrev pub numbers_of : TableFault → Option Fault
numbers_of (TooMany number) = fault_of 1 number 0
numbers_of (FieldCount number found) = fault_of 2 number found
numbers_of (NotNumber number field) = fault_of 3 number field
numbers_of (OutOfRange number field) = fault_of 4 number field
numbers_of (MinAboveMax number axis.X) = fault_of 5 number 2
numbers_of (MinAboveMax number axis.Y) = fault_of 5 number 4
numbers_of (Repeated number) = fault_of 6 number 1
numbers_of Read = None
numbers_of Memory = None

-- the line for a fault of a table, as the program prints it, without its line feed
abbrev pub message_of : TableFault → List ℕ
message_of cause = take (length (fault_line cause) - 1) (fault_line cause)

-- the number of a field, where a fault names one, is one of 8 bits
abbrev pub HasField : TableFault → Type 0
HasField (NotNumber number field) = field < 2 ^ 8
HasField (OutOfRange number field) = field < 2 ^ 8
HasField other = ⊤

-- a message is in a buffer, as much of it as fits, and this is its length
pub record HasMessage (cause : TableFault) (so_many : ℕ) (old new : List ℕ) : Type 0 where
  pub len : so_many ≡ length (message_of cause)
  pub bytes : new ≡ copied (message_of cause) old

-- the fault whose numbers these may be, if they are those of one
abbrev pub fault_with : Fault → Option TableFault
fault_with fault =
    if fault.kind == 1 then Some (TooMany fault.«record»)
    else if fault.kind == 2 then Some (FieldCount fault.«record» fault.field)
    else if fault.kind == 3 then Some (NotNumber fault.«record» (fault.field % 2 ^ 8))
    else if fault.kind == 4 then Some (OutOfRange fault.«record» (fault.field % 2 ^ 8))
    else if fault.kind == 5 then Some (MinAboveMax fault.«record» (if fault.field == 2 then axis.X else axis.Y))
    else if fault.kind == 6 then Some (Repeated fault.«record»)
    else None

-- the numbers are those of the fault that the table has under these settings, its first
abbrev pub ReportsFault : Choices → (table : List ℕ) → Fault → Type 0
ReportsFault choices table fault = (cause : TableFault) × (loaded_of choices table ≡ Err cause) × (numbers_of cause ≡ Some fault)

-- the fault of boxes is reported, in numbers
abbrev pub ReportsBoxesFault : Choices → Given → Fault → Type 0
ReportsBoxesFault choices given fault =
    (cause : TableFault) × (table_of choices.max_entries given ≡ Err cause) × (numbers_of cause ≡ Some fault)

-- a fault of a table, in numbers
abbrev pub IsFaultInNumbers : RunFault → Fault → Type 0
IsFaultInNumbers cause fault = (own : TableFault) × (cause ≡ Table own) × (numbers_of own ≡ Some fault)
