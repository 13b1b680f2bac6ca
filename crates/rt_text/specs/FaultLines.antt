-- The line that reports a fault of the table.
use Rattle.std.specs.Prelude.{ℕ, List, ◌++◌, codes, decimal}
use Rattle.rt_text.specs.declared.tables.Axis.TheVariants.{X, Y}
use Rattle.rt_text.specs.declared.tables.TableFault.{TableFault}
use Rattle.rt_text.specs.declared.tables.TableFault.TheVariants as fault

-- a line on one record
abbrev pub record_line : (number : ℕ) → List ℕ → List ℕ
record_line number text = codes "rtfilter: table record " ++ decimal number ++ text

-- the text of a fault, and a line feed
abbrev pub fault_line : TableFault → List ℕ
fault_line (fault.TooMany number) = record_line number (codes ": too many entries\n")
fault_line (fault.FieldCount number found) =
    record_line number (codes ": wrong number of fields (" ++ decimal found ++ codes ")\n")
fault_line (fault.NotNumber number field) = record_line number (codes ": field " ++ decimal field ++ codes " is not a number\n")
fault_line (fault.OutOfRange number field) = record_line number (codes ": field " ++ decimal field ++ codes " is out of range\n")
fault_line (fault.MinAboveMax number X) = record_line number (codes ": minimum above maximum in x\n")
fault_line (fault.MinAboveMax number Y) = record_line number (codes ": minimum above maximum in y\n")
fault_line (fault.Repeated number) = record_line number (codes ": repeated id\n")
fault_line fault.Read = codes "rtfilter: cannot read table\n"
fault_line fault.Memory = codes "rtfilter: out of memory\n"
