-- Numbers as text.
use Rattle.std.specs.Prelude.{ℕ, ℤ, int_le, ◌&&◌, Bool, not, if◌then◌else◌, List, Option, Some, None, Result, Ok, Err}
use Rattle.std.specs.Char.{is_ascii_digit}
use Rattle.std.specs.List.{list_all}
use Rattle.std.specs.Str.Parse.{digits_value, signed_digits_value, without_leading_sign}
use Rattle.rt_text.specs.Words.{is_empty}
use Rattle.rt_text.specs.declared.numbers.NumberFault.{NumberFault}
use Rattle.rt_text.specs.declared.numbers.NumberFault.TheVariants as fault

-- one or more ASCII digits, and nothing else
abbrev pub is_numeral : List ℕ → Bool
is_numeral text = not (is_empty text) && list_all is_ascii_digit text

-- the number that digits write
abbrev pub digits_number : List ℕ → Option ℕ
digits_number digits = if is_numeral digits then Some (digits_value 10 digits) else None

-- the number that a text writes: an optional `+` or `-`, then one or more ASCII digits, and nothing else
abbrev pub number_text : List ℕ → Option ℤ
number_text text = if is_numeral (without_leading_sign text) then Some (signed_digits_value 10 text) else None

-- a number within a range
abbrev pub in_range : (low high : ℤ) → Option ℤ → Result ℤ NumberFault
in_range low high None = Err fault.NotNumber
in_range low high (Some n) = if int_le low n && int_le n high then Ok n else Err fault.OutOfRange

-- the number that a text writes, within a range
abbrev pub number_in : (low high : ℤ) → List ℕ → Result ℤ NumberFault
number_in low high text = in_range low high (number_text text)

-- the fault of a number, in other words: `none` where there is none, `outside` where it is out of its range
abbrev pub fault_as : {F : Type 0} → (none outside : F) → NumberFault → F
fault_as none outside fault.NotNumber = none
fault_as none outside fault.OutOfRange = outside
