-- What the words of the command line ask for, by clap's own definition of a simple command.
use Rattle.std.specs.Option.{option_and_then, option_map_or}
use Rattle.std.specs.Prelude.{◌≡◌, ◌⊎◌, ℕ, pos, Bool, true, false, List, [], ◌∷◌, fold, codes, Option, Some, is_some}
use Rattle.std.specs.Prelude.{option_map, unsigned_abs}
use Rattle.std.specs.Str.{bytes_eq}
use Rattle.std.specs.Str.Parse.{signed_digits_value}
use Rattle.clap.specs.Words.{App, IsAmong, IsSignedIn, Kinds, Row, Rule, first_of, matches_of, new_app, new_rule, one_of, with_rule, without_minus}
use Rattle.clap.specs.declared.builder.ArgAction.TheVariants.{Set, SetTrue}
use Rattle.clap.specs.declared.builder.value_parser.ValueParser.TheVariants as vp
use Rattle.clap.specs.declared.error.kind.ErrorKind.{ErrorKind}
use Rattle.clap.specs.declared.error.kind.ErrorKind.TheVariants as kind
use Rattle.rt_tree.specs.Entries.{most_entries}
use Rattle.rt_command.specs.Choices.{Choices, greatest_fanout, least_fanout}
use Rattle.rt_command.specs.declared.invocation.ArgFault.{ArgFault}
use Rattle.rt_command.specs.declared.invocation.ArgFault.TheVariants as fault
use Rattle.rt_command.specs.declared.invocation.Invocation.{Invocation}

-- ---- the command, `rtfilter [-H|--header] [--fanout M] [--max-entries N] TABLE [QUERIES]`

-- `-H`, of which 72 is the letter, or `--header`
abbrev pub header_rule : Rule
header_rule = record (new_rule (codes "header")) { short = Some 72; long = Some (codes "header"); action = Some SetTrue }

-- an option that takes a whole number from `least` to `greatest`, and has `default` where it isn't given
abbrev pub number_rule : (name : List ℕ) → (least greatest : ℕ) → (default : List ℕ) → Rule
number_rule name least greatest default = record (new_rule name) {
  long = Some name;
  action = Some Set;
  parser = Some (vp.Signed (pos least) (pos greatest));
  defaults = default ∷ [];
}

-- a word that is no option
abbrev pub word_rule : (name : List ℕ) → (required : Bool) → Rule
word_rule name required = record (new_rule name) { action = Some Set; required = required }

-- the command, with its rules in turn; where the words don't say, a table may have as many entries as any may
unfoldable pub filter_app : App
filter_app = fold with_rule (new_app (codes "rtfilter")) (
    header_rule
    ∷ number_rule (codes "fanout") least_fanout greatest_fanout (codes "16")
    ∷ number_rule (codes "max-entries") 1 most_entries (codes "16777216")
    ∷ word_rule (codes "table") true
    ∷ word_rule (codes "queries") false
    ∷ [])

-- ---- the invocation

infixl 10 ◌>>=◌
-- the next step, from the value of the one before, where there is one
abbrev pub ◌>>=◌ : {A B : Type 0} → Option A → (A → Option B) → Option B
found >>= next = option_and_then next found

-- a flag that is given has the text `true`, as clap writes it
abbrev pub is_given : (id : List ℕ) → List Row → Bool
is_given id rows = option_map_or (λ text. bytes_eq text (codes "true")) (first_of id rows) false

-- the number that the text of an option writes, a sign and digits: clap has checked its range
abbrev pub option_number : (id : List ℕ) → List Row → Option ℕ
option_number id rows = option_map (λ text. unsigned_abs (signed_digits_value 10 text)) (first_of id rows)

-- the invocation that the matches give, where both numbers and the table are there
abbrev pub invocation_in : List Row → Option Invocation
invocation_in rows = do
  fanout ← option_number (codes "fanout") rows
  max_entries ← option_number (codes "max-entries") rows
  table ← first_of (codes "table") rows
  let settings : Choices = record { header = is_given (codes "header") rows; fanout = fanout; max_entries = max_entries }
  Some (record { settings = settings; table = table; queries = first_of (codes "queries") rows })

-- what the words ask for: the values that clap's own definition of a simple command's matches gives
abbrev pub invocation_of : List (List ℕ) → Option Invocation
invocation_of words = invocation_in (matches_of filter_app words)

-- ---- refusals

-- the fault for a kind of clap's errors
abbrev pub arg_fault_of : ErrorKind → ArgFault
arg_fault_of kind.DisplayHelp = fault.Help
arg_fault_of kind.OutOfMemory = fault.Memory
arg_fault_of other = fault.Usage

-- want of memory, or one of these kinds
abbrev pub IsFaultAmong : Kinds → ArgFault → Type 0
IsFaultAmong kinds f = (f ≡ fault.Memory) ⊎ ((k : ErrorKind) × IsAmong k kinds × (f ≡ arg_fault_of k))

-- ---- what clap has checked

-- the option has a text that writes a number of this range, and clap reads it as that
abbrev pub HasNumber : (id : List ℕ) → (low high : ℕ) → List Row → Type 0
HasNumber id low high rows =
    (text : List ℕ) × (first_of id rows ≡ Some text) × (one_of id rows ≡ Some (without_minus text))
    × IsSignedIn (pos low) (pos high) text

-- each required word and each one with a default is there, and the numbers are within their ranges
pub record AreFilled (rows : List Row) : Type 0 where
  pub fanout : HasNumber (codes "fanout") least_fanout greatest_fanout rows
  pub max_entries : HasNumber (codes "max-entries") 1 most_entries rows
  pub table : is_some (first_of (codes "table") rows) ≡ true
