-- The table that boxes in plain numbers give, or what is wrong with it.
use Rattle.std.specs.Prelude.{◌≡◌, ◌⊎◌, ⊤, ℕ, zero, suc, ◌+◌, int_lt, nat_lt, if◌then◌else◌, List, [], ◌∷◌, ◌++◌, Option, Some, None, Result, Ok, Err}
use Rattle.rt_geo.specs.Boxes.{rect_of}
use Rattle.rt_geo.specs.Layers.{most_layer}
use Rattle.rt_geo.specs.declared.entry.Entry.{Entry}
use Rattle.rt_tree.specs.Entries.{first_repeat}
use Rattle.rt_tree.specs.Packed.{Packed}
use Rattle.rt_command.specs.Choices.{Choices}
use Rattle.rt_filter.specs.Replies.{tree_of}
use Rattle.rt_text.specs.Steps.{◌>>=◌}
use Rattle.rt_text.specs.declared.run_faults.RunFault.{RunFault}
use Rattle.rt_text.specs.declared.run_faults.RunFault.TheVariants.{Memory, Table}
use Rattle.rt_text.specs.declared.tables.Axis.TheVariants as axis
use Rattle.rt_text.specs.declared.tables.TableFault.{TableFault}
use Rattle.rt_text.specs.declared.tables.TableFault.TheVariants as fault
use Rattle.rt_embed.specs.declared.boxes.PlainBox.{PlainBox}

-- a number of boxes, each at an index
pub record Given : Type 0 where
  pub len : ℕ
  pub box_at : (place : ℕ) → PlainBox

-- the entry that a box in record `number` is, unless its layer or a side is wrong
abbrev pub entry_of : (number : ℕ) → PlainBox → Result Entry TableFault
entry_of number box =
    if nat_lt most_layer box.layer then Err (fault.OutOfRange number 6)
    else if int_lt box.max_x box.min_x then Err (fault.MinAboveMax number axis.X)
    else if int_lt box.max_y box.min_y then Err (fault.MinAboveMax number axis.Y)
    else Ok (record { id = box.id; bounds = rect_of box.min_x box.max_x box.min_y box.max_y; layer = box.layer })

-- the entries of the first boxes, up to a number of them: the box at an index, from 0, is record `index + 1`
abbrev pub entries_upto : Given → ℕ → Result (List Entry) TableFault
entries_upto given zero = Ok []
entries_upto given (suc place) = do
  before ← entries_upto given place
  entry ← entry_of (place + 1) (given.box_at place)
  Ok (before ++ entry ∷ [])

-- entries are those of a table if no id comes again
abbrev pub without_repeat : List Entry → Option ℕ → Result (List Entry) TableFault
without_repeat entries None = Ok entries
without_repeat entries (Some place) = Err (fault.Repeated (place + 1))

-- the table: first no more entries than the maximum and each of them valid, then no repeated id. The first of these that
-- fails is the fault
abbrev pub table_of : (max : ℕ) → Given → Result (List Entry) TableFault
table_of max given = if nat_lt max given.len then Err (fault.TooMany (max + 1)) else do
  entries ← entries_upto given given.len
  without_repeat entries (first_repeat entries)

-- a fault that may be returned where this is the table: its own, or that no memory was left
abbrev pub IsRefusalOf : TableFault → Result (List Entry) TableFault → Type 0
IsRefusalOf cause table = (cause ≡ fault.Memory) ⊎ (table ≡ Err cause)

-- the tree of the table that boxes give under settings
pub record HasBoxes (choices : Choices) (given : Given) (tree : Packed) : Type 0 where
  pub entries : List Entry
  pub same : table_of choices.max_entries given ≡ Ok entries
  pub packed : tree ≡ tree_of (record { entries = entries; fanout = choices.fanout })

-- why there is no tree: the fault that the boxes have, or that no memory was left
abbrev pub StopsAtBoxes : Choices → Given → RunFault → Type 0
StopsAtBoxes choices given (Table cause) = table_of choices.max_entries given ≡ Err cause
StopsAtBoxes choices given Memory = ⊤
StopsAtBoxes choices given other = ⊥
