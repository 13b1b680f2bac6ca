-- The table that a text of CSV gives, or what is wrong with it.
use Rattle.std.specs.List.{slice_index_or}
use Rattle.std.specs.Prelude.{◌≡◌, ◌==◌, ⊤, ℕ, ◌+◌, ◌-◌, ◌^◌, ℤ, pos, ◌-ℤ◌, int_lt, nat_le, unsigned_abs, Bool, not, ◌||◌, if◌then◌else◌, List, [], ◌∷◌, ◌++◌, length, drop, Result, Ok, Err}
use Rattle.csv.specs.Reading.{default_config, records, strip_bom}
use Rattle.rt_geo.specs.Boxes.{greatest_coordinate, least_coordinate, rect_of}
use Rattle.rt_geo.specs.Layers.{most_layer}
use Rattle.rt_geo.specs.declared.entry.Entry.{Entry}
use Rattle.rt_tree.specs.Entries.{has_id}
use Rattle.rt_text.specs.Numbers.{fault_as, number_in}
use Rattle.rt_text.specs.Steps.{◌>>=◌, map_fault, map_value}
use Rattle.rt_text.specs.declared.tables.Axis.TheVariants as axis
use Rattle.rt_text.specs.declared.tables.TableFault.{TableFault}
use Rattle.rt_text.specs.declared.tables.TableFault.TheVariants as fault

-- the records of a text, each the list of its fields, by the usual rules of csv (RFC 4180, and csv-core where that is
-- silent); a byte order mark before the first is dropped
abbrev pub records_of : List ℕ → List (List (List ℕ))
records_of bytes = records default_config (strip_bom bytes)

-- the number in a field of a record, within a range; records and fields count from 1
abbrev pub number_at : (number field : ℕ) → (low high : ℤ) → (fields : List (List ℕ)) → Result ℤ TableFault
number_at number field low high fields =
    map_fault (fault_as (fault.NotNumber number field) (fault.OutOfRange number field))
    (number_in low high (slice_index_or fields (field - 1) []))

-- a coordinate, of 32 bits
abbrev pub coordinate_at : (number field : ℕ) → (fields : List (List ℕ)) → Result ℤ TableFault
coordinate_at number field fields = number_at number field least_coordinate greatest_coordinate fields

-- the layer, a number from 0 to 63, which is 0 where there is no sixth field
abbrev pub layer_in : (number : ℕ) → (fields : List (List ℕ)) → Result ℕ TableFault
layer_in number fields =
    if length fields == 5 then Ok 0
    else map_value unsigned_abs (number_at number 6 (pos 0) (pos most_layer) fields)

-- the entry of a record, which has five fields, or six with a layer, judged from left to right: an id of 64 bits, the
-- four sides of its box and its layer; then the sides are compared
abbrev pub entry_of_fields : (number : ℕ) → (fields : List (List ℕ)) → Result Entry TableFault
entry_of_fields number fields =
    if not (length fields == 5 || length fields == 6) then Err (fault.FieldCount number (length fields)) else do
      id ← number_at number 1 (pos 0 -ℤ pos (2 ^ 63)) (pos (2 ^ 63 - 1)) fields
      min_x ← coordinate_at number 2 fields
      max_x ← coordinate_at number 3 fields
      min_y ← coordinate_at number 4 fields
      max_y ← coordinate_at number 5 fields
      layer ← layer_in number fields
      if int_lt max_x min_x then Err (fault.MinAboveMax number axis.X)
          else if int_lt max_y min_y then Err (fault.MinAboveMax number axis.Y)
          else Ok (record { id = id; bounds = rect_of min_x max_x min_y max_y; layer = layer })

-- one record, judged after the entries so far: they are fewer than the maximum, it has an entry, and the id is new
abbrev pub judged : (max number : ℕ) → List Entry → (fields : List (List ℕ)) → Result Entry TableFault
judged max number so_far fields = if nat_le max (length so_far) then Err (fault.TooMany number) else do
  entry ← entry_of_fields number fields
  if has_id so_far entry.id then Err (fault.Repeated number) else Ok entry

-- the entries of the records from a number on, after the entries so far
unfoldable pub entries_from : (max number : ℕ) → List Entry → List (List (List ℕ)) → Result (List Entry) TableFault
entries_from max number so_far [] = Ok so_far
entries_from max number so_far (fields ∷ more) = do
  entry ← judged max number so_far fields
  entries_from max (number + 1) (so_far ++ entry ∷ []) more

-- the table that a text gives, in the order of its records, or the first fault; a header is the first record, counted and
-- not judged
abbrev pub table_of : List ℕ → (header : Bool) → (max : ℕ) → Result (List Entry) TableFault
table_of bytes header max =
    if header then entries_from max 2 [] (drop 1 (records_of bytes)) else entries_from max 1 [] (records_of bytes)

-- a fault that a load may answer where this is the table: a failed read and want of memory may come at any time, and any
-- other fault is the table's own
abbrev pub IsFaultOf : {A : Type 0} → TableFault → Result A TableFault → Type 0
IsFaultOf fault.Read table = ⊤
IsFaultOf fault.Memory table = ⊤
IsFaultOf own table = table ≡ Err own
