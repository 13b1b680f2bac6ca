-- Worked rows: on each of these the definitions compute the reply.
use Rattle.std.proofs.Common.{◌≡◌, pos, negsuc, false, true, List, [], ◌∷◌, ◌++◌, ℕ, refl}
use Rattle.std.specs.Prelude.{Result, Ok, Err, codes}
use Rattle.std.specs.Fmt.{digits}
use Rattle.csv.proofs.OnLiterals.{csv_on_literals}
use Rattle.rt_geo.specs.Boxes.{rect_of}
use Rattle.rt_geo.specs.declared.entry.Entry.{Entry}
use Rattle.rt_text.specs.FaultLines.{fault_line}
use Rattle.rt_text.specs.Numbers.{number_in}
use Rattle.rt_text.specs.Tables.{entries_from, table_of}
use Rattle.rt_text.specs.declared.numbers.NumberFault.TheVariants as bad
use Rattle.rt_text.specs.declared.tables.Axis.TheVariants as axis
use Rattle.rt_text.specs.declared.tables.TableFault.{TableFault}
use Rattle.rt_text.specs.declared.tables.TableFault.TheVariants as fault

-- ---- numbers

row_zeros : number_in (pos 0) (pos 10) (codes "+007") ≡ Ok (pos 7)
row_zeros = refl

row_minus_zero : number_in (pos 0) (pos 10) (codes "-0") ≡ Ok (pos 0)
row_minus_zero = refl

row_minus : number_in (negsuc 9) (pos 10) (codes "-10") ≡ Ok (negsuc 9)
row_minus = refl

row_empty : number_in (pos 0) (pos 10) [] ≡ Err bad.NotNumber
row_empty = refl

row_sign_alone : number_in (pos 0) (pos 10) (codes "-") ≡ Err bad.NotNumber
row_sign_alone = refl

row_two_signs : number_in (pos 0) (pos 10) (codes "+-1") ≡ Err bad.NotNumber
row_two_signs = refl

row_space : number_in (pos 0) (pos 10) (codes "1 ") ≡ Err bad.NotNumber
row_space = refl

row_hexadecimal : number_in (pos 0) (pos 10) (codes "0x1") ≡ Err bad.NotNumber
row_hexadecimal = refl

row_above : number_in (pos 0) (pos 10) (codes "11") ≡ Err bad.OutOfRange
row_above = refl

row_below : number_in (pos 0) (pos 10) (codes "-1") ≡ Err bad.OutOfRange
row_below = refl

row_nines : number_in (pos 0) (pos 10) (codes "999999999999999999999999999999999999999999999999999999999999") ≡ Err bad.OutOfRange
row_nines = refl

-- ---- tables, in each of which a line ends with LF

abbrev pub line : List ℕ → List ℕ
line text = text ++ 10 ∷ []

-- a table with no header, and as many entries as any limit allows
abbrev pub load : List ℕ → Result (List Entry) TableFault
load bytes = table_of bytes false 16777216

-- the five boxes of the examples
abbrev pub boxes : List ℕ
boxes =
    line (codes "1,0,10,0,10") ++ line (codes "2,5,15,5,15") ++ line (codes "3,20,30,0,10")
    ++ line (codes "4,-5,-1,-5,-1") ++ line (codes "5,12,12,12,12")

abbrev pub boxes_entries : List Entry
boxes_entries =
    record { id = pos 1; bounds = rect_of (pos 0) (pos 10) (pos 0) (pos 10); layer = 0 }
    ∷ record { id = pos 2; bounds = rect_of (pos 5) (pos 15) (pos 5) (pos 15); layer = 0 }
    ∷ record { id = pos 3; bounds = rect_of (pos 20) (pos 30) (pos 0) (pos 10); layer = 0 }
    ∷ record { id = pos 4; bounds = rect_of (negsuc 4) (negsuc 0) (negsuc 4) (negsuc 0); layer = 0 }
    ∷ record { id = pos 5; bounds = rect_of (pos 12) (pos 12) (pos 12) (pos 12); layer = 0 }
    ∷ []

pub boxes_load : load boxes ≡ Ok boxes_entries
unfolding csv_on_literals entries_from
boxes_load = refl

row_repeated_last : load (boxes ++ line (codes "1,0,0,0,0")) ≡ Err (fault.Repeated 6)
unfolding csv_on_literals entries_from
row_repeated_last = refl

row_nothing : load [] ≡ Ok []
unfolding csv_on_literals entries_from
row_nothing = refl

row_one_box : load (line (codes "1,0,10,-3,+4")) ≡ Ok (record { id = pos 1; bounds = rect_of (pos 0) (pos 10) (negsuc 2) (pos 4); layer = 0 } ∷ [])
unfolding csv_on_literals entries_from
row_one_box = refl

row_min_above_max : load (line (codes "1,5,4,0,0")) ≡ Err (fault.MinAboveMax 1 axis.X)
unfolding csv_on_literals entries_from
row_min_above_max = refl

row_field_count : load (line (codes "1,0,1,0")) ≡ Err (fault.FieldCount 1 4)
unfolding csv_on_literals entries_from
row_field_count = refl

row_out_of_range : load (line (codes "1,0,2147483648,0,0")) ≡ Err (fault.OutOfRange 1 3)
unfolding csv_on_literals entries_from
row_out_of_range = refl

row_not_number : load (line (codes "1,a,0,0,0")) ≡ Err (fault.NotNumber 1 2)
unfolding csv_on_literals entries_from
row_not_number = refl

row_repeated : load (line (codes "7,0,1,0,1") ++ line (codes "+7,9,9,9,9")) ≡ Err (fault.Repeated 2)
unfolding csv_on_literals entries_from
row_repeated = refl

row_too_many : table_of (line (codes "1,0,0,0,0") ++ line (codes "1,2")) false 1 ≡ Err (fault.TooMany 2)
unfolding csv_on_literals entries_from
row_too_many = refl

row_header : table_of (line (codes "id") ++ line (codes "1,2")) true 1 ≡ Err (fault.FieldCount 2 2)
unfolding csv_on_literals entries_from
row_header = refl

row_quoted : table_of (line (codes "id,minX,maxX,minY,maxY") ++ 34 ∷ 49 ∷ 34 ∷ line (codes ",0,10,0,10")) true 1 ≡ Ok (record { id = pos 1; bounds = rect_of (pos 0) (pos 10) (pos 0) (pos 10); layer = 0 } ∷ [])
unfolding csv_on_literals entries_from
row_quoted = refl

-- ---- layers, over a table whose second record has none

abbrev pub layered : List ℕ
layered = line (codes "1,0,10,0,10,3") ++ line (codes "2,5,15,5,15")

abbrev pub layered_entries : List Entry
layered_entries =
    record { id = pos 1; bounds = rect_of (pos 0) (pos 10) (pos 0) (pos 10); layer = 3 }
    ∷ record { id = pos 2; bounds = rect_of (pos 5) (pos 15) (pos 5) (pos 15); layer = 0 }
    ∷ []

pub layered_load : load layered ≡ Ok layered_entries
unfolding csv_on_literals entries_from
layered_load = refl

row_layer_zero : load (line (codes "1,0,10,0,10,+03") ++ line (codes "2,5,15,5,15,-0")) ≡ Ok layered_entries
unfolding csv_on_literals entries_from
row_layer_zero = refl

row_layer_above : load (layered ++ line (codes "3,0,0,0,0,64")) ≡ Err (fault.OutOfRange 3 6)
unfolding csv_on_literals entries_from
row_layer_above = refl

row_layer_below : load (line (codes "1,0,0,0,0,-1")) ≡ Err (fault.OutOfRange 1 6)
unfolding csv_on_literals entries_from
row_layer_below = refl

row_layer_not_number : load (line (codes "1,0,0,0,0,x")) ≡ Err (fault.NotNumber 1 6)
unfolding csv_on_literals entries_from
row_layer_not_number = refl

row_layer_empty : load (line (codes "1,0,1,0,1,")) ≡ Err (fault.NotNumber 1 6)
unfolding csv_on_literals entries_from
row_layer_empty = refl

-- the layer is judged after the sides are numbers, and before they are compared
row_layer_after_sides : load (line (codes "1,0,0,0,x,x")) ≡ Err (fault.NotNumber 1 5)
unfolding csv_on_literals entries_from
row_layer_after_sides = refl

row_layer_before_minimum : load (line (codes "1,5,4,0,0,64")) ≡ Err (fault.OutOfRange 1 6)
unfolding csv_on_literals entries_from
row_layer_before_minimum = refl

row_seven_fields : load (line (codes "1,0,0,0,0,0,0")) ≡ Err (fault.FieldCount 1 7)
unfolding csv_on_literals entries_from
row_seven_fields = refl

-- ---- the line of a fault

row_fault_line : fault_line (fault.FieldCount 7 4) ≡ line (codes "rtfilter: table record 7: wrong number of fields (4)")
unfolding digits
row_fault_line = refl

row_axis : fault_line (fault.MinAboveMax 12 axis.Y) ≡ line (codes "rtfilter: table record 12: minimum above maximum in y")
unfolding digits
row_axis = refl
