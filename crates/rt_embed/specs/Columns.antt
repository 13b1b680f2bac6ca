-- Boxes in arrays: one array for each member, one of whole boxes, or one of rows of sides.
use Rattle.std.specs.Prelude.{◌≡◌, ◌⊎◌, ℕ, ℤ, pos, List, length}
use Rattle.std.specs.List.{slice_index_or}
use Rattle.rt_embed.specs.GivenBoxes.{Given}
use Rattle.rt_embed.specs.declared.boxes.PlainBox.{PlainBox}
use Rattle.rt_embed.specs.declared.columns.Columns.{Columns}
use Rattle.rt_embed.specs.declared.rows.Row.{Row}
use Rattle.rt_embed.specs.declared.rows.Rows.{Rows}

-- the items of the columns
pub record Lists : Type 0 where
  pub ids : List ℤ
  pub min_x : List ℤ
  pub max_x : List ℤ
  pub min_y : List ℤ
  pub max_y : List ℤ
  pub layers : List ℕ

abbrev pub lists_of : Columns → Lists
lists_of columns = record {
  ids = columns.ids.now;
  min_x = columns.min_x.now;
  max_x = columns.max_x.now;
  min_y = columns.min_y.now;
  max_y = columns.max_y.now;
  layers = columns.layers.now;
}

-- columns are equally long, but for layers, of which there may be none
pub record AreColumns (columns : Lists) : Type 0 where
  pub min_x : length columns.min_x ≡ length columns.ids
  pub max_x : length columns.max_x ≡ length columns.ids
  pub min_y : length columns.min_y ≡ length columns.ids
  pub max_y : length columns.max_y ≡ length columns.ids
  pub layers : (length columns.layers ≡ 0) ⊎ (length columns.layers ≡ length columns.ids)

-- the boxes of columns; without layers they are on layer 0
abbrev pub in_columns : Lists → Given
in_columns columns = record {
  len = length columns.ids;
  box_at = λ place. record {
    id = slice_index_or columns.ids place (pos 0);
    min_x = slice_index_or columns.min_x place (pos 0);
    max_x = slice_index_or columns.max_x place (pos 0);
    min_y = slice_index_or columns.min_y place (pos 0);
    max_y = slice_index_or columns.max_y place (pos 0);
    layer = slice_index_or columns.layers place 0;
  };
}

-- a placeholder for the box at an index that a list doesn't have
abbrev pub no_box : PlainBox
no_box = record { id = pos 0; min_x = pos 0; max_x = pos 0; min_y = pos 0; max_y = pos 0; layer = 0 }

-- the boxes of a list
abbrev pub in_list : List PlainBox → Given
in_list boxes = record { len = length boxes; box_at = λ place. slice_index_or boxes place no_box }

-- the items of rows
pub record Parts : Type 0 where
  pub rows : List Row
  pub ids : List ℤ
  pub layers : List ℕ

abbrev pub parts_of : Rows → Parts
parts_of rows = record { rows = rows.rows.now; ids = rows.ids.now; layers = rows.layers.now }

-- there are as many ids and layers as rows, or none
pub record AreRows (parts : Parts) : Type 0 where
  pub ids : (length parts.ids ≡ 0) ⊎ (length parts.ids ≡ length parts.rows)
  pub layers : (length parts.layers ≡ 0) ⊎ (length parts.layers ≡ length parts.rows)

-- a placeholder for the row at an index that a list doesn't have
abbrev pub no_row : Row
no_row = record { min_x = pos 0; min_y = pos 0; max_x = pos 0; max_y = pos 0 }

-- the boxes of rows: without ids a box has its place as its id, and without layers it is on layer 0
abbrev pub in_rows : Parts → Given
in_rows parts = record {
  len = length parts.rows;
  box_at = λ place. let row = slice_index_or parts.rows place no_row in record {
    id = slice_index_or parts.ids place (pos place);
    min_x = row.min_x;
    max_x = row.max_x;
    min_y = row.min_y;
    max_y = row.max_y;
    layer = slice_index_or parts.layers place 0;
  };
}
