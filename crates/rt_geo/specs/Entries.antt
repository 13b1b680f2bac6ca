-- Entries: boxes with their ids and layers.
use Rattle.std.specs.Prelude.{◌≡◌, ◌≤◌, true}
use Rattle.rt_geo.specs.Boxes.{IsRect, inside, plane}
use Rattle.rt_geo.specs.Layers.{most_layer}
use Rattle.rt_geo.specs.declared.entry.Entry.{Entry}

-- the entry's bounds are a box of the plane, as each `Bounds` is
pub record HasBox (entry : Entry) : Type 0 where
  pub box : IsRect entry.bounds
  pub coordinates : inside entry.bounds plane ≡ true

-- the entry's layer is one that there is
abbrev pub HasLayer : Entry → Type 0
HasLayer entry = entry.layer ≤ most_layer
