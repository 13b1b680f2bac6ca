-- Why entries make no table.
use Rattle.std.specs.Prelude.{◌≡◌, ⊤, List, Some}
use Rattle.rt_geo.specs.declared.entry.Entry.{Entry}
use Rattle.rt_tree.specs.Entries.{first_repeat}
use Rattle.rt_tree.specs.declared.table.EntriesFault.{EntriesFault}
use Rattle.rt_tree.specs.declared.table.EntriesFault.TheVariants as fault

-- a fault explains why entries make no table: the first repeated id with its index, or out of memory, which may come at any
-- time
abbrev pub ExplainsNoTable : EntriesFault → List Entry → Type 0
ExplainsNoTable (fault.Repeated place) entries = first_repeat entries ≡ Some place
ExplainsNoTable fault.Memory entries = ⊤
