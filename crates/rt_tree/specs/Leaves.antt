-- Entries with their layers in a list of their own.
use Rattle.std.specs.List.{zip}
use Rattle.std.specs.Prelude.{ℕ, List, map}
use Rattle.rt_geo.specs.declared.entry.Entry.{Entry}
use Rattle.rt_tree.specs.declared.entries.LeafEntry.{LeafEntry}

-- an entry without its layer
abbrev pub without_layer : Entry → LeafEntry
without_layer entry = record { id = entry.id; bounds = entry.bounds }

-- an entry with its layer
abbrev pub with_layer : LeafEntry → (layer : ℕ) → Entry
with_layer entry layer = record { id = entry.id; bounds = entry.bounds; layer = layer }

-- entries with their layers
abbrev pub entries_of : List LeafEntry → (layers : List ℕ) → List Entry
entries_of leaves layers = map (λ p. with_layer p.0 p.1) (zip leaves layers)
