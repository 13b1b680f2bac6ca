-- Entries whose layers stand in a list of their own.
use Rattle.std.proofs.Common.{◌≡◌, ℕ, zero, suc, List, [], ◌∷◌, length, map, get_or, slice_get, IfSome, refl}
use Rattle.rt_geo.specs.{Laws.{extent_of_entry}, Layers.{only}, declared.{entry.Entry.{Entry}, layers.Layers.{Layers}}}
use Rattle.rt_tree.specs.{Leaves.{entries_of, with_layer, without_layer}, declared.entries.LeafEntry.{LeafEntry}}
use Rattle.rt_tree.proofs.PairLemmas.{left-alone, length-paired, right-alone}

-- the layer of an entry
abbrev pub layer_of : Entry → ℕ
layer_of entry = entry.layer

-- what two lists of entries make has them both
pub entries-alone : (entries : List LeafEntry) (layers : List ℕ) → length entries ≡ length layers
    → map without_layer (entries_of entries layers) ≡ entries
entries-alone = left-alone with_layer without_layer layer_of (λ _ _. refl) (λ _ _. refl)

pub layers-alone : (entries : List LeafEntry) (layers : List ℕ) → length entries ≡ length layers
    → map layer_of (entries_of entries layers) ≡ layers
layers-alone = right-alone with_layer without_layer layer_of (λ _ _. refl) (λ _ _. refl)

pub length-entries_of : (entries : List LeafEntry) (layers : List ℕ) → length entries ≡ length layers
    → length (entries_of entries layers) ≡ length entries
length-entries_of = length-paired with_layer without_layer layer_of (λ _ _. refl) (λ _ _. refl)

-- the layer of an entry that is there
pub layers_of_entry : (entries : List Entry) (place : ℕ) (layers : Layers)
    → layers ≡ only (get_or (map layer_of entries) place 0)
    → IfSome (slice_get entries place) (λ entry. layers ≡ (extent_of_entry entry).layers)
layers_of_entry [] place layers is = tt
layers_of_entry (entry ∷ entries) zero layers is = is
layers_of_entry (entry ∷ entries) (suc place) layers is = layers_of_entry entries place layers is
