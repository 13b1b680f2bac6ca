-- Layers, and sets of them.
use Rattle.std.specs.Prelude.{◌≡◌, ◌<◌, ◌≤◌, ◌-◌, ◌^◌, ◌==◌, ℕ, Bool}
use Rattle.std.specs.Int.{bit_at}
use Rattle.std.specs.Int.RustNames.{bit_and, bit_or}
use Rattle.rt_geo.specs.declared.layers.Layers.{Layers}

-- layers are the numbers from 0 to this
abbrev pub most_layer : ℕ
most_layer = 63

-- the layer is in the set: its bit is set
abbrev pub has : Layers → (layer : ℕ) → Bool
has layers layer = bit_at layers.bits layer == 1

-- the set of one layer
abbrev pub only : (layer : ℕ) → Layers
only layer = record { bits = 2 ^ layer }

-- the set without a layer
abbrev pub no_layers : Layers
no_layers = record { bits = 0 }

-- the set of all layers
abbrev pub all_layers : Layers
all_layers = record { bits = 2 ^ 64 - 1 }

-- the layers that are in the one set or in the other
abbrev pub union : Layers → Layers → Layers
union a b = record { bits = bit_or a.bits b.bits }

-- no layer is in both sets
abbrev pub disjoint : Layers → Layers → Bool
disjoint a b = bit_and a.bits b.bits == 0

-- each layer of the one set is in the other
abbrev pub subset : (part whole : Layers) → Bool
subset part whole = bit_and part.bits whole.bits == part.bits

-- some layer is in the set, and all that are have bits of 64
pub record HasSome (layers : Layers) : Type 0 where
  pub some : 0 < layers.bits
  pub fits : layers.bits < 2 ^ 64

-- exactly one layer is in the set
pub record IsOneLayer (layers : Layers) : Type 0 where
  pub layer : ℕ
  pub few : layer ≤ most_layer
  pub is : layers ≡ only layer
