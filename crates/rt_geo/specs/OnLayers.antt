-- Which boxes a shape accepts on some layers, and the table of the states that it answers.
use Rattle.std.specs.Prelude.{Bool, not, ◌&&◌, if◌then◌else◌}
use Rattle.rt_geo.specs.Layers.{disjoint, subset}
use Rattle.rt_geo.specs.Laws.{Extent}
use Rattle.rt_geo.specs.declared.geometry.Info.{Info}
use Rattle.rt_geo.specs.declared.geometry.Within.{Within}
use Rattle.rt_geo.specs.declared.geometry.Within.TheVariants.{Not, Partly, Fully}
use Rattle.rt_geo.specs.declared.layers.Layers.{Layers}

-- the boxes that the shape accepts and of which a layer is selected: a box has one
abbrev pub on_layers_accepts : (Extent → Bool) → (selected : Layers) → Extent → Bool
on_layers_accepts accepts selected b = accepts b && not (disjoint b.layers selected)

-- PARTLY instead of FULLY
abbrev pub at_most_partly : Within → Within
at_most_partly Fully = Partly
at_most_partly Partly = Partly
at_most_partly Not = Not

-- NOT where the shape answers it, or where none of the layers is selected; otherwise FULLY where the shape answers it
-- and each of the layers is selected; otherwise PARTLY
abbrev pub on_layers_state : (Info → Within) → (selected : Layers) → Info → Within
on_layers_state state selected i =
    if disjoint i.layers selected then Not
    else (if subset i.layers selected then state i else at_most_partly (state i))
