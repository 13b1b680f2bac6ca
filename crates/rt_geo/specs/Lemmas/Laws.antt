-- When an extent is part of another, and what follows for a caller that keeps a geometry's condition.
use Rattle.std.proofs.Common.{refl, Bool}
use Rattle.rt_geo.specs.Entries.{HasBox, HasLayer}
use Rattle.rt_geo.specs.Boxes.{IsRect}
use Rattle.rt_geo.specs.Layers.{IsOneLayer}
use Rattle.rt_geo.specs.Laws.{AllAccepted, Extent, IsBoxInside, IsPart, extent_of_entry}
use Rattle.rt_geo.specs.Lemmas.Boxes.{inside-same, inside-trans}
use Rattle.rt_geo.specs.Lemmas.Layers.{subset-same, subset-trans}
use Rattle.rt_geo.specs.declared.{entry.Entry.{Entry}}

-- ---- parts

-- an extent is part of itself
pub IsPart-same : (a : Extent) → IsPart a a
IsPart-same a = record { bounds = inside-same a.bounds; layers = subset-same a.layers }

-- a part of a part is part of the whole
pub IsPart-trans : (a b c : Extent) → IsPart a b → IsPart b c → IsPart a c
IsPart-trans a b c p q = record {
  bounds = inside-trans a.bounds b.bounds c.bounds p.bounds q.bounds;
  layers = subset-trans a.layers b.layers c.layers p.layers q.layers;
}

-- a box inside an extent is part of it
pub IsPart-box : (b extent : Extent) → IsBoxInside b extent → IsPart b extent
IsPart-box b extent h = record { bounds = h.inside; layers = h.among }

-- ---- boxes inside

-- one box that is part of an extent is inside it
IsBoxInside-from : (b extent : Extent) → IsRect b.bounds → IsOneLayer b.layers → IsPart b extent → IsBoxInside b extent
IsBoxInside-from b extent box one p = record { box = box; one = one; inside = p.bounds; among = p.layers }

-- the extent of an entry is one box, inside itself
pub IsBoxInside-entry : (entry : Entry) → HasBox entry → HasLayer entry
    → IsBoxInside (extent_of_entry entry) (extent_of_entry entry)
IsBoxInside-entry entry h few =
    let whole = extent_of_entry entry in
    IsBoxInside-from whole whole h.box (record { layer = entry.layer; few = few; is = refl }) (IsPart-same whole)

-- a box inside a part is inside the whole
pub IsBoxInside-part : (b part whole : Extent) → IsPart part whole → IsBoxInside b part → IsBoxInside b whole
IsBoxInside-part b part whole p h =
    IsBoxInside-from b whole h.box h.one (IsPart-trans b part whole (IsPart-box b part h) p)

-- where each box inside the whole is accepted, so is each box inside a part: a child of a FULLY node
pub AllAccepted-part : (accepts : Extent → Bool) (part whole : Extent)
    → IsPart part whole → AllAccepted accepts whole → AllAccepted accepts part
AllAccepted-part accepts part whole p all b h = all b (IsBoxInside-part b part whole p h)
