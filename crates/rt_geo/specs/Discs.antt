-- A circle and the order by the distance from its centre, in one.
use Rattle.std.specs.Prelude.{◌≡◌}
use Rattle.rt_geo.specs.Laws.{Meaning, guided}
use Rattle.rt_geo.specs.Orders.{near, order_estimate, order_score}
use Rattle.rt_geo.specs.Regions.{disc_accepts, disc_state, region_accepts, region_state}
use Rattle.rt_geo.specs.declared.disc.Disc.{Disc}
use Rattle.rt_geo.specs.declared.order.Order.{Order}
use Rattle.rt_geo.specs.declared.region.Region.TheVariants as region
use Rattle.rt_geo.specs.declared.shapes.Circle.{Circle}

-- what a disc means: its boxes, in the order of the distance from its centre
abbrev pub disc_meaning : Disc → Meaning
disc_meaning disc =
    guided (disc_accepts disc) (disc_state disc) (order_score (near disc.centre)) (order_estimate (near disc.centre))

-- the disc means what the circle and the order do as a shape and a rank: it accepts the same boxes, gives each the same
-- score, and has the same verdict on every argument
abbrev pub MeansBoth : Disc → Circle → Order → Type 0
MeansBoth disc circle order =
    let shape = region.Circle circle in
    disc_meaning disc ≡ guided (region_accepts shape) (region_state shape) (order_score order) (order_estimate order)
