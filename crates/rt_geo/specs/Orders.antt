-- The scores that an order gives, and the estimates that it answers.
use Rattle.std.specs.Prelude.{ℕ, ◌==◌, if◌then◌else◌}
use Rattle.rt_geo.specs.Boxes.{area}
use Rattle.rt_geo.specs.Distances.{near2}
use Rattle.rt_geo.specs.Laws.{Extent}
use Rattle.rt_geo.specs.declared.distance.Point.{Point}
use Rattle.rt_geo.specs.declared.geometry.Info.{Info}
use Rattle.rt_geo.specs.declared.order.Order.{Order}
use Rattle.rt_geo.specs.declared.order.Order.TheVariants.{ById, Near, Smallest}

-- the order of the ids
abbrev pub by_id : Order
by_id = ById (record {})

-- the order by the distance from a point, the nearest first
abbrev pub near : Point → Order
near point = Near (record { 0 = point })

-- the score that an order gives a box: 0, so that answers come by id; the square of the distance to its nearest point;
-- its area
abbrev pub order_score : Order → Extent → ℕ
order_score (ById rank) = λ b. 0
order_score (Near rank) = λ b. near2 rank.0 b.bounds
order_score (Smallest rank) = λ b. area b.bounds

-- what it answers. The area of a node says nothing of the boxes inside
abbrev pub order_estimate : Order → Info → ℕ
order_estimate (ById rank) = λ i. 0
order_estimate (Near rank) = λ i. near2 rank.0 i.bounds
order_estimate (Smallest rank) = λ i. if i.level == 0 then area i.bounds else 0
