-- The geometries that a query is searched by, as what they mean. No public contract cites it.
use Rattle.std.specs.Prelude.{ℕ, Bool, Option, Some, None}
use Rattle.rt_geo.specs.Laws.{Extent, Meaning, guided, unscored_meaning}
use Rattle.rt_geo.specs.Orders.{order_estimate, order_score}
use Rattle.rt_geo.specs.declared.geometry.Info.{Info}
use Rattle.rt_geo.specs.declared.geometry.Within.{Within}
use Rattle.rt_geo.specs.declared.order.Order.{Order}
use Rattle.rt_geo.specs.declared.order.Order.TheVariants.{Near}

-- that of a geometry whose nodes have scores: without a limit they are left out
abbrev pub scored_up_to : (limit : Option ℕ) → Meaning → Meaning
scored_up_to None meaning = unscored_meaning meaning
scored_up_to (Some limit) meaning = meaning

-- and where an order says whether they have
abbrev pub ordered_up_to : Order → (limit : Option ℕ) → Meaning → Meaning
ordered_up_to (Near rank) limit meaning = scored_up_to limit meaning
ordered_up_to other limit meaning = meaning

-- that of the boxes that a shape accepts, which answers these states, in an order
abbrev pub searched_in_shape : (accepts : Extent → Bool) → (state : Info → Within) → Order → (limit : Option ℕ) → Meaning
searched_in_shape accepts state order limit =
    ordered_up_to order limit (guided accepts state (order_score order) (order_estimate order))
