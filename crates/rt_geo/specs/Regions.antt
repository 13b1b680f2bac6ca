-- Which boxes a region accepts, and the states that it answers.
use Rattle.std.specs.Prelude.{Bool, true, false, not, ◌==◌, nat_le, nat_lt, if◌then◌else◌}
use Rattle.rt_geo.specs.Boxes.{inside, overlaps}
use Rattle.rt_geo.specs.Distances.{far2, near2, square}
use Rattle.rt_geo.specs.Laws.{Extent}
use Rattle.rt_geo.specs.Polygons.{polygon_holds, polygon_meets}
use Rattle.rt_geo.specs.declared.disc.Disc.{Disc}
use Rattle.rt_geo.specs.declared.geometry.Info.{Info}
use Rattle.rt_geo.specs.declared.geometry.Within.{Within}
use Rattle.rt_geo.specs.declared.geometry.Within.TheVariants.{Not, Partly, Fully}
use Rattle.rt_geo.specs.declared.region.Region.{Region}
use Rattle.rt_geo.specs.declared.region.Region.TheVariants.{All, Window, Inside, Covers, Circle, Polygon}
use Rattle.rt_geo.specs.declared.shapes.Circle as shape

-- the disc of a circle
abbrev pub disc_of : shape.Circle → Disc
disc_of circle = record { centre = circle.centre; radius2 = square circle.radius }

-- the boxes that share a point with a disc, its edge included
abbrev pub disc_accepts : Disc → Extent → Bool
disc_accepts disc b = nat_le (near2 disc.centre b.bounds) disc.radius2

-- the boxes that a region accepts: every box; those that overlap the window, that lie in it, in which it lies; those that
-- share a point with the disc; those that meet the polygon
abbrev pub region_accepts : Region → Extent → Bool
region_accepts (All shape) = λ b. true
region_accepts (Window window) = λ b. overlaps b.bounds window.0
region_accepts (Inside window) = λ b. inside b.bounds window.0
region_accepts (Covers window) = λ b. inside window.0 b.bounds
region_accepts (Circle circle) = disc_accepts (disc_of circle)
region_accepts (Polygon vertices) = λ b. polygon_meets vertices b.bounds

-- NOT where the first test holds, otherwise FULLY where the second does, otherwise PARTLY
abbrev pub state_by : (is_not is_full : Bool) → Within
state_by is_not is_full = if is_not then Not else (if is_full then Fully else Partly)

-- a disc: NOT where the nearest point of the bounds lies outside of it, FULLY where the farthest doesn't
abbrev pub disc_state : Disc → Info → Within
disc_state disc i =
    state_by (nat_lt disc.radius2 (near2 disc.centre i.bounds)) (nat_le (far2 disc.centre i.bounds) disc.radius2)

-- the state that a region answers. A node that only overlaps the window may hold boxes that lie in it. What lies in a
-- node that covers the window may be small, so that it's never FULLY
abbrev pub region_state : Region → Info → Within
region_state (All shape) = λ i. Fully
region_state (Window window) = λ i. state_by (not (overlaps i.bounds window.0)) (inside i.bounds window.0)
region_state (Inside window) =
    λ i. if i.level == 0 then state_by (not (inside i.bounds window.0)) true
    else state_by (not (overlaps i.bounds window.0)) (inside i.bounds window.0)
region_state (Covers window) = λ i. state_by (not (inside window.0 i.bounds)) false
region_state (Circle circle) = disc_state (disc_of circle)
region_state (Polygon vertices) = λ i. state_by (not (polygon_meets vertices i.bounds)) (polygon_holds vertices i.bounds)
