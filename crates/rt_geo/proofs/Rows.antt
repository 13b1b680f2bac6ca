-- Answers that were worked out by hand: the definitions give them by computing.
use Rattle.std.proofs.Common.{◌≡◌, refl, ℕ, zero, suc, ℤ, pos, negsuc, true, false}
use Rattle.rt_geo.specs.Boxes.{Rect, area, greatest_coordinate, hull, inside, least_coordinate, overlaps, rect_of}
use Rattle.rt_geo.specs.Distances.{far2, near2}
use Rattle.rt_geo.specs.Layers.{only}
use Rattle.rt_geo.specs.Orders.{near, order_estimate}
use Rattle.rt_geo.specs.Regions.{region_state}
use Rattle.rt_geo.specs.declared.distance.Point.{Point}
use Rattle.rt_geo.specs.declared.geometry.Info.{Info}
use Rattle.rt_geo.specs.declared.geometry.Within.TheVariants.{Not, Partly, Fully}
use Rattle.rt_geo.specs.declared.order.Order.{Order}
use Rattle.rt_geo.specs.declared.order.Order.TheVariants.{Smallest}
use Rattle.rt_geo.specs.declared.region.Region.{Region}
use Rattle.rt_geo.specs.declared.region.Region.TheVariants.{Circle, Covers, Inside}

-- negative numbers by their absolute value
abbrev pub minus : ℕ → ℤ
minus zero = pos 0
minus (suc n) = negsuc n

-- the box with one range on both axes
abbrev pub square_box : (low high : ℤ) → Rect
square_box low high = rect_of low high low high

abbrev pub point_at : (x y : ℤ) → Point
point_at x y = record { x = x; y = y }

-- a node or an entry whose parent was PARTLY
abbrev pub info_of : Rect → ℕ → Info
info_of bounds level =
    let layers = only 0 in
    record { bounds = bounds; layers = layers; level = level; top = 3; parent_within = Partly; parent_score = 0 }

abbrev unit : Rect
unit = square_box (pos 0) (pos 10)

abbrev lowest_corner : Point
lowest_corner = point_at least_coordinate least_coordinate

-- ---- boxes

-- boxes that touch in a corner overlap
overlaps-touching : overlaps unit (square_box (pos 10) (pos 20)) ≡ true
overlaps-touching = refl

-- one step apart they don't
overlaps-apart : overlaps unit (square_box (pos 11) (pos 20)) ≡ false
overlaps-apart = refl

-- a box lies in itself
inside-itself : inside unit unit ≡ true
inside-itself = refl

hull-two_boxes : hull (square_box (minus 5) (minus 1)) unit ≡ square_box (minus 5) (pos 10)
hull-two_boxes = refl

area-unit : area unit ≡ 100
area-unit = refl

-- ---- distances, from one corner of the plane to the other

near2-across : near2 lowest_corner (square_box greatest_coordinate greatest_coordinate) ≡ 36893488130239234050
near2-across = refl

far2-across : far2 lowest_corner (square_box least_coordinate greatest_coordinate) ≡ 36893488130239234050
far2-across = refl

-- ---- states of regions

abbrev circle : Point → ℕ → Region
circle centre radius = Circle (record { centre = centre; radius = radius })

circle-entry : region_state (circle (point_at (pos 0) (pos 0)) 2) (info_of (square_box (minus 5) (minus 1)) 0) ≡ Partly
circle-entry = refl

circle-node : region_state (circle (point_at (pos 0) (pos 0)) 2) (info_of (square_box (pos 0) (pos 1)) 1) ≡ Fully
circle-node = refl

circle-apart : region_state (circle (point_at (pos 0) (pos 0)) 1) (info_of (square_box (minus 5) (minus 1)) 0) ≡ Not
circle-apart = refl

circle-across :
    region_state (circle lowest_corner 4294967295) (info_of (square_box greatest_coordinate greatest_coordinate) 0)
    ≡ Not
circle-across = refl

-- a box that only overlaps the window: a node may hold some that lie in it
abbrev wide : Rect
wide = rect_of (minus 5) (pos 30) (minus 5) (pos 15)

abbrev inside_window : Region
inside_window = Inside (record { 0 = square_box (pos 0) (pos 15) })

inside-node : region_state inside_window (info_of wide 2) ≡ Partly
inside-node = refl

inside-entry : region_state inside_window (info_of wide 0) ≡ Not
inside-entry = refl

covers-node : region_state (Covers (record { 0 = square_box (pos 5) (pos 5) })) (info_of unit 1) ≡ Partly
covers-node = refl

-- ---- scores of orders

near-node :
    order_estimate (near (point_at (pos 12) (pos 12))) (info_of (rect_of (minus 5) (pos 30) (minus 5) (pos 10)) 2) ≡ 4
near-node = refl

abbrev smallest : Order
smallest = Smallest (record {})

smallest-entry : order_estimate smallest (info_of unit 0) ≡ 100
smallest-entry = refl

smallest-node : order_estimate smallest (info_of unit 1) ≡ 0
smallest-node = refl
