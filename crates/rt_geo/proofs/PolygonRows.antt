-- Polygons that were worked out by hand: the definitions give their answers by computing.
use Rattle.std.proofs.Common.{◌≡◌, refl, arith, ℕ, pos, Bool, true, false, List, [], ◌∷◌, map, reverse}
use Rattle.std.specs.Prelude.{Ok, Err}
use Rattle.rt_geo.specs.Boxes.{Rect, greatest_coordinate, least_coordinate, rect_of}
use Rattle.rt_geo.specs.Polygons.{IsCommonPoint, bounding_box, point_at, polygon_meets, polygon_of}
use Rattle.rt_geo.specs.Regions.{region_state}
use Rattle.rt_geo.specs.declared.distance.Point.{Point}
use Rattle.rt_geo.specs.declared.geometry.Within.TheVariants.{Not, Partly, Fully}
use Rattle.rt_geo.specs.declared.polygon.PolygonFault.TheVariants.{Count, NotConvex}
use Rattle.rt_geo.specs.declared.region.Region.TheVariants.{Polygon}
use Rattle.rt_geo.proofs.Rows.{info_of, minus, square_box}

-- the point at two numbers that aren't below 0
abbrev at : (x y : ℕ) → Point
at x y = point_at (pos x) (pos y)

abbrev triangle : List Point
triangle = at 0 0 ∷ at 30 0 ∷ at 0 30 ∷ []

abbrev square : List Point
square = at 0 0 ∷ at 10 0 ∷ at 10 10 ∷ at 0 10 ∷ []

-- ---- lists of vertices

polygon_of-triangle : polygon_of triangle ≡ Ok triangle
polygon_of-triangle = refl

-- a clockwise list is taken reversed
polygon_of-clockwise : polygon_of (at 0 0 ∷ at 0 30 ∷ at 30 0 ∷ []) ≡ Ok (at 30 0 ∷ at 0 30 ∷ at 0 0 ∷ [])
polygon_of-clockwise = refl

polygon_of-square : polygon_of square ≡ Ok square
polygon_of-square = refl

polygon_of-reverse : polygon_of (reverse square) ≡ Ok square
polygon_of-reverse = refl

-- three in line
polygon_of-line : polygon_of (at 0 0 ∷ at 5 5 ∷ at 10 10 ∷ []) ≡ Err NotConvex
polygon_of-line = refl

polygon_of-flat_corner : polygon_of (at 0 0 ∷ at 5 0 ∷ at 10 0 ∷ at 0 10 ∷ []) ≡ Err NotConvex
polygon_of-flat_corner = refl

-- the five-pointed star turns left at each vertex, and goes round twice
abbrev star : List Point
star =
    at 0 3 ∷ point_at (pos 2) (minus 3) ∷ point_at (minus 3) (pos 1) ∷ at 3 1 ∷ point_at (minus 2) (minus 3) ∷ []

polygon_of-star : polygon_of star ≡ Err NotConvex
polygon_of-star = refl

-- a triangle that goes round twice
polygon_of-twice : polygon_of (at 0 0 ∷ at 30 0 ∷ at 0 30 ∷ at 0 0 ∷ at 30 0 ∷ at 0 30 ∷ []) ≡ Err NotConvex
polygon_of-twice = refl

-- the count is reported first
polygon_of-two_points : polygon_of (at 0 0 ∷ at 5 5 ∷ []) ≡ Err Count
polygon_of-two_points = refl

bounding_box-triangle : bounding_box triangle ≡ square_box (pos 0) (pos 30)
bounding_box-triangle = refl

-- ---- boxes

-- of five boxes all meet the triangle but the one to the left of it
abbrev five_boxes : List Rect
five_boxes =
    square_box (pos 0) (pos 10) ∷ square_box (pos 5) (pos 15) ∷ rect_of (pos 20) (pos 30) (pos 0) (pos 10)
    ∷ square_box (minus 5) (minus 1) ∷ square_box (pos 12) (pos 12) ∷ []

abbrev all_but_the_fourth : List Bool
all_but_the_fourth = true ∷ true ∷ true ∷ false ∷ true ∷ []

polygon_meets-five_boxes : map (polygon_meets triangle) five_boxes ≡ all_but_the_fourth
polygon_meets-five_boxes = refl

-- a triangle at the ends of the plane meets them all
abbrev half_plane : List Point
half_plane =
    point_at least_coordinate least_coordinate ∷ point_at greatest_coordinate least_coordinate
    ∷ point_at greatest_coordinate greatest_coordinate ∷ []

polygon_of-half_plane : polygon_of half_plane ≡ Ok half_plane
polygon_of-half_plane = refl

polygon_meets-half_plane : map (polygon_meets half_plane) five_boxes ≡ true ∷ true ∷ true ∷ true ∷ true ∷ []
polygon_meets-half_plane = refl

-- ---- states

-- the bounding box holds this box, and the slanted edge parts it from the triangle
polygon_state-apart : region_state (Polygon triangle) (info_of (square_box (pos 25) (pos 30)) 0) ≡ Not
polygon_state-apart = refl

-- this one touches the slanted edge in a corner
polygon_state-touching : region_state (Polygon triangle) (info_of (square_box (pos 15) (pos 30)) 0) ≡ Partly
polygon_state-touching = refl

-- and this one does so from within
polygon_state-inside : region_state (Polygon triangle) (info_of (rect_of (pos 0) (pos 10) (pos 0) (pos 20)) 1) ≡ Fully
polygon_state-inside = refl

-- the bounding box holds this box, and one corner of it is cut off
polygon_state-cut : region_state (Polygon triangle) (info_of (rect_of (pos 0) (pos 10) (pos 0) (pos 21)) 1) ≡ Partly
polygon_state-cut = refl

-- ---- points in fractions

-- the point (7.5, 22.5) of the slanted edge lies in a box whose corners are whole numbers
common_point : IsCommonPoint triangle (rect_of (pos 7) (pos 8) (pos 22) (pos 23)) (at 15 45) 2
common_point = record {
  fraction = omega arith;
  in_box = refl;
  in_bounding_box = refl;
  in_half_planes = refl;
}
