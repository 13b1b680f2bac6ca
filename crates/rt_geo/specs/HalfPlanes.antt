-- The half-planes of a polygon's edges, as the code keeps them where each edge is short. Nothing that a public call
-- promises speaks of this.
use Rattle.std.specs.Int.{from_bool}
use Rattle.std.specs.List.{list_all}
use Rattle.std.specs.Prelude.{◌^◌, ◌-◌, Bool, ◌&&◌, if◌then◌else◌, nat_le, nat_lt}
use Rattle.std.specs.Prelude.{ℤ, pos, ◌-ℤ◌, ◌*ℤ◌, int_le, int_lt, unsigned_abs, List, [], ◌∷◌, get_or}
use Rattle.std.specs.Prelude.{Option, Some, None, map}
use Rattle.arrayvec.specs.ArrayVec.{ArrayVec}
use Rattle.rt_geo.specs.Boxes.{Rect}
use Rattle.rt_geo.specs.Polygons.{path_from}
use Rattle.rt_geo.specs.ShortEdges.{is_short}
use Rattle.rt_geo.specs.declared.distance.Point.{Point}
use Rattle.rt_geo.specs.declared.prepared.HalfPlane.{HalfPlane}
use Rattle.rt_geo.specs.declared.polygon.Edge.{Edge}

-- the sides of a box, and the same from its other end on each axis
abbrev pub sides_of : Rect → List ℤ
sides_of b = b.min_x ∷ b.max_x ∷ b.min_y ∷ b.max_y ∷ []

abbrev pub turned_sides_of : Rect → List ℤ
turned_sides_of b = b.max_x ∷ b.min_x ∷ b.max_y ∷ b.min_y ∷ []

-- the half-plane to the left of an edge
abbrev pub half_plane_of : Edge → HalfPlane
half_plane_of edge =
    let along_x = edge.to.x -ℤ edge.from.x in
    let along_y = edge.to.y -ℤ edge.from.y in
    record {
      along_x = along_x;
      along_y = along_y;
      offset = along_x *ℤ edge.from.y -ℤ along_y *ℤ edge.from.x;
      side_x = from_bool (int_lt along_y (pos 0));
      side_y = 3 - from_bool (int_lt along_x (pos 0));
    }

-- the corner with the half-plane's two of these sides is in the half-plane
abbrev pub reaches : List ℤ → HalfPlane → Bool
reaches sides h =
    int_le h.offset
    (h.along_x *ℤ get_or sides h.side_y (pos 0) -ℤ h.along_y *ℤ get_or sides h.side_x (pos 0))

-- the point is in the half-plane, and not on its line
abbrev pub is_strictly_left : HalfPlane → Point → Bool
is_strictly_left h p = int_lt h.offset (h.along_x *ℤ p.y -ℤ h.along_y *ℤ p.x)

-- a difference that is short on each axis, and two of four sides
abbrev pub is_small : HalfPlane → Bool
is_small h =
    (nat_lt (unsigned_abs h.along_x) (2 ^ 31) && nat_lt (unsigned_abs h.along_y) (2 ^ 31))
    && (nat_lt h.side_x 4 && nat_lt h.side_y 4)

-- a number of 32 bits
abbrev pub is_coordinate : ℤ → Bool
is_coordinate z = nat_le (unsigned_abs z) (2 ^ 31)

-- the half-planes of edges that are all short
abbrev pub half_planes_of : List Edge → Option (ArrayVec HalfPlane)
half_planes_of path = if list_all is_short path then Some (record { items = map half_plane_of path }) else None

-- the last point of a path
abbrev pub last : Point → List Point → Point
last from [] = from
last from (to ∷ others) = last to others

-- the edges in turn, from the one that leads back to the first vertex on
abbrev pub edges_from_last : List Point → List Edge
edges_from_last [] = []
edges_from_last (first ∷ others) = path_from (last first others) (first ∷ others)
