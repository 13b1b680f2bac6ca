-- Convex polygons: which lists of vertices are one, which boxes one accepts, and what a box shares with one.
use Rattle.std.specs.List.{count_by, fold, list_all, list_any, slice_get}
use Rattle.std.specs.Prelude.{◌≡◌, ◌≢◌, ◌⊎◌, ◌<◌, ℕ, ◌+◌, ◌==◌, nat_le, Bool, true, false, not, ◌&&◌, if◌then◌else◌}
use Rattle.std.specs.Prelude.{ℤ, pos, ◌-ℤ◌, ◌*ℤ◌, int_le, int_lt}
use Rattle.std.specs.Prelude.{List, [], ◌∷◌, ◌++◌, length, reverse, Some, Result, Ok, Err}
use Rattle.rt_geo.specs.Boxes.{Rect, hull, inside, overlaps, rect_of}
use Rattle.rt_geo.specs.Distances.{rect_at}
use Rattle.rt_geo.specs.declared.distance.Point.{Point}
use Rattle.rt_geo.specs.declared.polygon.Edge.{Edge}
use Rattle.rt_geo.specs.declared.polygon.PolygonFault.{PolygonFault}
use Rattle.rt_geo.specs.declared.polygon.PolygonFault.TheVariants.{Count, NotConvex}

-- ---- edges

-- the edges of a path, from its first point on through the others in turn
abbrev pub path_from : Point → List Point → List Edge
path_from from [] = []
path_from from (to ∷ others) = record { from = from; to = to } ∷ path_from to others

-- the edges of a list of vertices: from each to the next, and from the last back to the first
abbrev pub edges : List Point → List Edge
edges [] = []
edges (first ∷ others) = path_from first (others ++ first ∷ [])

-- how far a point lies to the left of an edge, times the edge's length; to the right it is below 0
abbrev pub cross : Edge → Point → ℤ
cross edge p =
    (edge.to.x -ℤ edge.from.x) *ℤ (p.y -ℤ edge.from.y) -ℤ (edge.to.y -ℤ edge.from.y) *ℤ (p.x -ℤ edge.from.x)

-- strictly to the left of the edge
abbrev pub is_left : Edge → Point → Bool
is_left edge p = int_lt (pos 0) (cross edge p)

-- in the half-plane of the edge: to the left of it, or in line with it
abbrev pub is_in_half_plane : Edge → Point → Bool
is_in_half_plane edge p = int_le (pos 0) (cross edge p)

-- ---- lists of vertices

-- 3 to 16 vertices
abbrev pub has_polygon_count : List Point → Bool
has_polygon_count vertices = nat_le 3 (length vertices) && nat_le (length vertices) 16

-- strictly convex, counterclockwise: to the left of each edge lie, strictly, all the vertices but its two ends
abbrev pub is_strictly_convex : List Point → Bool
is_strictly_convex vertices =
    list_all (λ edge. count_by (is_left edge) vertices + 2 == length vertices) (edges vertices)

-- the place of the vertex after the one at a place; after the last comes the first
abbrev pub next_place : List Point → ℕ → ℕ
next_place vertices i = if i + 1 == length vertices then 0 else i + 1

-- the same vertex by vertex: for each edge, every other vertex lies strictly to its left
abbrev pub IsStrictlyConvex : List Point → Type 0
IsStrictlyConvex vertices =
    (i j : ℕ) (from to other : Point)
    → slice_get vertices i ≡ Some from → slice_get vertices (next_place vertices i) ≡ Some to
    → slice_get vertices j ≡ Some other → j ≢ i → j ≢ next_place vertices i
    → is_left (record { from = from; to = to }) other ≡ true

-- the polygon of a list of vertices, counterclockwise: the list where it is strictly convex, otherwise its reverse
-- where that is. Why there is none, otherwise
abbrev pub polygon_of : List Point → Result (List Point) PolygonFault
polygon_of vertices =
    if not (has_polygon_count vertices) then Err Count
    else (if is_strictly_convex vertices then Ok vertices
    else (if is_strictly_convex (reverse vertices) then Ok (reverse vertices) else Err NotConvex))

-- the same vertex by vertex, so that no count of vertices has to be believed: a polygon is the list or its reverse, and
-- strictly convex. Too few or too many vertices are reported as that, and a list of 3 to 16 is refused only if it is
-- strictly convex neither way round
abbrev pub IsPolygonOf : List Point → Result (List Point) PolygonFault → Type 0
IsPolygonOf points (Ok vertices) =
    (has_polygon_count points ≡ true)
    × (((vertices ≡ points) ⊎ (vertices ≡ reverse points)) × IsStrictlyConvex vertices)
IsPolygonOf points (Err Count) = has_polygon_count points ≡ false
IsPolygonOf points (Err NotConvex) =
    (has_polygon_count points ≡ true) × ((¬ IsStrictlyConvex points) × (¬ IsStrictlyConvex (reverse points)))

-- the least box around all vertices, of which there is at least one
abbrev pub bounding_box : List Point → Rect
bounding_box [] = rect_of (pos 0) (pos 0) (pos 0) (pos 0)
bounding_box (first ∷ others) = fold (λ box vertex. hull box (rect_at vertex)) (rect_at first) others

-- ---- boxes

abbrev pub point_at : (x y : ℤ) → Point
point_at x y = record { x = x; y = y }

-- the four corners of a box
abbrev pub corners : Rect → List Point
corners b =
    point_at b.min_x b.min_y ∷ point_at b.max_x b.min_y ∷ point_at b.min_x b.max_y ∷ point_at b.max_x b.max_y ∷ []

-- the box has a point in the half-plane of the edge: some corner
abbrev pub meets_half_plane : Rect → Edge → Bool
meets_half_plane b edge = list_any (is_in_half_plane edge) (corners b)

-- the box lies in the half-plane of the edge: each corner does
abbrev pub lies_in_half_plane : Rect → Edge → Bool
lies_in_half_plane b edge = list_all (is_in_half_plane edge) (corners b)

-- the box meets the polygon: it overlaps the bounding box, and meets the half-plane of each edge. Two convex sets are
-- apart exactly where an axis parts them; the axes to look at are x, y and those across the edges (separating axis
-- theorem: Gottschalk, Lin and Manocha 1996)
abbrev pub polygon_meets : List Point → Rect → Bool
polygon_meets vertices b = overlaps b (bounding_box vertices) && list_all (meets_half_plane b) (edges vertices)

-- the box lies in the polygon: in the bounding box, and in the half-plane of each edge
abbrev pub polygon_holds : List Point → Rect → Bool
polygon_holds vertices b = inside b (bounding_box vertices) && list_all (lies_in_half_plane b) (edges vertices)

-- ---- points in fractions

-- scaled by `d`, the point (x / d, y / d) is at (x, y), and a point p is at `scaled_point d p`
abbrev pub scaled_point : ℕ → Point → Point
scaled_point d p = point_at (pos d *ℤ p.x) (pos d *ℤ p.y)

abbrev pub scaled_edge : ℕ → Edge → Edge
scaled_edge d edge = record { from = scaled_point d edge.from; to = scaled_point d edge.to }

abbrev pub scaled_box : ℕ → Rect → Rect
scaled_box d b = rect_of (pos d *ℤ b.min_x) (pos d *ℤ b.max_x) (pos d *ℤ b.min_y) (pos d *ℤ b.max_y)

-- the point (p.x / d, p.y / d) lies in the box and in the polygon: in its bounding box, and in the half-plane of
-- each edge
pub record IsCommonPoint (vertices : List Point) (b : Rect) (p : Point) (d : ℕ) : Type 0 where
  pub fraction : 0 < d
  pub in_box : inside (rect_at p) (scaled_box d b) ≡ true
  pub in_bounding_box : inside (rect_at p) (scaled_box d (bounding_box vertices)) ≡ true
  pub in_half_planes : list_all (λ edge. is_in_half_plane (scaled_edge d edge) p) (edges vertices) ≡ true

-- the box and the polygon share no point, not even one in fractions
abbrev pub SharesNoPoint : List Point → Rect → Type 0
SharesNoPoint vertices b = (p : Point) (d : ℕ) → ¬ IsCommonPoint vertices b p d

-- the box and the polygon share a point, perhaps one in fractions
abbrev pub SharesPoint : List Point → Rect → Type 0
SharesPoint vertices b = (p : Point) × ((d : ℕ) × IsCommonPoint vertices b p d)

-- each point of the box lies in the polygon, those in fractions too
abbrev pub HoldsEachPoint : List Point → Rect → Type 0
HoldsEachPoint vertices b =
    (p : Point) (d : ℕ) → 0 < d → inside (rect_at p) (scaled_box d b) ≡ true → IsCommonPoint vertices b p d
