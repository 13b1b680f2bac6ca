-- The half-planes of short edges, as the code stores them, and what they tell of a box.
use Rattle.std.specs.Int.{from_bool}
use Rattle.std.specs.List.{count_by, list_all}
use Rattle.std.specs.Prelude.{◌*ℤ◌, ◌&&◌, int_le, int_lt, if◌then◌else◌, map, nat_lt, pos, unsigned_abs}
use Rattle.std.proofs.Common.{◌≡◌, ◌∙◌, ap, sym, refl, arith, ℕ, ◌^◌, ◌*◌, ◌-◌, ◌<◌, ◌≤◌, Bool, true, false, not}
use Rattle.std.proofs.Common.{ℤ, ◌-ℤ◌}
use Rattle.std.proofs.Common.{List, [], ◌∷◌, get_or, FitsSigned, to_z, of_z, w32, w64, Some, None, length, take}
use Rattle.std.proofs.Common.{◌+◌}
use Rattle.std.proofs.lemmas.Bool.{and_from, and_parts}
use Rattle.std.proofs.lemmas.Bool.Decides.{nat_tests}
use Rattle.std.proofs.lemmas.Int.{fits_signed_from_abs, ints, to_z-of_z, unsigned_abs-mul}
use Rattle.std.proofs.lemmas.List.Sums.{count_by_more_no, count_by_more_yes}
use Rattle.std.proofs.lemmas.Nat.{mul-le}
use Rattle.arrayvec.specs.ArrayVec.{ArrayVec}
use Rattle.rt_geo.specs.Boxes.{Rect, IsRect, inside, overlaps}
use Rattle.rt_geo.specs.HalfPlanes.{edges_from_last, half_plane_of, half_planes_of}
use Rattle.rt_geo.specs.HalfPlanes.{is_small, is_strictly_left, reaches}
use Rattle.rt_geo.specs.HalfPlanes.{sides_of, turned_sides_of}
use Rattle.rt_geo.specs.Lemmas.HalfPlanes.{lies_in_half_plane-rightmost}
use Rattle.rt_geo.specs.Lemmas.HalfPlanes.{meets_half_plane-leftmost, opposite}
use Rattle.rt_geo.specs.Lemmas.Products.{mul-difference}
use Rattle.rt_geo.specs.Polygons.{bounding_box, cross, edges, has_polygon_count, is_in_half_plane, is_left}
use Rattle.rt_geo.specs.Polygons.{lies_in_half_plane, meets_half_plane, path_from, point_at}
use Rattle.rt_geo.specs.Regions.{region_state, state_by}
use Rattle.rt_geo.specs.ShortEdges.{has_short_edges, is_short}
use Rattle.rt_geo.specs.declared.distance.Point.{Point}
use Rattle.rt_geo.specs.declared.geometry.Info.{Info}
use Rattle.rt_geo.specs.declared.prepared.HalfPlane.{HalfPlane}
use Rattle.rt_geo.specs.declared.polygon.Edge.{Edge}
use Rattle.rt_geo.specs.declared.region.Region.TheVariants.{Polygon}
use Rattle.rt_geo.proofs.Edges.{edges_from_last-is, list_all-edges, list_all-edges_from_last}

-- ---- products of a short difference and a coordinate

small_product : (m n : ℕ) → m < 2 ^ 31 → n ≤ 2 ^ 31 → m * n < 2 ^ 62
small_product m n p q =
    let r = mul-le m n (2 ^ 31 - 1) (2 ^ 31) (omega (arith, p)) q in
    omega (arith, r)

pub short_product-size : (m n : ℤ)
    → unsigned_abs m < 2 ^ 31 → unsigned_abs n ≤ 2 ^ 31 → unsigned_abs (m *ℤ n) < 2 ^ 62
short_product-size m n p q = rw (unsigned_abs-mul m n) (small_product _ _ p q)

short_product-fits : (m n : ℤ) → unsigned_abs m < 2 ^ 31 → unsigned_abs n ≤ 2 ^ 31 → FitsSigned w64 (m *ℤ n)
short_product-fits m n p q =
    let small = short_product-size m n p q in
    fits_signed_from_abs w64 (m *ℤ n) (omega (arith, small))

pub short_product_is : (m n : ℤ) → FitsSigned w64 m → FitsSigned w64 n
    → unsigned_abs m < 2 ^ 31 → unsigned_abs n ≤ 2 ^ 31
    → to_z w64 (of_z w64 (to_z w64 (of_z w64 m) *ℤ to_z w64 (of_z w64 n))) ≡ m *ℤ n
short_product_is m n f g p q =
    rw (to_z-of_z w64 m f, to_z-of_z w64 n g) (to_z-of_z w64 (m *ℤ n) (short_product-fits m n p q))

product-fits : (m : ℤ) → unsigned_abs m < 2 ^ 62 → FitsSigned w64 m
product-fits m h = grind (arith, ints)

difference-fits : (m n : ℤ) → unsigned_abs m < 2 ^ 62 → unsigned_abs n < 2 ^ 62 → FitsSigned w64 (m -ℤ n)
difference-fits m n p q = grind (arith, ints)

pub to_the_left-fits : (m n : ℤ) → unsigned_abs m < 2 ^ 62 → unsigned_abs n < 2 ^ 62
    → FitsSigned w64 (to_z w64 (of_z w64 m) -ℤ to_z w64 (of_z w64 n))
to_the_left-fits m n p q =
    rw (to_z-of_z w64 m (product-fits m p), to_z-of_z w64 n (product-fits n q)) (difference-fits m n p q)

pub to_the_left_is : (m n x y : ℤ) → unsigned_abs m < 2 ^ 62 → unsigned_abs n < 2 ^ 62 → m ≡ x → n ≡ y
    → to_z w64 (of_z w64 (to_z w64 (of_z w64 m) -ℤ to_z w64 (of_z w64 n))) ≡ x -ℤ y
to_the_left_is m n x y p q e f =
    rw (to_z-of_z w64 m (product-fits m p), to_z-of_z w64 n (product-fits n q))
    (to_z-of_z w64 (m -ℤ n) (difference-fits m n p q) ∙ rw (e, f) refl)

-- ---- the corner that a half-plane picks

at_least_offset : (o v : ℤ) → int_le o v ≡ int_le (pos 0) (v -ℤ o)
at_least_offset o v = grind (arith, ints)

-- how far a point lies to the left, by offsets from the origin
cross-by_offset : (edge : Edge) (x y : ℤ)
    → ((edge.to.x -ℤ edge.from.x) *ℤ y -ℤ (edge.to.y -ℤ edge.from.y) *ℤ x)
    -ℤ ((edge.to.x -ℤ edge.from.x) *ℤ edge.from.y -ℤ (edge.to.y -ℤ edge.from.y) *ℤ edge.from.x)
    ≡ cross edge (point_at x y)
cross-by_offset edge x y =
    let on_y = mul-difference (edge.to.x -ℤ edge.from.x) y edge.from.y in
    let on_x = mul-difference (edge.to.y -ℤ edge.from.y) x edge.from.x in
    omega (arith, ints, on_x, on_y)

-- so a point is in the half-plane where that is at least the half-plane's offset
is_in_half_plane-by_offset : (edge : Edge) (x y : ℤ)
    → int_le (half_plane_of edge).offset ((half_plane_of edge).along_x *ℤ y -ℤ (half_plane_of edge).along_y *ℤ x)
    ≡ is_in_half_plane edge (point_at x y)
is_in_half_plane-by_offset edge x y =
    at_least_offset (half_plane_of edge).offset _ ∙ ap (int_le (pos 0)) (cross-by_offset edge x y)

above_offset : (o v : ℤ) → int_lt o v ≡ int_lt (pos 0) (v -ℤ o)
above_offset o v = grind (arith, ints)

-- and to the left of the edge where it is above
pub is_strictly_left-is : (edge : Edge) (p : Point) → is_strictly_left (half_plane_of edge) p ≡ is_left edge p
is_strictly_left-is edge p =
    above_offset (half_plane_of edge).offset _ ∙ ap (int_lt (pos 0)) (cross-by_offset edge p.x p.y)

count_more : (p : Point → Bool) (xs : List Point) (i : ℕ) (d : Point) (t : Bool)
    → i < length xs → p (get_or xs i d) ≡ t → count_by p (take i xs) + from_bool t ≡ count_by p (take (i + 1) xs)
count_more p xs i d true h e = sym (count_by_more_yes p xs i d h e)
count_more p xs i d false h e =
    let same = count_by_more_no p xs i d h e in
    omega (arith, same)

-- one more of the points, counted where it is strictly in the half-plane
pub left_counted : (edge : Edge) (h : HalfPlane) (points : List Point) (i count more : ℕ) (d : Point) (t : Bool)
    → h ≡ half_plane_of edge → i < length points → count ≡ count_by (is_left edge) (take i points)
    → t ≡ is_strictly_left h (get_or points i d) → more ≡ from_bool t
    → count + more ≡ count_by (is_left edge) (take (i + 1) points)
left_counted edge h points i count more d t e n counted is_left_is m =
    rw (counted, m)
    (count_more (is_left edge) points i d t n
    (sym (is_strictly_left-is edge (get_or points i d)) ∙ sym (is_left_is ∙ rw e refl)))

leads_back : (m n : ℤ) → int_lt (m -ℤ n) (pos 0) ≡ int_lt m n
leads_back m n = grind (arith, ints)

side_x-of : (t : Bool) (p q r s : ℤ) → get_or (p ∷ q ∷ r ∷ s ∷ []) (from_bool t) (pos 0) ≡ (if t then q else p)
side_x-of true p q r s = refl
side_x-of false p q r s = refl

side_y-of : (t : Bool) (p q r s : ℤ)
    → get_or (p ∷ q ∷ r ∷ s ∷ []) (3 - from_bool t) (pos 0) ≡ (if t then r else s)
side_y-of true p q r s = refl
side_y-of false p q r s = refl

-- of four sides a half-plane picks one on each axis, by where its edge leads
reaches-picked : (edge : Edge) (p q r s : ℤ)
    → reaches (p ∷ q ∷ r ∷ s ∷ []) (half_plane_of edge)
    ≡ is_in_half_plane edge (point_at (if int_lt edge.to.y edge.from.y then q else p)
    (if int_lt edge.to.x edge.from.x then r else s))
reaches-picked edge p q r s =
    rw (
      side_x-of (int_lt (edge.to.y -ℤ edge.from.y) (pos 0)) p q r s,
      side_y-of (int_lt (edge.to.x -ℤ edge.from.x) (pos 0)) p q r s,
      leads_back edge.to.x edge.from.x,
      leads_back edge.to.y edge.from.y,
    )
    (is_in_half_plane-by_offset edge _ _)

reaches-sides : (edge : Edge) (b : Rect) → IsRect b
    → reaches (sides_of b) (half_plane_of edge) ≡ meets_half_plane b edge
reaches-sides edge b v =
    reaches-picked edge b.min_x b.max_x b.min_y b.max_y ∙ meets_half_plane-leftmost edge b v

reaches-turned_sides : (edge : Edge) (b : Rect) → IsRect b
    → reaches (turned_sides_of b) (half_plane_of edge) ≡ lies_in_half_plane b edge
reaches-turned_sides edge b v =
    reaches-picked edge b.max_x b.min_x b.max_y b.min_y
    ∙ rw (
      opposite edge.to.y edge.from.y b.min_x b.max_x,
      opposite edge.to.x edge.from.x b.max_y b.min_y,
    )
    (lies_in_half_plane-rightmost edge b v)

-- ---- all edges

list_all-along : (f : HalfPlane → Bool) (g : Edge → Bool) → ((edge : Edge) → f (half_plane_of edge) ≡ g edge)
    → (path : List Edge) → list_all f (map half_plane_of path) ≡ list_all g path
list_all-along f g same [] = refl
list_all-along f g same (edge ∷ path) = rw (same edge, list_all-along f g same path) refl

pub all_meet : (vertices : List Point) (b : Rect) → IsRect b
    → list_all (reaches (sides_of b)) (map half_plane_of (edges_from_last vertices))
    ≡ list_all (meets_half_plane b) (edges vertices)
all_meet vertices b v =
    list_all-along (reaches (sides_of b)) (meets_half_plane b) (λ edge. reaches-sides edge b v)
    (edges_from_last vertices)
    ∙ sym (list_all-edges_from_last (meets_half_plane b) vertices)

pub all_lie_in : (vertices : List Point) (b : Rect) → IsRect b
    → list_all (reaches (turned_sides_of b)) (map half_plane_of (edges_from_last vertices))
    ≡ list_all (lies_in_half_plane b) (edges vertices)
all_lie_in vertices b v =
    list_all-along (reaches (turned_sides_of b)) (lies_in_half_plane b) (λ edge. reaches-turned_sides edge b v)
    (edges_from_last vertices)
    ∙ sym (list_all-edges_from_last (lies_in_half_plane b) vertices)

below_four : (t : Bool) → nat_lt (from_bool t) 4 ≡ true
below_four true = refl
below_four false = refl

below_four_too : (t : Bool) → nat_lt (3 - from_bool t) 4 ≡ true
below_four_too true = refl
below_four_too false = refl

-- short edges have small half-planes
pub is_small-half_plane : (edge : Edge) → is_short edge ≡ true → is_small (half_plane_of edge) ≡ true
is_small-half_plane edge h =
    and_from _ _ h (
    and_from _ _ (below_four (int_lt (edge.to.y -ℤ edge.from.y) (pos 0)))
    (below_four_too (int_lt (edge.to.x -ℤ edge.from.x) (pos 0)))
    )

all_small : (path : List Edge) → list_all is_short path ≡ true → list_all is_small (map half_plane_of path) ≡ true
all_small [] h = refl
all_small (edge ∷ path) h =
    let parts = and_parts _ _ h in
    and_from _ _ (is_small-half_plane edge parts.0) (all_small path parts.1)

pub all_small-edges : (vertices : List Point) → list_all is_short (edges vertices) ≡ true
    → list_all is_small (map half_plane_of (edges_from_last vertices)) ≡ true
all_small-edges vertices h = all_small (edges_from_last vertices) (sym (list_all-edges_from_last is_short vertices) ∙ h)

-- ---- the state

-- of a box that meets half-planes and lies in some, as that box overlaps the bounding box and lies in it
state_of : (vertices : List Point) (i : Info) (met held overlapping lies_inside : Bool)
    → met ≡ list_all (meets_half_plane i.bounds) (edges vertices)
    → held ≡ list_all (lies_in_half_plane i.bounds) (edges vertices)
    → overlapping ≡ overlaps i.bounds (bounding_box vertices) → lies_inside ≡ inside i.bounds (bounding_box vertices)
    → state_by (not (overlapping && met)) (lies_inside && held) ≡ region_state (Polygon vertices) i
state_of vertices i met held overlapping lies_inside e f o l = rw (e, f, l, o) refl

-- the same by the half-planes
pub state_is : (vertices : List Point) (i : Info) (half_planes : List HalfPlane) (whole : Rect)
    (overlapping lies_inside : Bool)
    → IsRect i.bounds → half_planes ≡ map half_plane_of (edges_from_last vertices)
    → whole ≡ bounding_box vertices → overlapping ≡ overlaps i.bounds whole → lies_inside ≡ inside i.bounds whole
    → state_by (not (overlapping && list_all (reaches (sides_of i.bounds)) half_planes))
    (lies_inside && list_all (reaches (turned_sides_of i.bounds)) half_planes)
    ≡ region_state (Polygon vertices) i
state_is vertices i half_planes whole overlapping lies_inside v h w o l =
    state_of vertices i (list_all (reaches (sides_of i.bounds)) half_planes)
    (list_all (reaches (turned_sides_of i.bounds)) half_planes) overlapping lies_inside
    (rw h (all_meet vertices i.bounds v)) (rw h (all_lie_in vertices i.bounds v))
    (o ∙ rw w refl) (l ∙ rw w refl)

-- ---- as the code makes them

-- a number, written to 64 bits and read back
abbrev stored : ℤ → ℤ
stored z = to_z w64 (of_z w64 z)

-- the same with 32 bits
abbrev stored_short : ℤ → ℤ
stored_short z = to_z w32 (of_z w32 z)

-- the half-plane whose parts are those of an edge's
pub half_plane_is : (edge : Edge) (along_x along_y x y offset : ℤ) (side_x side_y : ℕ)
    → FitsSigned w32 along_x → FitsSigned w32 along_y → FitsSigned w64 x → FitsSigned w64 y → FitsSigned w64 offset
    → along_x ≡ edge.to.x -ℤ edge.from.x → along_y ≡ edge.to.y -ℤ edge.from.y → x ≡ edge.from.x → y ≡ edge.from.y
    → offset ≡ stored_short along_x *ℤ stored y -ℤ stored_short along_y *ℤ stored x
    → side_x ≡ from_bool (int_lt (stored_short along_y) (pos 0))
    → side_y ≡ from_bool (int_lt (stored_short along_x) (pos 0))
    → ◌≡◌ {A = HalfPlane} (record {
      along_x = stored_short along_x;
      along_y = stored_short along_y;
      offset = stored offset;
      side_x = side_x;
      side_y = 3 - side_y;
    })
    (half_plane_of edge)
half_plane_is edge along_x along_y x y offset side_x side_y f g h k l e p q r o s t =
    rw (
      to_z-of_z w64 offset l,
      o,
      s,
      t,
      to_z-of_z w32 along_x f,
      to_z-of_z w32 along_y g,
      to_z-of_z w64 x h,
      to_z-of_z w64 y k,
      e,
      p,
      q,
      r,
    )
    refl

pub coordinate-stored : (m : ℤ) → unsigned_abs m ≤ 2 ^ 31 → FitsSigned w64 m
coordinate-stored m h = grind (arith, ints)

pub to_i64_is : (r z : ℤ) → FitsSigned w32 z → r ≡ to_z w32 (of_z w32 z) → r ≡ z
to_i64_is r z f e = e ∙ to_z-of_z w32 z f

some_of : {X : Type 0} (t : Bool) (x y : X) → Some x ≡ (if t then Some y else None) → (t ≡ true) × (x ≡ y)
some_of true x y e = (refl, cc)
some_of false x y e = cc

none_of : {X : Type 0} (t : Bool) (y : X) → None ≡ (if t then Some y else None) → t ≡ false
none_of true y e = cc
none_of false y e = refl

pub some_vertex : (vertices : List Point) → has_polygon_count vertices ≡ true → 1 ≤ length vertices
some_vertex vertices h = grind (arith, nat_tests)

-- what is known of the half-planes that were made, and of the vertices where none were
pub record AreMade (vertices : List Point) (made : List HalfPlane) : Type 0 where
  pub short : has_short_edges vertices ≡ true
  pub half_planes : made ≡ map half_plane_of (edges_from_last vertices)

pub are_made : (vertices seen : List Point) (last : Point) (v : ArrayVec HalfPlane)
    → has_polygon_count vertices ≡ true → seen ≡ vertices → last ≡ get_or vertices (length vertices - 1) last
    → Some v ≡ half_planes_of (path_from last seen) → AreMade vertices v.items
are_made vertices seen last v h s l e =
    let long = some_vertex vertices h in
    let parts = some_of (list_all is_short (path_from last vertices)) v _ (rw s at e) in
    record {
      short = list_all-edges is_short vertices last long l ∙ parts.0;
      half_planes =
          ap (λ (made : ArrayVec HalfPlane). made.items) parts.1
          ∙ ap (map half_plane_of) (sym (edges_from_last-is vertices last long l));
    }

pub none_made : (vertices seen : List Point) (last : Point)
    → has_polygon_count vertices ≡ true → seen ≡ vertices → last ≡ get_or vertices (length vertices - 1) last
    → None ≡ half_planes_of (path_from last seen) → has_short_edges vertices ≡ false
none_made vertices seen last h s l e =
    list_all-edges is_short vertices last (some_vertex vertices h) l
    ∙ none_of (list_all is_short (path_from last vertices)) _ (rw s at e)
