-- A convex polygon keeps the laws of a shape, and shares no point with a box that it drops.
use Rattle.std.specs.List.{list_all, list_any}
use Rattle.std.specs.Prelude.{int_le, not, ◌-ℤ◌, ◌*ℤ◌}
use Rattle.std.proofs.Common.{◌≡◌, ◌∙◌, sym, subst, refl, arith, inl, inr, ℕ, zero, suc, Bool, true, false}
use Rattle.std.proofs.Common.{ℤ, pos, negsuc, ◌≤ℤ◌, List, [], ◌∷◌, map}
use Rattle.std.proofs.lemmas.Bool.{true≢false, and_from, and_parts, or_cases, or_left, or_right}
use Rattle.std.proofs.lemmas.Int.{ints}
use Rattle.rt_geo.specs.Boxes.{Rect, IsRect, inside, overlaps, range_lies_in, ranges_meet}
use Rattle.rt_geo.specs.Distances.{rect_at}
use Rattle.rt_geo.specs.Laws.{AllAccepted, IsFaithful, NoneAccepted, extent_of}
use Rattle.rt_geo.specs.Lemmas.Boxes.{inside-on_x, inside-on_y, inside-overlaps, inside-trans, overlaps-part}
use Rattle.rt_geo.specs.Lemmas.HalfPlanes.{corner, corner-inside, some_point}
use Rattle.rt_geo.specs.Lemmas.HalfPlanes.{lies_in_half_plane-point, meets_half_plane-point}
use Rattle.rt_geo.specs.Lemmas.Products.{difference-scaled, mul-difference, order_kept, sign_kept}
use Rattle.rt_geo.specs.Lemmas.Shapes.{contrapositive, state_by-leaf, state_by-Fully, state_by-Not}
use Rattle.rt_geo.specs.Polygons.{HoldsEachPoint, IsCommonPoint, SharesNoPoint, bounding_box, corners, cross, edges}
use Rattle.rt_geo.specs.Polygons.{is_in_half_plane, lies_in_half_plane, meets_half_plane}
use Rattle.rt_geo.specs.Polygons.{polygon_holds, polygon_meets}
use Rattle.rt_geo.specs.Polygons.{scaled_point, scaled_box, scaled_edge}
use Rattle.rt_geo.specs.Regions.{region_accepts, region_state}
use Rattle.rt_geo.specs.declared.distance.Point.{Point}
use Rattle.rt_geo.specs.declared.geometry.Info.{Info}
use Rattle.rt_geo.specs.declared.geometry.Within.TheVariants.{Not, Fully}
use Rattle.rt_geo.specs.declared.polygon.Edge.{Edge}
use Rattle.rt_geo.specs.declared.region.Region.TheVariants.{Polygon}

-- ---- a box and a part of it

-- a half-plane that a part of a box meets, the box meets
meets_half_plane-part : (a b : Rect) → IsRect a → inside a b ≡ true
    → (edge : Edge) → meets_half_plane a edge ≡ true → meets_half_plane b edge ≡ true
meets_half_plane-part a b v h edge e =
    let found = some_point (is_in_half_plane edge) a v e in
    meets_half_plane-point edge found.0 b (inside-trans (rect_at found.0) a b found.1.0 h) found.1.1

-- a half-plane in which a box lies, each part of it meets
lies_in_half_plane-part : (a b : Rect) → IsRect a → inside a b ≡ true
    → (edge : Edge) → lies_in_half_plane b edge ≡ true → meets_half_plane a edge ≡ true
lies_in_half_plane-part a b v h edge e =
    let p = corner false true a in
    let lies = corner-inside false true a v in
    meets_half_plane-point edge p a lies
    (lies_in_half_plane-point edge p b (inside-trans (rect_at p) a b lies h) e)

-- what passes one test of each element passes another that asks less
list_all-less : {X : Type 0} (f g : X → Bool) → ((x : X) → f x ≡ true → g x ≡ true)
    → (xs : List X) → list_all f xs ≡ true → list_all g xs ≡ true
list_all-less f g less [] h = refl
list_all-less f g less (x ∷ xs) h =
    let parts = and_parts _ _ h in
    and_from _ _ (less x parts.0) (list_all-less f g less xs parts.1)

-- a polygon that meets a part of a box meets the box
polygon_meets-part : (vertices : List Point) (a b : Rect)
    → IsRect a → inside a b ≡ true → polygon_meets vertices a ≡ true → polygon_meets vertices b ≡ true
polygon_meets-part vertices a b v h e =
    let parts = and_parts _ _ e in
    and_from _ _ (overlaps-part a b (bounding_box vertices) h parts.0)
    (list_all-less (meets_half_plane a) (meets_half_plane b) (meets_half_plane-part a b v h) (edges vertices) parts.1)

-- a polygon that holds a box meets each part of it
polygon_holds-part : (vertices : List Point) (a b : Rect)
    → IsRect a → inside a b ≡ true → polygon_holds vertices b ≡ true → polygon_meets vertices a ≡ true
polygon_holds-part vertices a b v h e =
    let parts = and_parts _ _ e in
    and_from _ _ (inside-overlaps a (bounding_box vertices) v (inside-trans a b (bounding_box vertices) h parts.0))
    (list_all-less (lies_in_half_plane b) (meets_half_plane a) (lies_in_half_plane-part a b v h) (edges vertices)
    parts.1)

-- ---- the laws

polygon-pruning : (vertices : List Point) (i : Info)
    → region_state (Polygon vertices) i ≡ Not → NoneAccepted (region_accepts (Polygon vertices)) (extent_of i)
polygon-pruning vertices i e b h =
    contrapositive _ _ (polygon_meets-part vertices b.bounds i.bounds h.box h.inside)
    (state_by-Not (polygon_meets vertices i.bounds) (polygon_holds vertices i.bounds) e)

polygon-fullness : (vertices : List Point) (i : Info)
    → region_state (Polygon vertices) i ≡ Fully → AllAccepted (region_accepts (Polygon vertices)) (extent_of i)
polygon-fullness vertices i e b h =
    polygon_holds-part vertices b.bounds i.bounds h.box h.inside
    (state_by-Fully (not (polygon_meets vertices i.bounds)) (polygon_holds vertices i.bounds) e)

pub polygon-faithful : (vertices : List Point) → IsFaithful (region_accepts (Polygon vertices)) (region_state (Polygon vertices))
polygon-faithful vertices = record {
  leaf = λ i question entry. state_by-leaf (polygon_meets vertices i.bounds) (polygon_holds vertices i.bounds);
  pruning = λ i question node. polygon-pruning vertices i;
  fullness = λ i question node. polygon-fullness vertices i;
}

-- ---- points in fractions

at_least : (n : ℤ) → int_le (pos 0) n ≡ true → pos 0 ≤ℤ n
at_least n h = grind (arith, ints)

at_least-test : (n : ℤ) → pos 0 ≤ℤ n → int_le (pos 0) n ≡ true
at_least-test n h = grind (arith, ints)

cross-scaled : (d : ℕ) (edge : Edge) (p : Point)
    → cross (scaled_edge d edge) (scaled_point d p) ≡ pos d *ℤ (pos d *ℤ cross edge p)
cross-scaled d edge p =
    rw (
      ← mul-difference (pos d) edge.to.x edge.from.x,
      ← mul-difference (pos d) edge.to.y edge.from.y,
      ← mul-difference (pos d) p.x edge.from.x,
      ← mul-difference (pos d) p.y edge.from.y,
    )
    (difference-scaled (pos d) (edge.to.x -ℤ edge.from.x) (p.y -ℤ edge.from.y) (edge.to.y -ℤ edge.from.y)
    (p.x -ℤ edge.from.x))

-- a point is in the half-plane where that holds of all taken several times as large
is_in_half_plane-scaled : (m : ℕ) (edge : Edge) (p : Point)
    → is_in_half_plane (scaled_edge (suc m) edge) (scaled_point (suc m) p) ≡ true → is_in_half_plane edge p ≡ true
is_in_half_plane-scaled m edge p h =
    let n = cross edge p in
    let e = subst (λ z. int_le (pos 0) z ≡ true) (cross-scaled (suc m) edge p) h in
    at_least-test n (sign_kept m n (sign_kept m (pos (suc m) *ℤ n) (at_least _ e)))

list_any-scaled : (f g : Point → Bool) (h : Point → Point) → ((p : Point) → f (h p) ≡ true → g p ≡ true)
    → (xs : List Point) → list_any f (map h xs) ≡ true → list_any g xs ≡ true
list_any-scaled f g h less [] e = e
list_any-scaled f g h less (x ∷ xs) e = elim (or_cases _ _ e) [
  | inl e ↦ or_left _ _ (less x e)
  | inr e ↦ or_right _ _ (list_any-scaled f g h less xs e)
]

-- a box with a fractional point in the half-plane meets it: the corners of the larger box are the larger corners
meets_half_plane-fraction : (m : ℕ) (p : Point) (b : Rect) → inside (rect_at p) (scaled_box (suc m) b) ≡ true
    → (edge : Edge) → is_in_half_plane (scaled_edge (suc m) edge) p ≡ true → meets_half_plane b edge ≡ true
meets_half_plane-fraction m p b h edge e =
    list_any-scaled (is_in_half_plane (scaled_edge (suc m) edge)) (is_in_half_plane edge) (scaled_point (suc m))
    (is_in_half_plane-scaled m edge) (corners b)
    (meets_half_plane-point (scaled_edge (suc m) edge) p (scaled_box (suc m) b) h e)

common : (u a b c d : ℤ) → range_lies_in u u a b ≡ true → range_lies_in u u c d ≡ true → a ≤ℤ d
common u a b c d p q = grind (arith, ints)

meet : (a b c d : ℤ) → a ≤ℤ d → c ≤ℤ b → ranges_meet a b c d ≡ true
meet a b c d p q = grind (arith, ints)

-- two ranges in which a fraction lies meet
ranges_meet-fraction : (m : ℕ) (u a b c d : ℤ)
    → range_lies_in u u (pos (suc m) *ℤ a) (pos (suc m) *ℤ b) ≡ true
    → range_lies_in u u (pos (suc m) *ℤ c) (pos (suc m) *ℤ d) ≡ true → ranges_meet a b c d ≡ true
ranges_meet-fraction m u a b c d p q =
    let times = λ (x : ℤ). pos (suc m) *ℤ x in
    meet a b c d (order_kept m a d (common u (times a) (times b) (times c) (times d) p q))
    (order_kept m c b (common u (times c) (times d) (times a) (times b) q p))

-- and so do two boxes
overlaps-fraction : (m : ℕ) (p : Point) (a b : Rect) → inside (rect_at p) (scaled_box (suc m) a) ≡ true
    → inside (rect_at p) (scaled_box (suc m) b) ≡ true → overlaps a b ≡ true
overlaps-fraction m p a b h k =
    and_from _ _
    (ranges_meet-fraction m p.x a.min_x a.max_x b.min_x b.max_x (inside-on_x _ (scaled_box (suc m) a) h)
    (inside-on_x _ (scaled_box (suc m) b) k))
    (ranges_meet-fraction m p.y a.min_y a.max_y b.min_y b.max_y (inside-on_y _ (scaled_box (suc m) a) h)
    (inside-on_y _ (scaled_box (suc m) b) k))

-- a box that shares a point with the polygon meets it
polygon_meets-fraction : (vertices : List Point) (b : Rect) (p : Point) (d : ℕ)
    → IsCommonPoint vertices b p d → polygon_meets vertices b ≡ true
polygon_meets-fraction vertices b p zero h = absurd (omega (arith, h.fraction))
polygon_meets-fraction vertices b p (suc m) h =
    and_from _ _ (overlaps-fraction m p b (bounding_box vertices) h.in_box h.in_bounding_box)
    (list_all-less (λ edge. is_in_half_plane (scaled_edge (suc m) edge) p) (meets_half_plane b)
    (meets_half_plane-fraction m p b h.in_box) (edges vertices) h.in_half_planes)

-- where the state is NOT, box and polygon share no point
pub polygon-shares_no_point : (vertices : List Point) (i : Info)
    → region_state (Polygon vertices) i ≡ Not → SharesNoPoint vertices i.bounds
polygon-shares_no_point vertices i e p d h =
    let parted = state_by-Not (polygon_meets vertices i.bounds) (polygon_holds vertices i.bounds) e in
    true≢false (sym (polygon_meets-fraction vertices i.bounds p d h) ∙ parted)

-- ---- a box that lies in the polygon

sign_larger : (m : ℕ) (x : ℤ) → pos 0 ≤ℤ x → pos 0 ≤ℤ (pos (suc m) *ℤ x)
sign_larger m (pos n) h = omega (arith, ints)
sign_larger m (negsuc n) h = absurd (omega (arith, ints, h))

order_larger : (m : ℕ) (x y : ℤ) → x ≤ℤ y → (pos (suc m) *ℤ x) ≤ℤ (pos (suc m) *ℤ y)
order_larger m x y h =
    let d = sign_larger m (y -ℤ x) (omega (arith, ints, h)) in
    let e = mul-difference (pos (suc m)) y x in
    omega (arith, ints, d, e)

pub at_most : (m n : ℤ) → int_le m n ≡ true → m ≤ℤ n
at_most m n h = grind (arith, ints)

pub at_most-test : (m n : ℤ) → m ≤ℤ n → int_le m n ≡ true
at_most-test m n h = grind (arith, ints)

range-larger : (m : ℕ) (a b c d : ℤ) → range_lies_in a b c d ≡ true
    → range_lies_in (pos (suc m) *ℤ a) (pos (suc m) *ℤ b) (pos (suc m) *ℤ c) (pos (suc m) *ℤ d) ≡ true
range-larger m a b c d h =
    let parts = and_parts _ _ h in
    and_from _ _ (at_most-test _ _ (order_larger m c a (at_most c a parts.0)))
    (at_most-test _ _ (order_larger m b d (at_most b d parts.1)))

inside-larger : (m : ℕ) (a b : Rect) → inside a b ≡ true → inside (scaled_box (suc m) a) (scaled_box (suc m) b) ≡ true
inside-larger m a b h =
    and_from _ _ (range-larger m a.min_x a.max_x b.min_x b.max_x (inside-on_x a b h))
    (range-larger m a.min_y a.max_y b.min_y b.max_y (inside-on_y a b h))

is_in_half_plane-larger : (m : ℕ) (edge : Edge) (p : Point)
    → is_in_half_plane edge p ≡ true → is_in_half_plane (scaled_edge (suc m) edge) (scaled_point (suc m) p) ≡ true
is_in_half_plane-larger m edge p h =
    let n = cross edge p in
    subst (λ z. int_le (pos 0) z ≡ true) (sym (cross-scaled (suc m) edge p))
    (at_least-test _ (sign_larger m (pos (suc m) *ℤ n) (sign_larger m n (at_least n h))))

list_all-larger : (f g : Point → Bool) (h : Point → Point) → ((p : Point) → f p ≡ true → g (h p) ≡ true)
    → (xs : List Point) → list_all f xs ≡ true → list_all g (map h xs) ≡ true
list_all-larger f g h more [] e = refl
list_all-larger f g h more (x ∷ xs) e =
    let parts = and_parts _ _ e in and_from _ _ (more x parts.0) (list_all-larger f g h more xs parts.1)

-- a fractional point of a box that lies in the half-plane is in it
lies_in_half_plane-fraction : (m : ℕ) (p : Point) (b : Rect) → inside (rect_at p) (scaled_box (suc m) b) ≡ true
    → (edge : Edge) → lies_in_half_plane b edge ≡ true → is_in_half_plane (scaled_edge (suc m) edge) p ≡ true
lies_in_half_plane-fraction m p b h edge e =
    lies_in_half_plane-point (scaled_edge (suc m) edge) p (scaled_box (suc m) b) h
    (list_all-larger (is_in_half_plane edge) (is_in_half_plane (scaled_edge (suc m) edge)) (scaled_point (suc m))
    (is_in_half_plane-larger m edge) (corners b) e)

polygon_holds-fraction : (vertices : List Point) (b : Rect) → polygon_holds vertices b ≡ true → HoldsEachPoint vertices b
polygon_holds-fraction vertices b e p zero some h = absurd (omega (arith, some))
polygon_holds-fraction vertices b e p (suc m) some h =
    let parts = and_parts _ _ e in
    record {
      fraction = some;
      in_box = h;
      in_bounding_box = inside-trans (rect_at p) (scaled_box (suc m) b) (scaled_box (suc m) (bounding_box vertices)) h
          (inside-larger m b (bounding_box vertices) parts.0);
      in_half_planes = list_all-less (lies_in_half_plane b) (λ edge. is_in_half_plane (scaled_edge (suc m) edge) p)
          (lies_in_half_plane-fraction m p b h) (edges vertices) parts.1;
    }

-- where the state is FULLY, each point of the box lies in the polygon
pub polygon-holds_each_point : (vertices : List Point) (i : Info)
    → region_state (Polygon vertices) i ≡ Fully → HoldsEachPoint vertices i.bounds
polygon-holds_each_point vertices i e =
    polygon_holds-fraction vertices i.bounds
    (state_by-Fully (not (polygon_meets vertices i.bounds)) (polygon_holds vertices i.bounds) e)
