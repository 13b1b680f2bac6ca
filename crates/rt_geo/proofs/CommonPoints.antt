-- A box that passes the tests of a polygon shares a point with it, perhaps one in fractions.
use Rattle.std.specs.Int.{int_max, int_min}
use Rattle.std.specs.List.{AllByRecursion, fold, list_all}
use Rattle.std.specs.Prelude.{◌*ℤ◌, ◌-ℤ◌, neg_ℤ, not}
use Rattle.std.proofs.Common.{◌≡◌, ◌≢◌, ◌∙◌, ◌⊎◌, ◌<◌, ◌≤◌, ap, sym, refl, subst, arith, inl, inr, ℕ, zero, suc, Bool, true, false}
use Rattle.std.proofs.Common.{ℤ, pos, negsuc, ◌≤ℤ◌, List, [], ◌∷◌, ◌++◌, get_or, length, map}
use Rattle.std.proofs.Math.IntN.{*ℤ_comm}
use Rattle.std.proofs.lemmas.Bool.{and_from, and_parts}
use Rattle.std.proofs.lemmas.Int.{ints}
use Rattle.rt_geo.specs.Boxes.{Rect, IsRect, hull, inside}
use Rattle.rt_geo.specs.Distances.{rect_at}
use Rattle.rt_geo.specs.Lemmas.Boxes.{inside-hull_left, inside-hull_right, inside-same, inside-trans}
use Rattle.rt_geo.specs.Lemmas.HalfPlanes.{corner, corner-inside, some_point}
use Rattle.rt_geo.specs.Lemmas.Polygons.{at_most, at_most-test}
use Rattle.rt_geo.specs.Lemmas.Products.{mul-difference, mul_assoc}
use Rattle.rt_geo.specs.Polygons.{SharesPoint, bounding_box, cross, edges, has_polygon_count, is_in_half_plane}
use Rattle.rt_geo.specs.Polygons.{is_strictly_convex, meets_half_plane, point_at, polygon_holds, polygon_meets}
use Rattle.rt_geo.specs.Polygons.{scaled_box, scaled_edge}
use Rattle.rt_geo.specs.Regions.{region_state, state_by}
use Rattle.rt_geo.specs.declared.distance.Point.{Point}
use Rattle.rt_geo.specs.declared.geometry.Info.{Info}
use Rattle.rt_geo.specs.declared.geometry.Within.TheVariants.{Not}
use Rattle.rt_geo.specs.declared.polygon.Edge.{Edge}
use Rattle.rt_geo.specs.declared.region.Region.TheVariants.{Polygon}
use Rattle.rt_geo.proofs.Convexity.{vertex_in_half_planes}
use Rattle.rt_geo.proofs.HalfPlanes.{some_vertex}
use Rattle.rt_geo.proofs.Helly.{Among, IsIn, IsShared, Vector, all_at, dot, helly, negated, product_low}

-- ---- the half-planes of the sides of a box, and of an edge

abbrev sides_of : Rect → List Vector
sides_of b =
    record { x = pos 1; y = pos 0; w = neg_ℤ b.min_x } ∷ record { x = negsuc 0; y = pos 0; w = b.max_x }
    ∷ record { x = pos 0; y = pos 1; w = neg_ℤ b.min_y } ∷ record { x = pos 0; y = negsuc 0; w = b.max_y } ∷ []

-- a point, and one in fractions
abbrev at : Point → Vector
at p = record { x = p.x; y = p.y; w = pos 1 }

abbrev fraction : (x y : ℤ) → ℕ → Vector
fraction x y d = record { x = x; y = y; w = pos d }

in_sides : (b : Rect) (p : Vector) → (p.w *ℤ b.min_x) ≤ℤ p.x → p.x ≤ℤ (p.w *ℤ b.max_x)
    → (p.w *ℤ b.min_y) ≤ℤ p.y → p.y ≤ℤ (p.w *ℤ b.max_y) → AllByRecursion (IsIn p) (sides_of b)
in_sides b p low_x high_x low_y high_y = (
  omega (arith, ints, low_x, negated b.min_x p.w),
  (
    omega (arith, ints, high_x, *ℤ_comm b.max_x p.w),
    (omega (arith, ints, low_y, negated b.min_y p.w), (omega (arith, ints, high_y, *ℤ_comm b.max_y p.w), tt)),
  ),
)

one_times : (z : ℤ) → pos 1 *ℤ z ≡ z
one_times z = omega (arith, ints)

point_in_sides : (b : Rect) (p : Point) → inside (rect_at p) b ≡ true → AllByRecursion (IsIn (at p)) (sides_of b)
point_in_sides b p h =
    let axes = and_parts _ _ h in
    let on_x = and_parts _ _ axes.0 in
    let on_y = and_parts _ _ axes.1 in
    let low_x = at_most b.min_x p.x on_x.0 in
    let high_x = at_most p.x b.max_x on_x.1 in
    let low_y = at_most b.min_y p.y on_y.0 in
    let high_y = at_most p.y b.max_y on_y.1 in
    in_sides b (at p) (omega (arith, ints, low_x)) (omega (arith, ints, high_x)) (omega (arith, ints, low_y))
    (omega (arith, ints, high_y))

fraction_in_box : (b : Rect) (x y : ℤ) (d : ℕ) → AllByRecursion (IsIn (fraction x y d)) (sides_of b)
    → inside (rect_at (point_at x y)) (scaled_box d b) ≡ true
fraction_in_box b x y d h =
    let low_x : (pos d *ℤ b.min_x) ≤ℤ x = omega (arith, ints, h.0, negated b.min_x (pos d)) in
    let high_x : x ≤ℤ (pos d *ℤ b.max_x) = omega (arith, ints, h.1.0, *ℤ_comm b.max_x (pos d)) in
    let low_y : (pos d *ℤ b.min_y) ≤ℤ y = omega (arith, ints, h.1.1.0, negated b.min_y (pos d)) in
    let high_y : y ≤ℤ (pos d *ℤ b.max_y) = omega (arith, ints, h.1.1.1.0, *ℤ_comm b.max_y (pos d)) in
    and_from _ _ (and_from _ _ (at_most-test _ _ low_x) (at_most-test _ _ high_x))
    (and_from _ _ (at_most-test _ _ low_y) (at_most-test _ _ high_y))

abbrev form_of : Edge → Vector
form_of edge = record {
  x = edge.from.y -ℤ edge.to.y;
  y = edge.to.x -ℤ edge.from.x;
  w = (edge.to.y -ℤ edge.from.y) *ℤ edge.from.x -ℤ (edge.to.x -ℤ edge.from.x) *ℤ edge.from.y;
}

from_there : (a f z w : ℤ) → a *ℤ (z -ℤ w *ℤ f) ≡ a *ℤ z -ℤ w *ℤ (a *ℤ f)
from_there a f z w =
    mul-difference a z (w *ℤ f)
    ∙ ap (λ t. a *ℤ z -ℤ t) (sym (mul_assoc a w f) ∙ ap (λ t. t *ℤ f) (*ℤ_comm a w) ∙ mul_assoc w a f)

dot-form : (edge : Edge) (p : Vector) → dot (form_of edge) p
    ≡ (edge.to.x -ℤ edge.from.x) *ℤ (p.y -ℤ p.w *ℤ edge.from.y)
    -ℤ (edge.to.y -ℤ edge.from.y) *ℤ (p.x -ℤ p.w *ℤ edge.from.x)
dot-form edge p =
    let along_x = edge.to.x -ℤ edge.from.x in
    let along_y = edge.to.y -ℤ edge.from.y in
    let back = *ℤ_comm (edge.from.y -ℤ edge.to.y) p.x ∙ mul-difference p.x edge.from.y edge.to.y in
    let forth = *ℤ_comm along_y p.x ∙ mul-difference p.x edge.to.y edge.from.y in
    let base = *ℤ_comm (along_y *ℤ edge.from.x -ℤ along_x *ℤ edge.from.y) p.w
    ∙ mul-difference p.w (along_y *ℤ edge.from.x) (along_x *ℤ edge.from.y) in
    omega (arith, ints, from_there along_x edge.from.y p.y p.w, from_there along_y edge.from.x p.x p.w, back, forth, base)

point_in_form : (edge : Edge) (p : Point) → is_in_half_plane edge p ≡ true → IsIn (at p) (form_of edge)
point_in_form edge p h =
    let same : dot (form_of edge) (at p) ≡ cross edge p =
    dot-form edge (at p) ∙ rw (one_times edge.from.x, one_times edge.from.y) refl in
    subst (λ z. pos 0 ≤ℤ z) (sym same) (at_most _ _ h)

fraction_in_half_plane : (x y : ℤ) (d : ℕ) (edge : Edge) → IsIn (fraction x y d) (form_of edge)
    → is_in_half_plane (scaled_edge d edge) (point_at x y) ≡ true
fraction_in_half_plane x y d edge h =
    let along_x = edge.to.x -ℤ edge.from.x in
    let along_y = edge.to.y -ℤ edge.from.y in
    let u = y -ℤ pos d *ℤ edge.from.y in
    let v = x -ℤ pos d *ℤ edge.from.x in
    let same : cross (scaled_edge d edge) (point_at x y) ≡ pos d *ℤ dot (form_of edge) (fraction x y d) =
    rw (← mul-difference (pos d) edge.to.x edge.from.x, ← mul-difference (pos d) edge.to.y edge.from.y)
    (ap (λ t. t -ℤ (pos d *ℤ along_y) *ℤ v) (mul_assoc (pos d) along_x u)
    ∙ ap (λ t. pos d *ℤ (along_x *ℤ u) -ℤ t) (mul_assoc (pos d) along_y v)
    ∙ sym (mul-difference (pos d) (along_x *ℤ u) (along_y *ℤ v))
    ∙ ap (λ t. pos d *ℤ t) (sym (dot-form edge (fraction x y d)))) in
    at_most-test _ _ (subst (λ z. pos 0 ≤ℤ z) (sym same) (product_low (pos d) _ (omega (arith, ints)) h))

-- what each of some edges passes, their half-planes have
forms_from : (P : Vector → Type 0) (f : Edge → Bool) → ((edge : Edge) → f edge ≡ true → P (form_of edge))
    → (es : List Edge) → list_all f es ≡ true → AllByRecursion P (map form_of es)
forms_from P f each [] h = tt
forms_from P f each (e ∷ es) h =
    let parts = and_parts _ _ h in (each e parts.0, forms_from P f each es parts.1)

forms_to : (P : Vector → Type 0) (f : Edge → Bool) → ((edge : Edge) → P (form_of edge) → f edge ≡ true)
    → (es : List Edge) → AllByRecursion P (map form_of es) → list_all f es ≡ true
forms_to P f each [] h = refl
forms_to P f each (e ∷ es) h = and_from _ _ (each e h.0) (forms_to P f each es h.1)

-- ---- the vertices

abbrev around : Rect → List Point → Rect
around box points = fold (λ box vertex. hull box (rect_at vertex)) box points

inside-around : (box : Rect) (points : List Point) → inside box (around box points) ≡ true
inside-around box [] = inside-same box
inside-around box (p ∷ points) =
    let next = hull box (rect_at p) in
    inside-trans box next (around next points) (inside-hull_left box (rect_at p)) (inside-around next points)

point-around : (box : Rect) (points : List Point) (i : ℕ) (d : Point) → i < length points
    → inside (rect_at (get_or points i d)) (around box points) ≡ true
point-around box [] i d h = absurd (omega (arith, h))
point-around box (q ∷ points) zero d h =
    let next = hull box (rect_at q) in
    inside-trans (rect_at q) next (around next points) (inside-hull_right box (rect_at q)) (inside-around next points)
point-around box (q ∷ points) (suc i) d h = point-around (hull box (rect_at q)) points i d (omega (arith, h))

vertex_in_bounds : (vertices : List Point) (i : ℕ) (d : Point) → i < length vertices
    → inside (rect_at (get_or vertices i d)) (bounding_box vertices) ≡ true
vertex_in_bounds [] i d h = absurd (omega (arith, h))
vertex_in_bounds (first ∷ others) zero d h = inside-around (rect_at first) others
vertex_in_bounds (first ∷ others) (suc i) d h = point-around (rect_at first) others i d (omega (arith, h))

-- on each side of the bounding box is a vertex
abbrev IsOfOne : (side : Rect → ℤ) → Type 0
IsOfOne side = (a b : Rect) → (side (hull a b) ≡ side a) ⊎ (side (hull a b) ≡ side b)

-- the place of a point on this side of a box
abbrev PlaceOn : (side : Rect → ℤ) → Rect → List Point → Point → Type 0
PlaceOn side box points d = (i : ℕ) × ((i < length points) × (side box ≡ side (rect_at (get_or points i d))))

reached_by : (side : Rect → ℤ) → IsOfOne side → (box : Rect) (points : List Point) (d : Point)
    → (side (around box points) ≡ side box) ⊎ PlaceOn side (around box points) points d
reached_by side one box [] d = inl refl
reached_by side one box (q ∷ points) d = elim (reached_by side one (hull box (rect_at q)) points d) [
  | inl e ↦ elim (one box (rect_at q)) [
    | inl f ↦ inl (e ∙ f)
    | inr f ↦ inr (0, (omega arith, e ∙ f))
  ]
  | inr found ↦ inr (suc found.0, (omega (arith, found.1.0), found.1.1))
]

vertex_on : (side : Rect → ℤ) → IsOfOne side → (vertices : List Point) (d : Point) → 1 ≤ length vertices
    → PlaceOn side (bounding_box vertices) vertices d
vertex_on side one [] d some = absurd (omega (arith, some))
vertex_on side one (first ∷ others) d some = elim (reached_by side one (rect_at first) others d) [
  | inl e ↦ (0, (omega arith, e))
  | inr found ↦ (suc found.0, (omega (arith, found.1.0), found.1.1))
]

min_of_one : (m n : ℤ) → (int_min m n ≡ m) ⊎ (int_min m n ≡ n)
min_of_one m n = grind (arith, ints)

max_of_one : (m n : ℤ) → (int_max m n ≡ m) ⊎ (int_max m n ≡ n)
max_of_one m n = grind (arith, ints)

-- ---- two families of half-planes

all_append : (P : Vector → Type 0) (xs ys : List Vector) → AllByRecursion P xs → AllByRecursion P ys
    → AllByRecursion P (xs ++ ys)
all_append P [] ys h k = k
all_append P (x ∷ xs) ys h k = (h.0, all_append P xs ys h.1 k)

all_parts : (P : Vector → Type 0) (xs ys : List Vector) → AllByRecursion P (xs ++ ys)
    → AllByRecursion P xs × AllByRecursion P ys
all_parts P [] ys h = (tt, h)
all_parts P (x ∷ xs) ys h = let parts = all_parts P xs ys h.1 in ((h.0, parts.0), parts.1)

either : (xs ys : List Vector) (x : Vector) → Among (xs ++ ys) x → Among xs x ⊎ Among ys x
either [] ys x h = inr h
either (z ∷ xs) ys x (inl e) = inl (inl e)
either (z ∷ xs) ys x (inr h) = elim (either xs ys x h) [
  | inl i ↦ inl (inr i)
  | inr j ↦ inr j
]

-- a half-plane has a point of a family
abbrev Reaches : List Vector → Vector → Type 0
Reaches fs f = (p : Vector) × IsShared (f ∷ fs) p

-- where each half-plane of one family has a point of the other family, all of both share a point: of every three two are
-- of one family
module _ (xs ys : List Vector) (of_xs : (p : Vector) × IsShared xs p) (of_ys : (p : Vector) × IsShared ys p)
    (to_xs : AllByRecursion (Reaches xs) ys) (to_ys : AllByRecursion (Reaches ys) xs) where
  three_of : (fs : List Vector) (p : Vector) (f g h : Vector) → IsShared fs p → Among fs f → Among fs g → Among fs h
      → (p : Vector) × IsShared (f ∷ g ∷ h ∷ []) p
  three_of fs p f g h s i j k =
      let member = λ (v : Vector) (m : Among fs v). all_at (IsIn p) fs v s.1 m in
      (p, (s.0, (member f i, (member g j, (member h k, tt)))))

  by_ys : (f : Vector) → Among ys f → Reaches xs f
  by_ys f i = all_at (Reaches xs) ys f to_xs i

  by_xs : (f : Vector) → Among xs f → Reaches ys f
  by_xs f i = all_at (Reaches ys) xs f to_ys i

  triples : (f g h : Vector) → Among xs f ⊎ Among ys f → Among xs g ⊎ Among ys g → Among xs h ⊎ Among ys h
      → (p : Vector) × IsShared (f ∷ g ∷ h ∷ []) p
  triples f g h (inl i) (inl j) (inl k) = three_of xs of_xs.0 f g h of_xs.1 i j k
  triples f g h (inr i) (inl j) (inl k) = let r = by_ys f i in three_of (f ∷ xs) r.0 f g h r.1 (inl refl) (inr j) (inr k)
  triples f g h (inl i) (inr j) (inl k) = let r = by_ys g j in three_of (g ∷ xs) r.0 f g h r.1 (inr i) (inl refl) (inr k)
  triples f g h (inl i) (inl j) (inr k) = let r = by_ys h k in three_of (h ∷ xs) r.0 f g h r.1 (inr i) (inr j) (inl refl)
  triples f g h (inl i) (inr j) (inr k) = let r = by_xs f i in three_of (f ∷ ys) r.0 f g h r.1 (inl refl) (inr j) (inr k)
  triples f g h (inr i) (inl j) (inr k) = let r = by_xs g j in three_of (g ∷ ys) r.0 f g h r.1 (inr i) (inl refl) (inr k)
  triples f g h (inr i) (inr j) (inl k) = let r = by_xs h k in three_of (h ∷ ys) r.0 f g h r.1 (inr i) (inr j) (inl refl)
  triples f g h (inr i) (inr j) (inr k) = three_of ys of_ys.0 f g h of_ys.1 i j k

  both_share : (p : Vector) × IsShared (xs ++ ys) p
  both_share = helly (xs ++ ys) (λ f g h i j k. triples f g h (either xs ys f i) (either xs ys g j) (either xs ys h k))

-- ---- the polygon and the box

as_natural : (w : ℤ) → pos 1 ≤ℤ w → (d : ℕ) × ((0 < d) × (w ≡ pos d))
as_natural (pos n) h = (n, (omega (arith, ints, h), refl))
as_natural (negsuc n) h = absurd (omega (arith, ints, h))

module _ (vertices : List Point) (some : 1 ≤ length vertices) (convex : is_strictly_convex vertices ≡ true)
    (b : Rect) (box : IsRect b) (meets : polygon_meets vertices b ≡ true) where
  abbrev bounds : Rect
  bounds = bounding_box vertices

  abbrev forms : List Vector
  forms = map form_of (edges vertices)

  abbrev of_polygon : List Vector
  of_polygon = sides_of bounds ++ forms

  -- a vertex on a side of the bounding box is in all half-planes of the polygon
  vertex : (side : Rect → ℤ) → IsOfOne side
      → (p : Point) × ((side bounds ≡ side (rect_at p)) × IsShared of_polygon (at p))
  vertex side one =
      let d = point_at (pos 0) (pos 0) in
      let place = vertex_on side one vertices d some in
      let p = get_or vertices place.0 d in (
        p,
        (
          place.1.1,
          (
            omega (arith, ints),
            all_append (IsIn (at p)) (sides_of bounds) forms
                (point_in_sides bounds p (vertex_in_bounds vertices place.0 d place.1.0))
                (forms_from (IsIn (at p)) (λ edge. is_in_half_plane edge p) (λ edge. point_in_form edge p) (edges vertices)
                (vertex_in_half_planes vertices place.0 d convex place.1.0)),
          ),
        ),
      )

  -- and a point of the box in all of its own
  point : (p : Point) → inside (rect_at p) b ≡ true → (f : Vector) → IsIn (at p) f → Reaches (sides_of b) f
  point p h f f_in = (at p, (omega (arith, ints), (f_in, point_in_sides b p h)))

  axes : (b.min_x ≤ℤ bounds.max_x)
      × ((bounds.min_x ≤ℤ b.max_x) × ((b.min_y ≤ℤ bounds.max_y) × (bounds.min_y ≤ℤ b.max_y)))
  axes =
      let both = and_parts _ _ (and_parts _ _ meets).0 in
      let on_x = and_parts _ _ both.0 in
      let on_y = and_parts _ _ both.1 in
      (at_most _ _ on_x.0, (at_most _ _ on_x.1, (at_most _ _ on_y.0, at_most _ _ on_y.1)))

  -- for each side of the box a vertex
  to_polygon : AllByRecursion (Reaches of_polygon) (sides_of b)
  to_polygon =
      let low_x = vertex (λ b. b.max_x) (λ a c. max_of_one a.max_x c.max_x) in
      let high_x = vertex (λ b. b.min_x) (λ a c. min_of_one a.min_x c.min_x) in
      let low_y = vertex (λ b. b.max_y) (λ a c. max_of_one a.max_y c.max_y) in
      let high_y = vertex (λ b. b.min_y) (λ a c. min_of_one a.min_y c.min_y) in (
        (at low_x.0, (low_x.1.1.0, (omega (arith, ints, axes.0, low_x.1.0), low_x.1.1.1))),
        (
          (at high_x.0, (high_x.1.1.0, (omega (arith, ints, axes.1.0, high_x.1.0), high_x.1.1.1))),
          (
            (at low_y.0, (low_y.1.1.0, (omega (arith, ints, axes.1.1.0, low_y.1.0), low_y.1.1.1))),
            (
              (at high_y.0, (high_y.1.1.0, (omega (arith, ints, axes.1.1.1, high_y.1.0), high_y.1.1.1))),
              tt,
            ),
          ),
        ),
      )

  -- for each side of the bounding box a corner, and for each edge one
  to_box : AllByRecursion (Reaches (sides_of b)) of_polygon
  to_box =
      let high = point (corner true false b) (corner-inside true false b box) in
      let low = point (corner false true b) (corner-inside false true b box) in
      all_append (Reaches (sides_of b)) (sides_of bounds) forms (
        high (record { x = pos 1; y = pos 0; w = neg_ℤ bounds.min_x }) (omega (arith, ints, axes.1.0)),
        (
          low (record { x = negsuc 0; y = pos 0; w = bounds.max_x }) (omega (arith, ints, axes.0)),
          (
            high (record { x = pos 0; y = pos 1; w = neg_ℤ bounds.min_y }) (omega (arith, ints, axes.1.1.1)),
            (low (record { x = pos 0; y = negsuc 0; w = bounds.max_y }) (omega (arith, ints, axes.1.1.0)), tt),
          ),
        ),
      )
      (forms_from (Reaches (sides_of b)) (meets_half_plane b) (λ edge h.
      let found = some_point (is_in_half_plane edge) b box h in
      point found.0 found.1.0 (form_of edge) (point_in_form edge found.0 found.1.1)) (edges vertices) (and_parts _ _ meets).1)

  -- so they share a point
  pub meets-shares : SharesPoint vertices b
  meets-shares =
      let of_polygon_itself = vertex (λ b. b.max_x) (λ a c. max_of_one a.max_x c.max_x) in
      let of_box = corner true false b in
      let found = both_share of_polygon (sides_of b) (at of_polygon_itself.0, of_polygon_itself.1.1)
      (at of_box, (omega (arith, ints), point_in_sides b of_box (corner-inside true false b box))) to_polygon to_box in
      let p = found.0 in
      let n = as_natural p.w found.1.0 in
      let d = n.0 in
      let q = fraction p.x p.y d in
      let all : AllByRecursion (IsIn q) (of_polygon ++ sides_of b) =
      subst (λ w. AllByRecursion (IsIn (record { x = p.x; y = p.y; w = w })) (of_polygon ++ sides_of b)) n.1.1 found.1.1 in
      let parts = all_parts (IsIn q) of_polygon (sides_of b) all in
      let polygon = all_parts (IsIn q) (sides_of bounds) forms parts.0 in (
        point_at p.x p.y,
        (
          d,
          record {
            fraction = n.1.0;
            in_box = fraction_in_box b p.x p.y d parts.1;
            in_bounding_box = fraction_in_box bounds p.x p.y d polygon.0;
            in_half_planes = forms_to (IsIn q) (λ edge. is_in_half_plane (scaled_edge d edge) (point_at p.x p.y))
                (fraction_in_half_plane p.x p.y d) (edges vertices) polygon.1;
          },
        ),
      )

kept_meets : (m f : Bool) → state_by (not m) f ≢ Not → m ≡ true
kept_meets true f kept = refl
kept_meets false f kept = absurd (kept refl)

-- where the state isn't NOT, box and polygon share a point
pub polygon-shares_point : (vertices : List Point) (i : Info) → has_polygon_count vertices ≡ true
    → is_strictly_convex vertices ≡ true → IsRect i.bounds → region_state (Polygon vertices) i ≢ Not
    → SharesPoint vertices i.bounds
polygon-shares_point vertices i count convex box kept =
    meets-shares vertices (some_vertex vertices count) convex i.bounds box
    (kept_meets (polygon_meets vertices i.bounds) (polygon_holds vertices i.bounds) kept)
