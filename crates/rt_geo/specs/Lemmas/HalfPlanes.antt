-- A box and the half-plane of an edge: one corner decides whether they meet, the opposite one whether the box lies in
-- the half-plane.
use Rattle.std.specs.List.{list_all, list_any}
use Rattle.std.specs.Prelude.{int_le, int_lt, if◌then◌else◌, not, ◌-ℤ◌}
use Rattle.std.proofs.Common.{◌≡◌, sym, refl, arith, inl, inr, Bool, true, false, ℤ, pos, ◌≤ℤ◌}
use Rattle.std.proofs.lemmas.Bool.{true≢false, and_from, or_cases}
use Rattle.std.proofs.lemmas.Bool.Decides.{same_from_decides}
use Rattle.std.proofs.lemmas.Int.{ints}
use Rattle.rt_geo.specs.Boxes.{Rect, IsRect, inside}
use Rattle.rt_geo.specs.Distances.{rect_at}
use Rattle.rt_geo.specs.Lemmas.Products.{greatest_product, least_product}
use Rattle.rt_geo.specs.Polygons.{corners, cross, is_in_half_plane, lies_in_half_plane, meets_half_plane, point_at}
use Rattle.rt_geo.specs.declared.distance.Point.{Point}
use Rattle.rt_geo.specs.declared.polygon.Edge.{Edge}

-- ---- corners

-- the corner of a box at the right or the left, and low or high
abbrev pub corner : (right low : Bool) → Rect → Point
corner right low b = point_at (if right then b.max_x else b.min_x) (if low then b.min_y else b.max_y)

-- each corner is a point of its box
record AreInside (b : Rect) : Type 0 where
  low_left : inside (rect_at (point_at b.min_x b.min_y)) b ≡ true
  low_right : inside (rect_at (point_at b.max_x b.min_y)) b ≡ true
  high_left : inside (rect_at (point_at b.min_x b.max_y)) b ≡ true
  high_right : inside (rect_at (point_at b.max_x b.max_y)) b ≡ true

corners-inside : (b : Rect) → IsRect b → AreInside b
corners-inside b v = record {
  low_left = grind (arith, ints);
  low_right = grind (arith, ints);
  high_left = grind (arith, ints);
  high_right = grind (arith, ints);
}

pub corner-inside : (right low : Bool) (b : Rect) → IsRect b → inside (rect_at (corner right low b)) b ≡ true
corner-inside true true b v = (corners-inside b v).low_right
corner-inside true false b v = (corners-inside b v).high_right
corner-inside false true b v = (corners-inside b v).low_left
corner-inside false false b v = (corners-inside b v).high_left

-- a test that a corner passes, some corner passes
some_corner : (f : Point → Bool) (right low : Bool) (b : Rect)
    → f (corner right low b) ≡ true → list_any f (corners b) ≡ true
some_corner f true true b e = grind arith
some_corner f true false b e = grind arith
some_corner f false true b e = grind arith
some_corner f false false b e = grind arith

-- a test that each corner passes, a corner passes
corner_of_all : (f : Point → Bool) (right low : Bool) (b : Rect)
    → list_all f (corners b) ≡ true → f (corner right low b) ≡ true
corner_of_all f true true b h = grind arith
corner_of_all f true false b h = grind arith
corner_of_all f false true b h = grind arith
corner_of_all f false false b h = grind arith

-- a test that some corner passes, some point of the box passes
pub some_point : (f : Point → Bool) (b : Rect) → IsRect b → list_any f (corners b) ≡ true
    → (p : Point) × ((inside (rect_at p) b ≡ true) × (f p ≡ true))
some_point f b v h =
    let are = corners-inside b v in
    elim (or_cases _ _ h) [
      | inl e ↦ (point_at b.min_x b.min_y, (are.low_left, e))
      | inr h ↦ elim (or_cases _ _ h) [
        | inl e ↦ (point_at b.max_x b.min_y, (are.low_right, e))
        | inr h ↦ elim (or_cases _ _ h) [
          | inl e ↦ (point_at b.min_x b.max_y, (are.high_left, e))
          | inr h ↦ elim (or_cases _ _ h) [
            | inl e ↦ (point_at b.max_x b.max_y, (are.high_right, e))
            | inr e ↦ absurd (true≢false (sym e))
          ]
        ]
      ]
    ]

-- a test that each point of the box passes, each corner passes
each_corner : (f : Point → Bool) (b : Rect) → IsRect b
    → ((p : Point) → inside (rect_at p) b ≡ true → f p ≡ true) → list_all f (corners b) ≡ true
each_corner f b v h =
    let are = corners-inside b v in
    and_from _ _ (h _ are.low_left)
    (and_from _ _ (h _ are.low_right) (and_from _ _ (h _ are.high_left) (and_from _ _ (h _ are.high_right) refl)))

-- ---- the corners that lie farthest to the left and to the right of an edge

-- to the left of an edge that leads up lies what has a low x, to the left of one that leads right what has a high y
abbrev pub leftmost_corner : Edge → Rect → Point
leftmost_corner edge = corner (int_lt edge.to.y edge.from.y) (int_lt edge.to.x edge.from.x)

-- the opposite corner
abbrev pub rightmost_corner : Edge → Rect → Point
rightmost_corner edge = corner (int_le edge.from.y edge.to.y) (int_le edge.from.x edge.to.x)

int_le-not_lt : (m n : ℤ) → int_le n m ≡ not (int_lt m n)
int_le-not_lt m n = grind (arith, ints)

if-not : {X : Type 0} (t : Bool) (x y : X) → (if t then x else y) ≡ (if not t then y else x)
if-not true x y = refl
if-not false x y = refl

pub opposite : {X : Type 0} (m n : ℤ) (x y : X) → (if int_lt m n then x else y) ≡ (if int_le n m then y else x)
opposite m n x y = rw (int_le-not_lt m n) (if-not (int_lt m n) x y)

-- how a point of a box lies to its sides
record IsBetween (p : Point) (b : Rect) : Type 0 where
  left : b.min_x ≤ℤ p.x
  right : p.x ≤ℤ b.max_x
  below : b.min_y ≤ℤ p.y
  above : p.y ≤ℤ b.max_y

between : (p : Point) (b : Rect) → inside (rect_at p) b ≡ true → IsBetween p b
between p b h = record {
  left = grind (arith, ints);
  right = grind (arith, ints);
  below = grind (arith, ints);
  above = grind (arith, ints);
}

-- a difference grows with its first part and falls with its second
difference-le : (m n m' n' : ℤ) → m ≤ℤ m' → n' ≤ℤ n → (m -ℤ n) ≤ℤ (m' -ℤ n')
difference-le m n m' n' p q = omega (arith, ints)

-- no point of a box lies farther to the left
cross-leftmost : (edge : Edge) (p : Point) (b : Rect)
    → inside (rect_at p) b ≡ true → cross edge p ≤ℤ cross edge (leftmost_corner edge b)
cross-leftmost edge p b h =
    let lies = between p b h in
    difference-le _ _ _ _
    (greatest_product edge.to.x edge.from.x edge.from.y p.y b.min_y b.max_y lies.below lies.above)
    (least_product edge.to.y edge.from.y edge.from.x p.x b.min_x b.max_x lies.left lies.right)

-- and none farther to the right
cross-rightmost : (edge : Edge) (p : Point) (b : Rect)
    → inside (rect_at p) b ≡ true → cross edge (rightmost_corner edge b) ≤ℤ cross edge p
cross-rightmost edge p b h =
    let lies = between p b h in
    let least = least_product edge.to.x edge.from.x edge.from.y p.y b.min_y b.max_y lies.below lies.above in
    let greatest = greatest_product edge.to.y edge.from.y edge.from.x p.x b.min_x b.max_x lies.left lies.right in
    difference-le _ _ _ _ (rw (opposite edge.to.x edge.from.x) at least)
    (rw (opposite edge.to.y edge.from.y) at greatest)

-- ---- half-planes

at_least-more : (m n : ℤ) → m ≤ℤ n → int_le (pos 0) m ≡ true → int_le (pos 0) n ≡ true
at_least-more m n h e = grind (arith, ints)

-- what lies farther to the left than a point of the half-plane is in it too
is_in_half_plane-more : (edge : Edge) (p q : Point)
    → cross edge p ≤ℤ cross edge q → is_in_half_plane edge p ≡ true → is_in_half_plane edge q ≡ true
is_in_half_plane-more edge p q = at_least-more (cross edge p) (cross edge q)

-- a box with a point in the half-plane meets it
pub meets_half_plane-point : (edge : Edge) (p : Point) (b : Rect)
    → inside (rect_at p) b ≡ true → is_in_half_plane edge p ≡ true → meets_half_plane b edge ≡ true
meets_half_plane-point edge p b h e =
    some_corner (is_in_half_plane edge) _ _ b
    (is_in_half_plane-more edge p (leftmost_corner edge b) (cross-leftmost edge p b h) e)

-- each point of a box that lies in the half-plane is in it
pub lies_in_half_plane-point : (edge : Edge) (p : Point) (b : Rect)
    → inside (rect_at p) b ≡ true → lies_in_half_plane b edge ≡ true → is_in_half_plane edge p ≡ true
lies_in_half_plane-point edge p b h e =
    is_in_half_plane-more edge (rightmost_corner edge b) p (cross-rightmost edge p b h)
    (corner_of_all (is_in_half_plane edge) _ _ b e)

-- so one corner tells whether the box meets the half-plane
pub meets_half_plane-leftmost : (edge : Edge) (b : Rect)
    → IsRect b → is_in_half_plane edge (leftmost_corner edge b) ≡ meets_half_plane b edge
meets_half_plane-leftmost edge b v =
    let leftmost = leftmost_corner edge b in
    same_from_decides _ _ (
      some_corner (is_in_half_plane edge) _ _ b,
      λ e. let found = some_point (is_in_half_plane edge) b v e in
          is_in_half_plane-more edge found.0 leftmost (cross-leftmost edge found.0 b found.1.0) found.1.1,
    )
    (λ e. e, λ e. e)

-- and the opposite one whether it lies in the half-plane
pub lies_in_half_plane-rightmost : (edge : Edge) (b : Rect)
    → IsRect b → is_in_half_plane edge (rightmost_corner edge b) ≡ lies_in_half_plane b edge
lies_in_half_plane-rightmost edge b v =
    let rightmost = rightmost_corner edge b in
    same_from_decides _ _ (
      λ e. each_corner (is_in_half_plane edge) b v
          (λ p h. is_in_half_plane-more edge rightmost p (cross-rightmost edge p b h) e),
      corner_of_all (is_in_half_plane edge) _ _ b,
    )
    (λ e. e, λ e. e)
