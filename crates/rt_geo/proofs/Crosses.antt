-- A cross product of coordinates, as the code stores its parts: differences in 64 bits, products in 128.
use Rattle.std.specs.Prelude.{◌*ℤ◌, int_le, pos, unsigned_abs}
use Rattle.std.proofs.Common.{◌≡◌, ◌∙◌, refl, arith, ◌^◌, ◌≤◌, ℤ, ◌-ℤ◌, FitsSigned, to_z, of_z, w32, w64}
use Rattle.std.proofs.lemmas.Int.{ints, to_z-of_z}
use Rattle.rt_geo.specs.Boxes.{Rect, IsRect}
use Rattle.rt_geo.specs.Lemmas.HalfPlanes.{leftmost_corner, lies_in_half_plane-rightmost}
use Rattle.rt_geo.specs.Lemmas.HalfPlanes.{meets_half_plane-leftmost, rightmost_corner}
use Rattle.rt_geo.specs.Polygons.{cross, lies_in_half_plane, meets_half_plane}
use Rattle.rt_geo.specs.declared.distance.Point.{Point}
use Rattle.rt_geo.specs.declared.polygon.Edge.{Edge}
use mir.Syntax.{w128}

pub difference_is : (r x y : ℤ) → FitsSigned w32 x → FitsSigned w32 y
    → r ≡ to_z w32 (of_z w32 x) -ℤ to_z w32 (of_z w32 y) → r ≡ x -ℤ y
difference_is r x y f g e = e ∙ rw (to_z-of_z w32 x f, to_z-of_z w32 y g) refl

pub product_is : (r m n x y : ℤ) → FitsSigned w64 m → FitsSigned w64 n
    → r ≡ to_z w64 (of_z w64 m) *ℤ to_z w64 (of_z w64 n) → m ≡ x → n ≡ y → r ≡ x *ℤ y
product_is r m n x y f g e p q = e ∙ rw (to_z-of_z w64 m f, to_z-of_z w64 n g, p, q) refl

product-fits : (m : ℤ) → unsigned_abs m ≤ 2 ^ 64 → FitsSigned w128 m
product-fits m h = grind (arith, ints)

difference-fits : (m n : ℤ) → unsigned_abs m ≤ 2 ^ 64 → unsigned_abs n ≤ 2 ^ 64 → FitsSigned w128 (m -ℤ n)
difference-fits m n p q = grind (arith, ints)

pub cross-fits : (m n : ℤ) → unsigned_abs m ≤ 2 ^ 64 → unsigned_abs n ≤ 2 ^ 64
    → FitsSigned w128 (to_z w128 (of_z w128 m) -ℤ to_z w128 (of_z w128 n))
cross-fits m n p q =
    rw (to_z-of_z w128 m (product-fits m p), to_z-of_z w128 n (product-fits n q)) (difference-fits m n p q)

pub cross_is : (m n x y : ℤ) → unsigned_abs m ≤ 2 ^ 64 → unsigned_abs n ≤ 2 ^ 64 → m ≡ x → n ≡ y
    → to_z w128 (of_z w128 (to_z w128 (of_z w128 m) -ℤ to_z w128 (of_z w128 n))) ≡ x -ℤ y
cross_is m n x y p q e f =
    rw (to_z-of_z w128 m (product-fits m p), to_z-of_z w128 n (product-fits n q))
    (to_z-of_z w128 (m -ℤ n) (difference-fits m n p q) ∙ rw (e, f) refl)

-- ---- the corner that matters

pub at_leftmost : (edge : Edge) (b : Rect) (r : ℤ) (p : Point)
    → FitsSigned w128 r → IsRect b → r ≡ cross edge p → p ≡ leftmost_corner edge b
    → int_le (pos 0) (to_z w128 (of_z w128 r)) ≡ meets_half_plane b edge
at_leftmost edge b r p f v e g = rw (to_z-of_z w128 r f, e, g) (meets_half_plane-leftmost edge b v)

pub at_rightmost : (edge : Edge) (b : Rect) (r : ℤ) (p : Point)
    → FitsSigned w128 r → IsRect b → r ≡ cross edge p → p ≡ rightmost_corner edge b
    → int_le (pos 0) (to_z w128 (of_z w128 r)) ≡ lies_in_half_plane b edge
at_rightmost edge b r p f v e g = rw (to_z-of_z w128 r f, e, g) (lies_in_half_plane-rightmost edge b v)
