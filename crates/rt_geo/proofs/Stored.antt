-- What is stored in 32 bits is the number, and so for the sides of a box.
use Rattle.std.proofs.Common.{◌≡◌, ◌∙◌, ap, refl, arith, true, ℤ, ◌≤ℤ◌, FitsSigned, w32, to_z, of_z}
use Rattle.std.proofs.lemmas.Int.{ints, to_z-of_z}
use Rattle.rt_geo.specs.Boxes.{Rect, IsRect, greatest_coordinate, hull, inside, least_coordinate, plane, rect_of}
use Rattle.rt_geo.specs.Lemmas.Boxes.{IsRect-hull, hull-inside}

-- a number, written to 32 bits and read back
abbrev pub stored : ℤ → ℤ
stored z = to_z w32 (of_z w32 z)

-- a box, each side of it
abbrev pub stored_rect : Rect → Rect
stored_rect b = rect_of (stored b.min_x) (stored b.max_x) (stored b.min_y) (stored b.max_y)

coordinate-fits : (z : ℤ) → least_coordinate ≤ℤ z → z ≤ℤ greatest_coordinate → FitsSigned w32 z
coordinate-fits z p q = grind (arith, ints)

stored-same : (z : ℤ) → least_coordinate ≤ℤ z → z ≤ℤ greatest_coordinate → stored z ≡ z
stored-same z p q = to_z-of_z w32 z (coordinate-fits z p q)

pub stored_rect-same : (b : Rect) → IsRect b → inside b plane ≡ true → stored_rect b ≡ b
stored_rect-same b v h =
    let min_x = stored-same b.min_x (grind (arith, ints)) (grind (arith, ints)) in
    let max_x = stored-same b.max_x (grind (arith, ints)) (grind (arith, ints)) in
    let min_y = stored-same b.min_y (grind (arith, ints)) (grind (arith, ints)) in
    let max_y = stored-same b.max_y (grind (arith, ints)) (grind (arith, ints)) in
    rw (min_x, max_x, min_y, max_y) refl

same_sides : (p q r s : ℤ) (b : Rect) → p ≡ b.min_x → q ≡ b.max_x → r ≡ b.min_y → s ≡ b.max_y → rect_of p q r s ≡ b
same_sides p q r s b e f g h = rw (e, f, g, h) refl

-- the box whose sides are those of the hull of two stored boxes, itself stored
pub stored_hull : (a b : Rect) (p q r s : ℤ)
    → IsRect a → inside a plane ≡ true → IsRect b → inside b plane ≡ true
    → p ≡ (hull (stored_rect a) (stored_rect b)).min_x → q ≡ (hull (stored_rect a) (stored_rect b)).max_x
    → r ≡ (hull (stored_rect a) (stored_rect b)).min_y → s ≡ (hull (stored_rect a) (stored_rect b)).max_y
    → stored_rect (rect_of p q r s) ≡ hull a b
stored_hull a b p q r s v i w j e f g h =
    ap stored_rect (same_sides p q r s (hull (stored_rect a) (stored_rect b)) e f g h)
    ∙ ap (λ x. stored_rect (hull x (stored_rect b))) (stored_rect-same a v i)
    ∙ ap (λ x. stored_rect (hull a x)) (stored_rect-same b w j)
    ∙ stored_rect-same (hull a b) (IsRect-hull a b v w) (hull-inside a b plane i j)
