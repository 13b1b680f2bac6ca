-- Distances to a box and to a part of it.
use Rattle.std.proofs.Common.{◌≡◌, ◌≤◌, arith, ℕ, ◌+◌, true, ℤ, ◌≤ℤ◌}
use Rattle.std.proofs.lemmas.Int.{ints}
use Rattle.std.proofs.lemmas.Nat.{mul-le}
use Rattle.rt_geo.specs.Boxes.{Rect, IsRect, inside, range_lies_in}
use Rattle.rt_geo.specs.Distances.{far2, gap, near2, reach, square}
use Rattle.rt_geo.specs.Lemmas.Boxes.{inside-on_x, inside-on_y}
use Rattle.rt_geo.specs.declared.distance.Point.{Point}

-- a number is no nearer to a part of a range than to the range
gap-part : (v a b c d : ℤ) → range_lies_in a b c d ≡ true → gap v c d ≤ gap v a b
gap-part v a b c d p = grind (arith, ints)

-- a number is no farther from a part of a range than the range reaches
gap-reach : (v a b c d : ℤ) → a ≤ℤ b → range_lies_in a b c d ≡ true → gap v a b ≤ reach v c d
gap-reach v a b c d w p = grind (arith, ints)

pub sum_of_squares : (a b c d : ℕ) → a ≤ c → b ≤ d → square a + square b ≤ square c + square d
sum_of_squares a b c d p q =
    let r : square a ≤ square c = mul-le a a c c p p in
    let s : square b ≤ square d = mul-le b b d d q q in
    omega (arith, r, s)

-- a point is no nearer to a part of a box than to the box
pub near2-part : (p : Point) (a b : Rect) → inside a b ≡ true → near2 p b ≤ near2 p a
near2-part p a b h =
    sum_of_squares _ _ _ _ (gap-part p.x a.min_x a.max_x b.min_x b.max_x (inside-on_x a b h))
    (gap-part p.y a.min_y a.max_y b.min_y b.max_y (inside-on_y a b h))

-- a point is no farther from a part of a box than the box reaches
pub near2-far2 : (p : Point) (a b : Rect) → IsRect a → inside a b ≡ true → near2 p a ≤ far2 p b
near2-far2 p a b v h =
    sum_of_squares _ _ _ _ (gap-reach p.x a.min_x a.max_x b.min_x b.max_x v.on_x (inside-on_x a b h))
    (gap-reach p.y a.min_y a.max_y b.min_y b.max_y v.on_y (inside-on_y a b h))
