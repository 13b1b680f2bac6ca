-- How far a point is from a box, as the square of a distance.
use Rattle.std.specs.Int.{int_gap}
use Rattle.std.specs.Prelude.{◌≡◌, ◌≤◌, true, ℕ, ◌+◌, ◌*◌, max, ℤ, ◌-ℤ◌, unsigned_abs}
use Rattle.rt_geo.specs.Boxes.{Rect, inside, rect_of}
use Rattle.rt_geo.specs.declared.distance.Point.{Point}

-- how far a number lies outside a range: the greatest of `low - value`, 0 and `value - high`
abbrev pub gap : (value low high : ℤ) → ℕ
gap value low high = max (int_gap value low) (int_gap high value)

-- how far a number is from the end of a range that is farther from it
abbrev pub reach : (value low high : ℤ) → ℕ
reach value low high = max (unsigned_abs (value -ℤ low)) (unsigned_abs (value -ℤ high))

-- the square
abbrev pub square : ℕ → ℕ
square n = n * n

-- the square of the distance from a point to the nearest point of a box
abbrev pub near2 : Point → Rect → ℕ
near2 p b = square (gap p.x b.min_x b.max_x) + square (gap p.y b.min_y b.max_y)

-- the square of the distance from a point to the farthest point of a box
abbrev pub far2 : Point → Rect → ℕ
far2 p b = square (reach p.x b.min_x b.max_x) + square (reach p.y b.min_y b.max_y)

-- the square of the distance between two points
abbrev pub distance2 : Point → Point → ℕ
distance2 p q = square (unsigned_abs (p.x -ℤ q.x)) + square (unsigned_abs (p.y -ℤ q.y))

-- the box of one point
abbrev pub rect_at : Point → Rect
rect_at p = rect_of p.x p.x p.y p.y

-- a point of the box
pub record IsPointOf (b : Rect) (q : Point) : Type 0 where
  pub inside : inside (rect_at q) b ≡ true

-- `n` is the least of the squares of the distances to the points of the box
pub record IsLeastDistance (p : Point) (b : Rect) (n : ℕ) : Type 0 where
  pub reached : (q : Point) × (IsPointOf b q × (distance2 p q ≡ n))
  pub least : (q : Point) → IsPointOf b q → n ≤ distance2 p q

-- `n` is the greatest of them
pub record IsGreatestDistance (p : Point) (b : Rect) (n : ℕ) : Type 0 where
  pub reached : (q : Point) × (IsPointOf b q × (distance2 p q ≡ n))
  pub greatest : (q : Point) → IsPointOf b q → distance2 p q ≤ n
