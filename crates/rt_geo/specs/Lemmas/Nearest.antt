-- The nearest and the farthest point of a box.
use Rattle.std.specs.Int.{int_max, int_min}
use Rattle.std.specs.Prelude.{if◌then◌else◌, nat_le, unsigned_abs}
use Rattle.std.proofs.Common.{◌≡◌, ◌≤◌, arith, subst, sym, ℕ, ◌+◌, true, ℤ, ◌≤ℤ◌, ◌-ℤ◌}
use Rattle.std.proofs.lemmas.Bool.{and_from}
use Rattle.std.proofs.lemmas.Bool.Decides.{nat_tests}
use Rattle.std.proofs.lemmas.Int.{ints}
use Rattle.rt_geo.specs.Boxes.{Rect, IsRect, range_lies_in}
use Rattle.rt_geo.specs.Distances.{IsGreatestDistance, IsLeastDistance, IsPointOf}
use Rattle.rt_geo.specs.Distances.{distance2, far2, gap, near2, reach, square}
use Rattle.rt_geo.specs.Lemmas.Boxes.{inside-on_x, inside-on_y}
use Rattle.rt_geo.specs.Lemmas.Distances.{sum_of_squares}
use Rattle.rt_geo.specs.declared.distance.Point.{Point}

-- ---- on one axis

-- the number of a range that is nearest to `v`
abbrev nearest : (v low high : ℤ) → ℤ
nearest v low high = int_max low (int_min v high)

nearest-inside : (v low high : ℤ) → low ≤ℤ high
    → range_lies_in (nearest v low high) (nearest v low high) low high ≡ true
nearest-inside v low high h = grind (arith, ints)

nearest-gap : (v low high : ℤ) → low ≤ℤ high → unsigned_abs (v -ℤ nearest v low high) ≡ gap v low high
nearest-gap v low high h = grind (arith, ints)

gap-least : (v low high w : ℤ) → range_lies_in w w low high ≡ true → gap v low high ≤ unsigned_abs (v -ℤ w)
gap-least v low high w h = grind (arith, ints)

-- the end of a range that is farther from `v`
abbrev farthest : (v low high : ℤ) → ℤ
farthest v low high = if nat_le (unsigned_abs (v -ℤ low)) (unsigned_abs (v -ℤ high)) then high else low

farthest-inside : (v low high : ℤ) → low ≤ℤ high
    → range_lies_in (farthest v low high) (farthest v low high) low high ≡ true
farthest-inside v low high h = grind (arith, ints)

farthest-reach : (v low high : ℤ) → unsigned_abs (v -ℤ farthest v low high) ≡ reach v low high
farthest-reach v low high = grind (arith, nat_tests)

reach-greatest : (v low high w : ℤ) → range_lies_in w w low high ≡ true → unsigned_abs (v -ℤ w) ≤ reach v low high
reach-greatest v low high w h = grind (arith, ints)

-- ---- on both

same_squares : (a b c d : ℕ) → a ≡ c → b ≡ d → square a + square b ≡ square c + square d
same_squares a b c d e f = cc

abbrev nearest_point : Point → Rect → Point
nearest_point p b = record { x = nearest p.x b.min_x b.max_x; y = nearest p.y b.min_y b.max_y }

nearest_point-inside : (p : Point) (b : Rect) → IsRect b → IsPointOf b (nearest_point p b)
nearest_point-inside p b v = record {
  inside =
      and_from _ _ (nearest-inside p.x b.min_x b.max_x v.on_x) (nearest-inside p.y b.min_y b.max_y v.on_y);
}

nearest_point-near2 : (p : Point) (b : Rect) → IsRect b → distance2 p (nearest_point p b) ≡ near2 p b
nearest_point-near2 p b v =
    same_squares _ _ _ _ (nearest-gap p.x b.min_x b.max_x v.on_x) (nearest-gap p.y b.min_y b.max_y v.on_y)

nearest-least : (p : Point) (b : Rect) → IsRect b → IsLeastDistance p b (near2 p b)
nearest-least p b v = record {
  reached = (nearest_point p b, (nearest_point-inside p b v, nearest_point-near2 p b v));
  least =
      λ q h. sum_of_squares _ _ _ _ (gap-least p.x b.min_x b.max_x q.x (inside-on_x _ b h.inside))
      (gap-least p.y b.min_y b.max_y q.y (inside-on_y _ b h.inside));
}

abbrev farthest_point : Point → Rect → Point
farthest_point p b = record { x = farthest p.x b.min_x b.max_x; y = farthest p.y b.min_y b.max_y }

farthest_point-inside : (p : Point) (b : Rect) → IsRect b → IsPointOf b (farthest_point p b)
farthest_point-inside p b v = record {
  inside =
      and_from _ _ (farthest-inside p.x b.min_x b.max_x v.on_x) (farthest-inside p.y b.min_y b.max_y v.on_y);
}

farthest_point-far2 : (p : Point) (b : Rect) → distance2 p (farthest_point p b) ≡ far2 p b
farthest_point-far2 p b =
    same_squares _ _ _ _ (farthest-reach p.x b.min_x b.max_x) (farthest-reach p.y b.min_y b.max_y)

farthest-greatest : (p : Point) (b : Rect) → IsRect b → IsGreatestDistance p b (far2 p b)
farthest-greatest p b v = record {
  reached = (farthest_point p b, (farthest_point-inside p b v, farthest_point-far2 p b));
  greatest =
      λ q h. sum_of_squares _ _ _ _ (reach-greatest p.x b.min_x b.max_x q.x (inside-on_x _ b h.inside))
      (reach-greatest p.y b.min_y b.max_y q.y (inside-on_y _ b h.inside));
}

-- what a contract that tells `near2` tells of points
pub near2-least : (p : Point) (b : Rect) (n : ℕ) → IsRect b → n ≡ near2 p b → IsLeastDistance p b n
near2-least p b n v e = subst (IsLeastDistance p b) (sym e) (nearest-least p b v)

pub far2-greatest : (p : Point) (b : Rect) (n : ℕ) → IsRect b → n ≡ far2 p b → IsGreatestDistance p b n
far2-greatest p b n v e = subst (IsGreatestDistance p b) (sym e) (farthest-greatest p b v)
