-- How boxes lie.
use Rattle.std.proofs.Common.{◌≡◌, true, arith, ℤ}
use Rattle.std.proofs.lemmas.Bool.{and_from, and_parts}
use Rattle.std.proofs.lemmas.Int.{ints}
use Rattle.rt_geo.specs.Boxes.{Rect, IsRect, IsLeastAround, hull, inside, overlaps, range_lies_in, ranges_meet}

-- a box lies in itself
pub inside-same : (a : Rect) → inside a a ≡ true
inside-same a = grind (arith, ints)

-- a part of a part of a range is a part of it
range_lies_in-trans : (a b c d e f : ℤ)
    → range_lies_in a b c d ≡ true → range_lies_in c d e f ≡ true → range_lies_in a b e f ≡ true
range_lies_in-trans a b c d e f p q = grind (arith, ints)

-- what meets a part of a range meets the range
ranges_meet-part : (a b c d e f : ℤ)
    → range_lies_in a b c d ≡ true → ranges_meet a b e f ≡ true → ranges_meet c d e f ≡ true
ranges_meet-part a b c d e f p q = grind (arith, ints)

-- a box that lies in another does so on each axis
pub inside-on_x : (a b : Rect) → inside a b ≡ true → range_lies_in a.min_x a.max_x b.min_x b.max_x ≡ true
inside-on_x a b h = (and_parts _ _ h).0

pub inside-on_y : (a b : Rect) → inside a b ≡ true → range_lies_in a.min_y a.max_y b.min_y b.max_y ≡ true
inside-on_y a b h = (and_parts _ _ h).1

-- a part of a part of a box is a part of it
pub inside-trans : (a b c : Rect) → inside a b ≡ true → inside b c ≡ true → inside a c ≡ true
inside-trans a b c p q =
    let on_x =
    range_lies_in-trans a.min_x a.max_x b.min_x b.max_x c.min_x c.max_x (inside-on_x a b p) (inside-on_x b c q) in
    let on_y =
    range_lies_in-trans a.min_y a.max_y b.min_y b.max_y c.min_y c.max_y (inside-on_y a b p) (inside-on_y b c q) in
    and_from _ _ on_x on_y

-- what overlaps a part of a box overlaps the box
pub overlaps-part : (a b c : Rect) → inside a b ≡ true → overlaps a c ≡ true → overlaps b c ≡ true
overlaps-part a b c p q =
    let axes = and_parts _ _ q in
    let on_x = ranges_meet-part a.min_x a.max_x b.min_x b.max_x c.min_x c.max_x (inside-on_x a b p) axes.0 in
    let on_y = ranges_meet-part a.min_y a.max_y b.min_y b.max_y c.min_y c.max_y (inside-on_y a b p) axes.1 in
    and_from _ _ on_x on_y

-- a box that lies in another overlaps it
pub inside-overlaps : (a b : Rect) → IsRect a → inside a b ≡ true → overlaps a b ≡ true
inside-overlaps a b v p = grind (arith, ints)

-- ---- the hull

pub IsRect-hull : (a b : Rect) → IsRect a → IsRect b → IsRect (hull a b)
IsRect-hull a b v w = record { on_x = grind (arith, ints); on_y = grind (arith, ints) }

pub inside-hull_left : (a b : Rect) → inside a (hull a b) ≡ true
inside-hull_left a b = grind (arith, ints)

pub inside-hull_right : (a b : Rect) → inside b (hull a b) ≡ true
inside-hull_right a b = grind (arith, ints)

-- what holds both boxes holds their hull
pub hull-inside : (a b c : Rect) → inside a c ≡ true → inside b c ≡ true → inside (hull a b) c ≡ true
hull-inside a b c p q = grind (arith, ints)

pub hull-least : (a b : Rect) → IsLeastAround a b (hull a b)
hull-least a b = record {
  first = inside-hull_left a b;
  second = inside-hull_right a b;
  least = hull-inside a b;
}
