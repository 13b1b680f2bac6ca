-- Boxes of whole numbers, and how two of them lie.
use Rattle.std.specs.Prelude.{◌≡◌, Bool, true, ◌&&◌, ℕ, ◌*◌, ◌-◌, ◌^◌}
use Rattle.std.specs.Prelude.{ℤ, pos, negsuc, ◌-ℤ◌, ◌≤ℤ◌, int_le, unsigned_abs}
use Rattle.std.specs.Int.{int_min, int_max}

-- the least and the greatest coordinate, of 32 bits
abbrev pub least_coordinate : ℤ
least_coordinate = pos 0 -ℤ pos (2 ^ 31)

abbrev pub greatest_coordinate : ℤ
greatest_coordinate = pos (2 ^ 31 - 1)

-- a number with all its bits flipped: the greater of two becomes the less
abbrev pub complement : ℤ → ℤ
complement z = negsuc 0 -ℤ z

-- a box: a minimum and a maximum on each axis
pub record Rect : Type 0 where
  pub min_x : ℤ
  pub max_x : ℤ
  pub min_y : ℤ
  pub max_y : ℤ

-- the box with these sides
abbrev pub rect_of : ℤ → ℤ → ℤ → ℤ → Rect
rect_of min_x max_x min_y max_y = record { min_x = min_x; max_x = max_x; min_y = min_y; max_y = max_y }

-- each minimum is at most its maximum
pub record IsRect (b : Rect) : Type 0 where
  pub on_x : b.min_x ≤ℤ b.max_x
  pub on_y : b.min_y ≤ℤ b.max_y

-- the box of all points whose coordinates have 32 bits
abbrev pub plane : Rect
plane = rect_of least_coordinate greatest_coordinate least_coordinate greatest_coordinate

-- two ranges share a number, touching included: each low end is at most the other's high end
abbrev pub ranges_meet : (low high other_low other_high : ℤ) → Bool
ranges_meet low high other_low other_high = int_le low other_high && int_le other_low high

-- two boxes share a point, touching included: their ranges meet on both axes
abbrev pub overlaps : Rect → Rect → Bool
overlaps a b =
    ranges_meet a.min_x a.max_x b.min_x b.max_x && ranges_meet a.min_y a.max_y b.min_y b.max_y

-- the first range lies in the other, equal ends included
abbrev pub range_lies_in : (low high other_low other_high : ℤ) → Bool
range_lies_in low high other_low other_high = int_le other_low low && int_le high other_high

-- `a` lies in `b`, equal sides included: its ranges lie in those of `b` on both axes
abbrev pub inside : Rect → Rect → Bool
inside a b =
    range_lies_in a.min_x a.max_x b.min_x b.max_x && range_lies_in a.min_y a.max_y b.min_y b.max_y

-- the box from the lesser minimum to the greater maximum on each axis
abbrev pub hull : Rect → Rect → Rect
hull a b =
    rect_of (int_min a.min_x b.min_x) (int_max a.max_x b.max_x) (int_min a.min_y b.min_y) (int_max a.max_y b.max_y)

-- `whole` is the least box in which both `a` and `b` lie
pub record IsLeastAround (a b whole : Rect) : Type 0 where
  pub first : inside a whole ≡ true
  pub second : inside b whole ≡ true
  pub least : (c : Rect) → inside a c ≡ true → inside b c ≡ true → inside whole c ≡ true

-- the area: the width times the height
abbrev pub area : Rect → ℕ
area b = unsigned_abs (b.max_x -ℤ b.min_x) * unsigned_abs (b.max_y -ℤ b.min_y)
