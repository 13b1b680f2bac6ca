-- Four lanes of one vector that are compared with those of another, and what their mask tells.
use Rattle.std.proofs.Common.{◌≡◌, refl, arith, Bool, true, false, cond, not, nat_eq, ◌&&◌, ◌%◌, map, [], ◌∷◌, ℕ, ℤ}
use Rattle.std.proofs.Common.{pos, negsuc, int_le, int_lt, ltb, leb, FitsSigned, w32}
use Rattle.std.specs.Simd.Lanes.{mask_l, top}
use Rattle.std.proofs.lemmas.Bool.Decides.{leb_tells}
use Rattle.std.proofs.lemmas.Int.{ints, to_z-of_z}
use Rattle.rt_geo.specs.Boxes.{IsRect, Rect, complement, inside, overlaps, plane}
use Rattle.rt_geo.proofs.Stored.{stored}

-- a lane of a comparison: all ones, or 0
abbrev pub lane : Bool → ℕ
lane b = cond b 4294967295 0

-- whether the mask of four lanes is empty
abbrev pub is_empty : (p q r s : Bool) → Bool
is_empty p q r s = not (not (nat_eq (mask_l (map (top 31) (lane p ∷ lane q ∷ lane r ∷ lane s ∷ [])) % 18446744073709551616) 0))

empty_mask : (p q r s : Bool) → is_empty p q r s ≡ ((not p && not r) && (not q && not s))
empty_mask true true true true = refl
empty_mask true true true false = refl
empty_mask true true false true = refl
empty_mask true true false false = refl
empty_mask true false true true = refl
empty_mask true false true false = refl
empty_mask true false false true = refl
empty_mask true false false false = refl
empty_mask false true true true = refl
empty_mask false true true false = refl
empty_mask false true false true = refl
empty_mask false true false false = refl
empty_mask false false true true = refl
empty_mask false false true false = refl
empty_mask false false false true = refl
empty_mask false false false false = refl

not_less : (m n : ℕ) → not (ltb m n) ≡ leb n m
not_less m n = grind (arith, leb_tells)

not_above : (y z : ℤ) → not (int_lt y z) ≡ int_le z y
not_above (pos m) (pos n) = not_less m n
not_above (pos m) (negsuc n) = refl
not_above (negsuc m) (pos n) = refl
not_above (negsuc m) (negsuc n) = not_less n m

complement_order : (y z : ℤ) → int_le (complement z) (complement y) ≡ int_le y z
complement_order y z = grind (arith, ints)

-- a lane that holds z is above one that holds y
abbrev pub is_above : ℤ → ℤ → Bool
is_above z y = int_lt (stored y) (stored z)

stored_not_above : (y z : ℤ) → FitsSigned w32 y → FitsSigned w32 z → not (is_above z y) ≡ int_le z y
stored_not_above y z fits fits' = rw (to_z-of_z w32 y fits, to_z-of_z w32 z fits') (not_above y z)

-- no lane of the first is above that of the second: z to y; the first and the third lane are one axis, the others another
none_above : (z₀ z₁ z₂ z₃ y₀ y₁ y₂ y₃ : ℤ)
    → FitsSigned w32 z₀ → FitsSigned w32 z₁ → FitsSigned w32 z₂ → FitsSigned w32 z₃
    → FitsSigned w32 y₀ → FitsSigned w32 y₁ → FitsSigned w32 y₂ → FitsSigned w32 y₃
    → is_empty (is_above z₀ y₀) (is_above z₁ y₁) (is_above z₂ y₂) (is_above z₃ y₃)
    ≡ ((int_le z₀ y₀ && int_le z₂ y₂) && (int_le z₁ y₁ && int_le z₃ y₃))
none_above z₀ z₁ z₂ z₃ y₀ y₁ y₂ y₃ a b c d e f g h =
    rw (
      ← stored_not_above y₀ z₀ e a,
      ← stored_not_above y₁ z₁ f b,
      ← stored_not_above y₂ z₂ g c,
      ← stored_not_above y₃ z₃ h d,
    )
    (empty_mask _ _ _ _)

-- the sides of a box of 32-bit coordinates, and what their flipping gives, fit 32 bits
pub record FitSides (b : Rect) : Type 0 where
  pub left : FitsSigned w32 b.min_x
  pub right : FitsSigned w32 b.max_x
  pub low : FitsSigned w32 b.min_y
  pub high : FitsSigned w32 b.max_y
  pub complement_left : FitsSigned w32 (complement b.min_x)
  pub complement_right : FitsSigned w32 (complement b.max_x)
  pub complement_low : FitsSigned w32 (complement b.min_y)
  pub complement_high : FitsSigned w32 (complement b.max_y)

pub sides_fit : (b : Rect) → IsRect b → inside b plane ≡ true → FitSides b
sides_fit b v h = record {
  left = grind (arith, ints);
  right = grind (arith, ints);
  low = grind (arith, ints);
  high = grind (arith, ints);
  complement_left = grind (arith, ints);
  complement_right = grind (arith, ints);
  complement_low = grind (arith, ints);
  complement_high = grind (arith, ints);
}

-- two boxes share a point where none of the one's ends lies beyond what the other faces it with
pub overlaps_by_lanes : (a b : Rect) → IsRect a → inside a plane ≡ true → IsRect b → inside b plane ≡ true
    → is_empty (is_above a.min_x b.max_x) (is_above a.min_y b.max_y)
    (is_above (complement a.max_x) (complement b.min_x)) (is_above (complement a.max_y) (complement b.min_y))
    ≡ overlaps a b
overlaps_by_lanes a b v h w k =
    let p = sides_fit a v h in
    let q = sides_fit b w k in
    rw (← complement_order b.min_x a.max_x, ← complement_order b.min_y a.max_y)
    (none_above a.min_x a.min_y (complement a.max_x) (complement a.max_y) b.max_x b.max_y (complement b.min_x) (complement b.min_y)
    p.left p.low p.complement_right p.complement_high q.right q.high q.complement_left q.complement_low)

-- a box lies in another where none of its ends lies beyond the other's
pub inside_by_lanes : (a b : Rect) → IsRect a → inside a plane ≡ true → IsRect b → inside b plane ≡ true
    → is_empty (is_above b.min_x a.min_x) (is_above b.min_y a.min_y)
    (is_above (complement b.max_x) (complement a.max_x)) (is_above (complement b.max_y) (complement a.max_y))
    ≡ inside a b
inside_by_lanes a b v h w k =
    let p = sides_fit a v h in
    let q = sides_fit b w k in
    rw (← complement_order a.max_x b.max_x, ← complement_order a.max_y b.max_y)
    (none_above b.min_x b.min_y (complement b.max_x) (complement b.max_y) a.min_x a.min_y (complement a.max_x) (complement a.max_y)
    q.left q.low q.complement_right q.complement_high p.left p.low p.complement_right p.complement_high)
