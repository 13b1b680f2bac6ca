-- How far a number is from the nearest one of a range, and two such numbers in the lanes of a vector.
use Rattle.std.proofs.Common.{◌≡◌, ◌<◌, ◌≤ℤ◌, ◌-ℤ◌, ◌^◌, ℤ, List, [], ◌∷◌, map, refl, arith, unsigned_abs, FitsSigned, w32, w64, to_z, of_z}
use Rattle.std.proofs.lemmas.Int.{ints, to_z-of_z}
use Rattle.std.specs.Int.{int_max, int_min}
use Rattle.rt_geo.specs.Distances.{gap}

-- the number of a range that is nearest to one
abbrev pub nearest : (value low high : ℤ) → ℤ
nearest value low high = int_min (int_max value low) high

pub gap_to_nearest : (value low high : ℤ) → low ≤ℤ high → unsigned_abs (value -ℤ nearest value low high) ≡ gap value low high
gap_to_nearest value low high h = grind (arith, ints)

pub fits_max : (a b : ℤ) → FitsSigned w32 a → FitsSigned w32 b → FitsSigned w32 (int_max a b)
fits_max a b f g = grind (arith, ints)

pub fits_min : (a b : ℤ) → FitsSigned w32 a → FitsSigned w32 b → FitsSigned w32 (int_min a b)
fits_min a b f g = grind (arith, ints)

pub fits_difference : (a b : ℤ) → FitsSigned w32 a → FitsSigned w32 b → FitsSigned w64 (a -ℤ b)
fits_difference a b f g = grind (arith, ints)

pub gap_small : (value low high : ℤ) → FitsSigned w32 value → FitsSigned w32 low → FitsSigned w32 high → gap value low high < 2 ^ 32
gap_small value low high f g h = grind (arith, ints)

-- two numbers of 32 bits, stored and read back
pub stored_pair : (l : List ℤ) (x y : ℤ) → l ≡ x ∷ y ∷ [] → FitsSigned w32 x → FitsSigned w32 y
    → map (to_z w32) (map (of_z w32) l) ≡ x ∷ y ∷ []
stored_pair l x y e f g = rw (e, to_z-of_z w32 x f, to_z-of_z w32 y g) refl
