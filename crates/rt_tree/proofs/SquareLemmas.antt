-- The square root, rounded up.
use Rattle.std.proofs.Common.{◌≡◌, ◌<◌, ◌≤◌, ◌+◌, ◌*◌, ℕ, zero, suc, false, nat_le, ap, arith}
use Rattle.std.proofs.{Common.{◌-◌}, Math.Nat.{mul-le-mul}, lemmas.{Bool.{cond_both}, Bool.Decides.{nat_tests}}}
use Rattle.rt_tree.specs.Packing.{ceil_sqrt}

-- its square is enough, and it is the least such number
pub record IsCeilSqrt (n root : ℕ) : Type 0 where
  pub enough : n ≤ root * root
  pub least : (s : ℕ) → n ≤ s * s → root ≤ s

above : (n root s : ℕ) → root ≤ s → nat_le (suc n) (root * root) ≡ false → suc n ≤ s * s → suc root ≤ s
above n root s low test h =
    let not_same : root ≡ s → ⊥ = λ e. let same = ap (λ r. r * r) e in grind (arith, nat_tests) in
    omega arith

pub ceil_sqrt-IsCeilSqrt : (n : ℕ) → IsCeilSqrt n (ceil_sqrt n)
ceil_sqrt-IsCeilSqrt zero = record { enough = omega arith; least = λ s h. omega arith }
ceil_sqrt-IsCeilSqrt (suc n) =
    let root = ceil_sqrt n in
    let r = ceil_sqrt-IsCeilSqrt n in
    cond_both (nat_le (suc n) (root * root)) root (suc root) (IsCeilSqrt (suc n))
    (λ e. record { enough = grind (arith, nat_tests); least = λ s h. r.least s (omega arith) })
    (λ e. record { enough = omega (arith, r.enough); least = λ s h. above n root s (r.least s (omega arith)) e h })

-- it is one more than the square root, rounded down, of the number below
pub ceil_sqrt-from_isqrt : (n below root : ℕ) → 0 < n → below ≡ n - 1 → root * root ≤ below
    → below < (root + 1) * (root + 1) → ceil_sqrt n ≡ root + 1
ceil_sqrt-from_isqrt n below root some is low high =
    let c = ceil_sqrt-IsCeilSqrt n in
    let most : ceil_sqrt n ≤ root + 1 = c.least (root + 1) (omega arith) in
    let not_fewer : ceil_sqrt n ≤ root → ⊥ = λ h. let squares = mul-le-mul h h in omega (arith, c.enough) in
    omega arith

pub ceil_sqrt-positive : (n : ℕ) → 0 < n → 0 < ceil_sqrt n
ceil_sqrt-positive n some = let enough = (ceil_sqrt-IsCeilSqrt n).enough in grind arith
