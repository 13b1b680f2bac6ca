-- Products of whole numbers: the laws of a ring, and how products grow.
use borrow.Author.Differences.{up, down, sum_is_lem, neg_is, product_is}
use Rattle.std.specs.Prelude.{◌*ℤ◌, neg_ℤ, unsigned_abs, int_lt, if◌then◌else◌}
use Rattle.std.proofs.Common.{◌≡◌, ◌∙◌, ap, sym, arith, ℕ, suc, ◌*◌, true, false}
use Rattle.std.proofs.Common.{ℤ, pos, negsuc, ◌≤ℤ◌, ◌+ℤ◌, ◌-ℤ◌}
use Rattle.std.proofs.Math.IntN.{*ℤ_comm}
use Rattle.std.proofs.lemmas.Int.{ints, by_lt_z}

-- ---- the laws of a ring

-- a number is `up a - down a`, and equal naturals have equal products
times : (k m n : ℕ) → m ≡ n → k * m ≡ k * n
times k m n e = ap (λ x. k * x) e

-- a factor goes over a sum
pub mul-sum : (a b c : ℤ) → a *ℤ (b +ℤ c) ≡ a *ℤ b +ℤ a *ℤ c
mul-sum a b c =
    let e = sum_is_lem b c in
    omega (arith, ints, times (up a) _ _ e, times (down a) _ _ e)

-- over a change of sign
pub mul-neg : (a b : ℤ) → a *ℤ neg_ℤ b ≡ neg_ℤ (a *ℤ b)
mul-neg a b =
    let e = neg_is b in
    omega (arith, ints, times (up a) _ _ e.0, times (down a) _ _ e.0, times (up a) _ _ e.1, times (down a) _ _ e.1)

-- and over a difference
pub mul-difference : (a b c : ℤ) → a *ℤ (b -ℤ c) ≡ a *ℤ b -ℤ a *ℤ c
mul-difference a b c = mul-sum a b (neg_ℤ c) ∙ ap (λ x. a *ℤ b +ℤ x) (mul-neg a c)

pub mul_assoc : (a b c : ℤ) → (a *ℤ b) *ℤ c ≡ a *ℤ (b *ℤ c)
mul_assoc a b c =
    let p = product_is a b in
    let q = product_is b c in
    omega (
      arith,
      ints,
      times (up c) _ _ p.0,
      times (down c) _ _ p.0,
      times (up c) _ _ p.1,
      times (down c) _ _ p.1,
      times (up a) _ _ q.0,
      times (down a) _ _ q.0,
      times (up a) _ _ q.1,
      times (down a) _ _ q.1,
    )

-- a common factor of both factors comes out of a product twice
mul-scaled : (d a b : ℤ) → (d *ℤ a) *ℤ (d *ℤ b) ≡ d *ℤ (d *ℤ (a *ℤ b))
mul-scaled d a b =
    mul_assoc d a (d *ℤ b)
    ∙ ap (λ x. d *ℤ x) (sym (mul_assoc a d b) ∙ ap (λ x. x *ℤ b) (*ℤ_comm a d) ∙ mul_assoc d a b)

-- and out of the difference of two such products
pub difference-scaled : (d a b m n : ℤ)
    → (d *ℤ a) *ℤ (d *ℤ b) -ℤ (d *ℤ m) *ℤ (d *ℤ n) ≡ d *ℤ (d *ℤ (a *ℤ b -ℤ m *ℤ n))
difference-scaled d a b m n =
    ap (λ x. x -ℤ (d *ℤ m) *ℤ (d *ℤ n)) (mul-scaled d a b) ∙ ap (λ x. d *ℤ (d *ℤ (a *ℤ b)) -ℤ x) (mul-scaled d m n)
    ∙ sym (mul-difference d (d *ℤ (a *ℤ b)) (d *ℤ (m *ℤ n)))
    ∙ ap (λ x. d *ℤ x) (sym (mul-difference d (a *ℤ b) (m *ℤ n)))

-- ---- growth

-- the greater number is the lesser and what is missing
missing : (low high : ℤ) → low ≤ℤ high → high ≡ low +ℤ pos (unsigned_abs (high -ℤ low))
missing low high h = grind (arith, ints)

-- a product with a factor that isn't negative grows with the other factor
grows : (a low high : ℤ) → pos 0 ≤ℤ a → low ≤ℤ high → (a *ℤ low) ≤ℤ (a *ℤ high)
grows (pos m) low high s h =
    let gap = unsigned_abs (high -ℤ low) in
    let e : pos m *ℤ high ≡ pos m *ℤ low +ℤ pos (m * gap) =
    ap (λ x. pos m *ℤ x) (missing low high h) ∙ mul-sum (pos m) low (pos gap) in
    omega (arith, ints, e)
grows (negsuc m) low high s h = absurd (omega (arith, ints, s))

-- one with a factor that isn't positive falls
falls : (a low high : ℤ) → a ≤ℤ pos 0 → low ≤ℤ high → (a *ℤ high) ≤ℤ (a *ℤ low)
falls a low high s h =
    let g = grows (neg_ℤ a) low high (omega (arith, ints, s)) h in
    let e = *ℤ_comm (neg_ℤ a) low ∙ mul-neg low a ∙ ap neg_ℤ (*ℤ_comm low a) in
    let f = *ℤ_comm (neg_ℤ a) high ∙ mul-neg high a ∙ ap neg_ℤ (*ℤ_comm high a) in
    omega (arith, ints, g, e, f)

-- so over a range from an offset, a difference's product is greatest at the high end, or at the low end where the
-- difference is below 0
pub greatest_product : (m n offset v low high : ℤ) → low ≤ℤ v → v ≤ℤ high
    → ((m -ℤ n) *ℤ (v -ℤ offset)) ≤ℤ ((m -ℤ n) *ℤ ((if int_lt m n then low else high) -ℤ offset))
greatest_product m n offset v low high p q = by_lt_z m n
    (λ below. let t : int_lt m n ≡ true = grind (arith, ints) in
    rw t (falls (m -ℤ n) (low -ℤ offset) (v -ℤ offset) (omega (arith, ints, below)) (omega (arith, ints, p))))
    (λ above. let t : int_lt m n ≡ false = grind (arith, ints) in
    rw t (grows (m -ℤ n) (v -ℤ offset) (high -ℤ offset) (omega (arith, ints, above)) (omega (arith, ints, q))))

-- and least at the other end
pub least_product : (m n offset v low high : ℤ) → low ≤ℤ v → v ≤ℤ high
    → ((m -ℤ n) *ℤ ((if int_lt m n then high else low) -ℤ offset)) ≤ℤ ((m -ℤ n) *ℤ (v -ℤ offset))
least_product m n offset v low high p q = by_lt_z m n
    (λ below. let t : int_lt m n ≡ true = grind (arith, ints) in
    rw t (falls (m -ℤ n) (v -ℤ offset) (high -ℤ offset) (omega (arith, ints, below)) (omega (arith, ints, q))))
    (λ above. let t : int_lt m n ≡ false = grind (arith, ints) in
    rw t (grows (m -ℤ n) (low -ℤ offset) (v -ℤ offset) (omega (arith, ints, above)) (omega (arith, ints, p))))

-- ---- a positive factor

-- keeps the sign
pub sign_kept : (m : ℕ) (x : ℤ) → pos 0 ≤ℤ (pos (suc m) *ℤ x) → pos 0 ≤ℤ x
sign_kept m (pos n) h = omega (arith, ints)
sign_kept m (negsuc n) h = omega (arith, ints)

-- and the order
pub order_kept : (m : ℕ) (x y : ℤ) → (pos (suc m) *ℤ x) ≤ℤ (pos (suc m) *ℤ y) → x ≤ℤ y
order_kept m x y h =
    let d = sign_kept m (y -ℤ x) (let e = mul-difference (pos (suc m)) y x in omega (arith, ints, e, h)) in
    omega (arith, ints, d)
