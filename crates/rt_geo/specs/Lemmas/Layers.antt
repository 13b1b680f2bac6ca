-- Sets of layers.
use Rattle.std.proofs.Common.{◌≡◌, ◌≢◌, ◌≤◌, ◌<◌, ◌==◌, ◌||◌, ◌*◌, ◌^◌, ℕ, zero, suc, max, true, false, not}
use Rattle.std.proofs.Common.{refl, sym, ◌∙◌, ap, arith, inl, inr}
use Rattle.std.specs.Int.{bit_at}
use Rattle.std.specs.Int.RustNames.{bit_and, bit_or}
use Rattle.std.proofs.lemmas.Bool.{cases_eq, true≢false}
use Rattle.std.proofs.lemmas.Bool.Decides.{nat_tests}
use Rattle.std.proofs.lemmas.Nat.{and_assoc, and_comm, and_or_self, le_or_l, or_comm, or_lt, pow_below, pow_pos}
use Rattle.std.proofs.lemmas.Nat.Bits.{bit_at_and, bit_at-zero, same_from_bits}
use Rattle.std.specs.Prelude.{Decides, min}
use Rattle.std.proofs.lemmas.Nat.Bits.{and_pow, bit_at-lt, bit_at-pow_other, bit_at-pow_same, bit_at_ones, bit_at_or}
use Rattle.std.specs.Int.Bits.{and_self, and_zero_r}
use Rattle.rt_geo.specs.Layers.{HasSome, IsOneLayer, all_layers, disjoint, has, most_layer, only, subset, union}
use Rattle.rt_geo.specs.declared.layers.Layers.{Layers}

-- what a test that two numbers are one tells, and what tells it
same_from : (m n : ℕ) → (m == n) ≡ true → m ≡ n
same_from m n e = grind (arith, nat_tests)

same_to : (m n : ℕ) → m ≡ n → (m == n) ≡ true
same_to m n e = grind (arith, nat_tests)

apart_to : (m n : ℕ) → m ≢ n → (m == n) ≡ false
apart_to m n e = grind (arith, nat_tests)

-- ---- subsets

pub subset-same : (a : Layers) → subset a a ≡ true
subset-same a = same_to _ _ (and_self a.bits)

pub subset-trans : (a b c : Layers) → subset a b ≡ true → subset b c ≡ true → subset a c ≡ true
subset-trans a b c p q =
    let first = same_from _ _ p in
    let second = same_from _ _ q in
    same_to _ _ (ap (λ n. bit_and n c.bits) (sym first) ∙ and_assoc c.bits a.bits b.bits ∙ ap (bit_and a.bits) second
    ∙ first)

pub subset-union_right : (a b : Layers) → subset b (union a b) ≡ true
subset-union_right a b = same_to _ _ (and_comm b.bits (bit_or a.bits b.bits) ∙ and_or_self b.bits a.bits)

pub subset-union_left : (a b : Layers) → subset a (union a b) ≡ true
subset-union_left a b = same_to _ _ (ap (bit_and a.bits) (or_comm a.bits b.bits)
    ∙ and_comm a.bits (bit_or b.bits a.bits) ∙ and_or_self a.bits b.bits)

-- ---- sets with some layer

pub HasSome-only : (layer : ℕ) → layer ≤ most_layer → HasSome (only layer)
HasSome-only layer few = record { some = pow_pos layer; fits = pow_below layer 64 (omega (arith, few)) }

pub HasSome-union : (a b : Layers) → HasSome a → HasSome b → HasSome (union a b)
HasSome-union a b p q =
    let least = le_or_l a.bits b.bits in
    let some = p.some in
    record { some = omega (arith, least, some); fits = or_lt 64 a.bits b.bits p.fits q.fits }

-- ---- sets that share no layer

-- a part of a set shares none with a set with which the whole shares none
pub disjoint-part : (a b c : Layers) → subset a b ≡ true → disjoint b c ≡ true → disjoint a c ≡ true
disjoint-part a b c p q =
    same_to _ _ (ap (λ n. bit_and n c.bits) (sym (same_from _ _ p)) ∙ and_assoc c.bits a.bits b.bits
    ∙ ap (bit_and a.bits) (same_from _ _ q) ∙ and_zero_r a.bits)

-- a single layer of a set is shared with it
pub disjoint-one : (a b : Layers) → IsOneLayer a → subset a b ≡ true → disjoint a b ≡ false
disjoint-one a b one p =
    let there : 0 < a.bits = rw one.is (pow_pos one.layer) in
    let is = same_from _ _ p in
    rw is (grind (arith, nat_tests))

-- ---- which layers are in a set

-- a bit is 0 or 1
either : (m n : ℕ) → m < 2 → n < 2 → (max m n == 1) ≡ (m == 1 || n == 1)
either m n p q = grind (arith, nat_tests)

none_of : (m n : ℕ) → m < 2 → 0 < n → (m * n == 0) ≡ not (m == 1)
none_of zero n p q = same_to (0 * n) 0 (omega arith)
none_of (suc zero) n p q = grind (arith, nat_tests)
none_of (suc (suc m)) n p q = absurd (omega (arith, p))

pub has-union : (a b : Layers) (layer : ℕ) → has (union a b) layer ≡ (has a layer || has b layer)
has-union a b layer = rw bit_at_or
    (either (bit_at a.bits layer) (bit_at b.bits layer) (bit_at-lt a.bits layer) (bit_at-lt b.bits layer))

pub has-only : (layer other : ℕ) → has (only layer) other ≡ (other == layer)
has-only layer other = elim (cases_eq other layer) [
  | inl e ↦ rw e (ap (λ n. n == 1) (bit_at-pow_same layer) ∙ sym (same_to layer layer refl))
  | inr apart ↦ ap (λ n. n == 1) (bit_at-pow_other layer other apart) ∙ sym (apart_to other layer apart)
]

-- each layer is among all of them
pub has-all : (layer : ℕ) → layer ≤ most_layer → has all_layers layer ≡ true
has-all layer few = ap (λ n. n == 1) (bit_at_ones 64 layer (omega (arith, few)))

-- a single layer is shared with a set exactly where it is in the set
pub disjoint-only : (layer : ℕ) (selected : Layers) → disjoint (only layer) selected ≡ not (has selected layer)
disjoint-only layer selected =
    ap (λ n. n == 0) (and_comm (2 ^ layer) selected.bits ∙ and_pow selected.bits layer)
    ∙ none_of (bit_at selected.bits layer) (2 ^ layer) (bit_at-lt selected.bits layer) (pow_pos layer)

-- ---- the two tests by what is in the sets

min_zero : (m n : ℕ) → m < 2 → n < 2 → min m n ≡ 0 → (m == 1) ≡ true → (n == 1) ≡ false
min_zero m n p q e h = grind (arith, nat_tests)

zero_min : (m n : ℕ) → m < 2 → n < 2 → ((m == 1) ≡ true → (n == 1) ≡ false) → min m n ≡ 0
zero_min zero n p q h = omega arith
zero_min (suc m) zero p q h = omega arith
zero_min (suc zero) (suc zero) p q h = absurd (true≢false (h refl))
zero_min (suc zero) (suc (suc n)) p q h = absurd (omega (arith, q))
zero_min (suc (suc m)) (suc n) p q h = absurd (omega (arith, p))

pub disjoint-has : (a b : Layers) → Decides (disjoint a b) ((layer : ℕ) → has a layer ≡ true → has b layer ≡ false)
disjoint-has a b = (
  (λ e layer h. min_zero _ _ (bit_at-lt a.bits layer) (bit_at-lt b.bits layer)
      (sym (bit_at_and a.bits b.bits layer) ∙ ap (λ n. bit_at n layer) (same_from _ _ e) ∙ bit_at-zero layer) h),
  (λ h. same_to _ _ (same_from_bits _ _ (λ i. bit_at_and a.bits b.bits i
      ∙ zero_min _ _ (bit_at-lt a.bits i) (bit_at-lt b.bits i) (h i) ∙ sym (bit_at-zero i)))),
)

min_same : (m n : ℕ) → m < 2 → n < 2 → min m n ≡ m → (m == 1) ≡ true → (n == 1) ≡ true
min_same m n p q e h = grind (arith, nat_tests)

same_min : (m n : ℕ) → m < 2 → n < 2 → ((m == 1) ≡ true → (n == 1) ≡ true) → min m n ≡ m
same_min zero n p q h = omega arith
same_min (suc zero) n p q h = let is = same_from n 1 (h refl) in omega (arith, is)
same_min (suc (suc m)) n p q h = absurd (omega (arith, p))

pub subset-has : (a b : Layers) → Decides (subset a b) ((layer : ℕ) → has a layer ≡ true → has b layer ≡ true)
subset-has a b = (
  (λ e layer h. min_same _ _ (bit_at-lt a.bits layer) (bit_at-lt b.bits layer)
      (sym (bit_at_and a.bits b.bits layer) ∙ ap (λ n. bit_at n layer) (same_from _ _ e)) h),
  (λ h. same_to _ _ (same_from_bits _ _ (λ i. bit_at_and a.bits b.bits i
      ∙ same_min _ _ (bit_at-lt a.bits i) (bit_at-lt b.bits i) (h i)))),
)
