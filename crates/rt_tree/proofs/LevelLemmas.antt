-- The sizes of levels.
use Rattle.std.proofs.Common.{◌≡◌, ◌∙◌, ◌<◌, ◌≤◌, ◌+◌, ◌*◌, ◌/◌, ◌^◌, ◌-◌, ℕ, zero, suc, Bool, true, false, cond, nat_le}
use Rattle.std.proofs.Common.{if◌then◌else◌, List, [], ◌∷◌, ◌++◌, refl, sym, ap, arith, append_assoc}
use Rattle.std.proofs.{Math.Nat.{div-add-mod, mul-le-mul_left, pow-succ'}, lemmas.Bool.Decides.{nat_tests}}
use Rattle.std.proofs.lemmas.Grind.{div_ceil_times}
use Rattle.std.specs.Int.{div_ceil}
use Rattle.rt_tree.specs.Levels.{sizes_above}

-- a level has about half as many nodes as the one below it, or fewer
pub div_ceil-halves : (size fanout : ℕ) → 2 ≤ fanout → 2 * div_ceil size fanout ≤ size + 1
div_ceil-halves size fanout two = omega (arith, div-add-mod size fanout, mul-le-mul_left (size / fanout) two)

pub div_ceil-positive : (size fanout : ℕ) → 2 ≤ fanout → 0 < size → 0 < div_ceil size fanout
div_ceil-positive size fanout two some = grind (arith, div_ceil_times)

further : (b : Bool) (rest other : List ℕ) → (b ≡ false → rest ≡ other) → cond b [] rest ≡ cond b [] other
further true rest other h = refl
further false rest other h = h refl

-- what is above a level with more than one above it needs less fuel
pub less_fuel : (above size fuel : ℕ) → 2 * above ≤ size + 1 → size ≤ suc fuel → nat_le above 1 ≡ false → above ≤ fuel
less_fuel above size fuel h f e = grind (arith, nat_tests)

-- any fuel that is no less than the size is enough
pub sizes_above-fuel : (fuel more fanout size : ℕ) → 2 ≤ fanout → 0 < size → size ≤ fuel → size ≤ more
    → sizes_above fuel fanout size ≡ sizes_above more fanout size
sizes_above-fuel zero more fanout size two some f g = absurd (omega arith)
sizes_above-fuel (suc fuel) zero fanout size two some f g = absurd (omega arith)
sizes_above-fuel (suc fuel) (suc more) fanout size two some f g =
    let above = div_ceil size fanout in
    let halves = div_ceil-halves size fanout two in
    let positive = div_ceil-positive size fanout two some in
    ap (λ rest. above ∷ rest) (further (nat_le above 1) _ _ (λ e. sizes_above-fuel fuel more fanout above two
    positive (less_fuel above size fuel halves f e) (less_fuel above size more halves g e)))

-- the sizes of a level of so many, and of those above it
abbrev pub sizes_from : (fanout size : ℕ) → List ℕ
sizes_from fanout size = size ∷ (if nat_le size 1 then [] else sizes_above size fanout size)

-- one level after another: the level above one of so many items, and those above that
pub sizes_above-step : (fanout size : ℕ) → 2 ≤ fanout → 0 < size
    → sizes_above size fanout size ≡ sizes_from fanout (div_ceil size fanout)
sizes_above-step fanout zero two some = absurd (omega arith)
sizes_above-step fanout (suc size) two some =
    let above = div_ceil (suc size) fanout in
    let halves = div_ceil-halves (suc size) fanout two in
    let positive = div_ceil-positive (suc size) fanout two some in
    ap (λ rest. above ∷ rest) (further (nat_le above 1) _ _ (λ e. sizes_above-fuel size above fanout above two
    positive (less_fuel above (suc size) size halves (omega arith) e) (omega arith)))

pub sizes_from-step : (fanout size : ℕ) → 2 ≤ fanout → 1 < size
    → sizes_from fanout size ≡ size ∷ sizes_from fanout (div_ceil size fanout)
sizes_from-step fanout size several more = let above : nat_le size 1 ≡ false = grind (arith, nat_tests) in
    rw above (ap (λ l. size ∷ l) (sizes_above-step fanout size several (omega arith)))

-- ---- a loop that has returned the levels up to one of so many

-- it tells one more, which isn't the last one
pub course_more : (levels : List ℕ) (fanout size : ℕ) (whole : List ℕ) → 2 ≤ fanout → 0 < size
    → let above = div_ceil size fanout in (above ≡ 1 → ⊥) → levels ++ sizes_above size fanout size ≡ whole
    → (levels ++ above ∷ []) ++ sizes_above above fanout above ≡ whole
course_more levels fanout size whole two some more e =
    let above = div_ceil size fanout in
    let positive = div_ceil-positive size fanout two some in
    let several : nat_le above 1 ≡ false = grind (arith, nat_tests) in
    append_assoc levels (above ∷ []) _ ∙ ap (λ l. levels ++ l) (sym (sizes_above-step fanout size two some
    ∙ rw several refl)) ∙ e

-- ---- a level has no more than a power of 2, which halves from one to the next

-- one with more than one has another above it
pub power_left : (left size : ℕ) → size ≤ 2 ^ left → 1 < size → 0 < left
power_left zero size below more = absurd (omega arith)
power_left (suc left) size below more = omega arith

pub power_more : (left size above : ℕ) → size ≤ 2 ^ left → 0 < left → 2 * above ≤ size + 1 → above ≤ 2 ^ (left - 1)
power_more left size above below some halves =
    let next : left ≡ suc (left - 1) = omega arith in
    let twice : 2 ^ left ≡ 2 * 2 ^ (left - 1) = ap (λ n. 2 ^ n) next ∙ pow-succ' 2 (left - 1) in
    omega arith
