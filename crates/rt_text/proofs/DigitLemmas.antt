-- The digits of a number, in lanes and in its text.
use Rattle.std.proofs.Common.{◌≡◌, ◌∙◌, ◌+◌, ◌-◌, ◌*◌, ◌/◌, ◌%◌, ◌^◌, ◌<◌, ◌≤◌, ◌==◌, ℕ, zero, suc, Bool, false, cond, not, eqb, List, [], ◌∷◌, ◌++◌, map, length, drop, get_or, replicate, refl, sym, ap, subst, arith, w8, append_assoc, append-nil, pow-suc}
use Rattle.std.specs.Fmt.{decimal}
use Rattle.std.specs.Int.Count.{count_trailing_zeros}
use Rattle.std.specs.Int.Digits.{number_from_digits, number_from_digits_after, AllBelowBase}
use Rattle.std.specs.List.{prefix_len}
use Rattle.std.specs.Simd.Lanes.{digits_l, mask_l, number_l, top, zip2}
use Rattle.std.proofs.lemmas.Bool.Decides.{nat_tests}
use Rattle.std.proofs.lemmas.Fmt.{decimal_digit, decimal_step}
use Rattle.std.proofs.lemmas.Int.Digits.{number_after_ge}
use Rattle.std.proofs.lemmas.Simd.{bitmask_splat, trailing_mask_l}

-- ---- two digits in a lane

-- ---- in the text of a number

-- the text of digits
abbrev pub text : List ℕ → List ℕ
text digits = map (λ digit. 48 + digit) digits

-- digits behind a number above 0 are the end of its text
pub digits_behind : (n : ℕ) (ds : List ℕ) → 0 < n → AllBelowBase 10 ds → number_from_digits_after 10 n ds < 2 ^ 64
    → decimal (number_from_digits_after 10 n ds) ≡ decimal n ++ text ds
digits_behind n [] some below small = sym (append-nil (decimal n))
digits_behind n (d ∷ ds) some below small =
    let first = number_after_ge 10 (n * 10 + d) ds (omega arith) in
    let tens : (n * 10 + d) / 10 ≡ n = omega (arith, below.0) in
    let ones : (n * 10 + d) % 10 ≡ d = omega (arith, below.0) in
    digits_behind (n * 10 + d) ds (omega (arith, some)) below.1 small
    ∙ ap (λ front. front ++ text ds) (decimal_step (n * 10 + d) (omega (arith, some)) (omega (arith, first, small)))
    ∙ rw (tens, ones) (append_assoc (decimal n) ((48 + d) ∷ []) (text ds))

above_zero : (d : ℕ) → (suc d == 0) ≡ false
above_zero d = grind (arith, nat_tests)

-- a number's text is that of its digits, without the zeros in front
pub digits_whole : (ds : List ℕ) → AllBelowBase 10 ds → 0 < number_from_digits 10 ds → number_from_digits 10 ds < 2 ^ 64
    → drop (prefix_len (λ digit. digit == 0) ds) (text ds) ≡ decimal (number_from_digits 10 ds)
digits_whole [] below some small = absurd (omega (arith, some))
digits_whole (zero ∷ ds) below some small =
    let one : 1 + prefix_len (λ digit. digit == 0) ds ≡ suc (prefix_len (λ digit. digit == 0) ds) = omega arith in
    rw one (digits_whole ds below.1 some small)
digits_whole (suc d ∷ ds) below some small =
    let first : number_from_digits 10 (suc d ∷ ds) ≡ number_from_digits_after 10 (suc d) ds = ap (λ n. number_from_digits_after 10 n ds) (omega arith) in
    let behind = digits_behind (suc d) ds (omega arith) below.1 (omega (arith, first, small)) in
    rw (above_zero d) (sym (ap decimal first ∙ behind ∙ ap (λ front. front ++ text ds) (decimal_digit (suc d) below.0)))

-- digits behind others, and what they are worth
digits_after : (n m : ℕ) (ds : List ℕ) → number_from_digits_after 10 (n + m) ds ≡ n * 10 ^ length ds + number_from_digits_after 10 m ds
digits_after n m [] = omega arith
digits_after n m (d ∷ ds) =
    let front : (n + m) * 10 + d ≡ n * 10 + (m * 10 + d) = omega arith in
    ap (λ x. number_from_digits_after 10 x ds) front ∙ digits_after (n * 10) (m * 10 + d) ds ∙ omega (arith, ap (λ x. n * x) (pow-suc 10 (length ds)))

-- a long number's text, by what stands before its sixteen last digits
pub text_split : (n : ℕ) (ds : List ℕ) → 10 ^ 16 ≤ n → n < 2 ^ 64 → length ds ≡ 16 → AllBelowBase 10 ds → number_from_digits 10 ds ≡ n % 10 ^ 16
    → decimal n ≡ decimal (n / 10 ^ 16) ++ text ds
text_split n ds long small sixteen below e =
    let split : number_from_digits_after 10 (n / 10 ^ 16) ds ≡ n =
    ap (λ x. number_from_digits_after 10 x ds) (omega arith) ∙ digits_after (n / 10 ^ 16) 0 ds ∙ rw (sixteen, e) (omega arith) in
    ap decimal (sym split) ∙ digits_behind (n / 10 ^ 16) ds (omega (arith, long)) below (omega (arith, split, small))

-- ---- zeros in front

abbrev is_some : ℕ → Bool
is_some digit = not (eqb digit 0)

some_set : (ds : List ℕ) → 0 < number_from_digits 10 ds → 0 < mask_l (map is_some ds)
some_set [] some = absurd (omega (arith, some))
some_set (zero ∷ ds) some = omega (arith, some_set ds some)
some_set (suc d ∷ ds) some = rw (above_zero d) (omega arith)

zeros_first : (ds : List ℕ) → prefix_len (λ digit. not (is_some digit)) ds ≡ prefix_len (λ digit. digit == 0) ds
zeros_first [] = refl
zeros_first (zero ∷ ds) = ap (λ n. 1 + n) (zeros_first ds)
zeros_first (suc d ∷ ds) = rw (above_zero d) refl

-- the mask of the digits that are not 0 tells how many zeros stand before them
pub zeros_of_mask : (ds : List ℕ) → length ds ≡ 16 → 0 < number_from_digits 10 ds
    → count_trailing_zeros 64 (mask_l (map (top 7) (zip2 (λ a b. cond (not (eqb a b)) 255 0) ds (replicate 16 0))) % 2 ^ 64)
    ≡ prefix_len (λ digit. digit == 0) ds
zeros_of_mask ds long some =
    ap (count_trailing_zeros 64) (bitmask_splat w8 (λ a b. not (eqb a b)) ds 16 0 long (omega arith))
    ∙ trailing_mask_l is_some 64 ds (omega (arith, long)) (some_set ds some)
    ∙ zeros_first ds

-- ---- digits in bytes

-- two digits, each in a byte of a lane
abbrev lane : ℕ → ℕ
lane z = (z / 10 + (z + (65536 - z / 10 * 10 % 65536)) % 65536 * 256 % 65536) % 65536

abbrev pairs : List ℕ → List ℕ
pairs [] = []
pairs (z ∷ zs) = z / 10 ∷ z % 10 ∷ pairs zs

abbrev twice : List ℕ → ℕ
twice [] = 0
twice (z ∷ zs) = suc (suc (twice zs))

bytes_of : (zs : List ℕ) → AllBelowBase 100 zs → digits_l 256 (twice zs) (number_l 65536 (map lane zs)) ≡ pairs zs
bytes_of [] h = refl
bytes_of (z ∷ zs) h =
    let rest = number_l 65536 (map lane zs) in
    let is : lane z ≡ z / 10 + 256 * (z % 10) = omega (arith, h.0) in
    let tens : (lane z + 65536 * rest) % 256 ≡ z / 10 = rw is (omega (arith, h.0)) in
    let ones : (lane z + 65536 * rest) / 256 % 256 ≡ z % 10 = rw is (omega (arith, h.0)) in
    let on : (lane z + 65536 * rest) / 256 / 256 ≡ rest = rw is (omega (arith, h.0)) in
    (λ i. tens i ∷ ones i ∷ digits_l 256 (twice zs) (on i)) ∙ ap (λ l. z / 10 ∷ z % 10 ∷ l) (bytes_of zs h.1)

pairs_are : (n : ℕ) (zs : List ℕ) → AllBelowBase 100 zs
    → AllBelowBase 10 (pairs zs) × (number_from_digits_after 10 n (pairs zs) ≡ number_from_digits_after 100 n zs)
pairs_are n [] h = (tt, refl)
pairs_are n (z ∷ zs) h =
    let more = pairs_are (n * 100 + z) zs h.1 in
    let e : (n * 10 + z / 10) * 10 + z % 10 ≡ n * 100 + z = omega arith in
    ((omega (arith, h.0), (omega arith, more.0)), ap (λ x. number_from_digits_after 10 x (pairs zs)) e ∙ more.1)

-- the bytes of such lanes are digits, and write the same number
pub unpacked : (zs : List ℕ) → AllBelowBase 100 zs
    → let bytes = digits_l 256 (twice zs) (number_l 65536 (map lane zs)) in AllBelowBase 10 bytes × (number_from_digits 10 bytes ≡ number_from_digits 100 zs)
unpacked zs h = subst (λ l. AllBelowBase 10 l × (number_from_digits 10 l ≡ number_from_digits 100 zs)) (sym (bytes_of zs h)) (pairs_are 0 zs h)

-- their text, in lanes
pub in_text : (ds : List ℕ) (n : ℕ) → length ds ≡ n → AllBelowBase 10 ds → zip2 (λ a b. (a + b) % 256) ds (replicate n 48) ≡ text ds
in_text [] zero e h = refl
in_text [] (suc n) e h = refl
in_text (d ∷ ds) zero e h = absurd (omega (arith, e))
in_text (d ∷ ds) (suc n) e h =
    let one : (d + 48) % 256 ≡ 48 + d = omega (arith, h.0) in
    λ i. one i ∷ in_text ds n (omega (arith, e)) h.1 i

-- ---- eight digits

-- the eight of a list, each by itself
pub eight : (ds : List ℕ) → length ds ≡ 8
    → ds ≡ get_or ds 0 0 ∷ get_or ds 1 0 ∷ get_or ds 2 0 ∷ get_or ds 3 0 ∷ get_or ds 4 0 ∷ get_or ds 5 0 ∷ get_or ds 6 0 ∷ get_or ds 7 0 ∷ []
eight (a ∷ b ∷ c ∷ d ∷ e ∷ f ∷ g ∷ h ∷ []) long = refl
eight [] long = absurd (omega (arith, long))
eight (a ∷ []) long = absurd (omega (arith, long))
eight (a ∷ b ∷ []) long = absurd (omega (arith, long))
eight (a ∷ b ∷ c ∷ []) long = absurd (omega (arith, long))
eight (a ∷ b ∷ c ∷ d ∷ []) long = absurd (omega (arith, long))
eight (a ∷ b ∷ c ∷ d ∷ e ∷ []) long = absurd (omega (arith, long))
eight (a ∷ b ∷ c ∷ d ∷ e ∷ f ∷ []) long = absurd (omega (arith, long))
eight (a ∷ b ∷ c ∷ d ∷ e ∷ f ∷ g ∷ []) long = absurd (omega (arith, long))
eight (a ∷ b ∷ c ∷ d ∷ e ∷ f ∷ g ∷ h ∷ i ∷ is) long = absurd (omega (arith, long))

-- four digits, each by its worth and in lanes of 16 bits
pub weighed : (a b c d : ℕ) → a < 10 → b < 10 → c < 10 → d < 10
    → ((a * 1000 % 65536 + c * 10 % 65536) % 65536 + (b * 100 % 65536 + d * 1 % 65536) % 65536) % 65536 ≡ a * 1000 + b * 100 + c * 10 + d
weighed a b c d p q r s = omega (arith, p, q, r, s)
