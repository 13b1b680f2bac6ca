-- Numbers as text: one digit at a time, up to a greatest number, and one range within another.
use Rattle.std.proofs.Common.{◌≡◌, ◌+◌, ◌*◌, ◌-◌, ◌%◌, ◌<◌, ◌≤◌, ℕ, zero, suc, ℤ, pos, negsuc, ◌^◌, min, Bool, true, false, ◌&&◌, Option, Some, None, List, [], ◌∷◌, map, replicate, take, length, get_or, arith, ◌∙◌, ap, sym, refl, add-one}
use Rattle.std.specs.Prelude.{Result, Ok, Err, int_le, if◌then◌else◌, neg_ℤ, option_map}
use Rattle.std.specs.Char.{digit_value, is_ascii_digit}
use Rattle.std.specs.Int.Digits.{AllBelowBase, number_from_digits}
use Rattle.std.specs.List.{list_all}
use Rattle.std.specs.Simd.Lanes.{zip2}
use Rattle.std.specs.Str.Parse.{digits_value, signed_digits_value, starts_with_minus, without_leading_sign}
use Rattle.std.proofs.Math.Nat.{pow-le-pow_right, pow-suc}
use Rattle.std.proofs.lemmas.Bool.Decides.{nat_tests}
use Rattle.std.proofs.lemmas.Int.Digits.{digits_value_is, digits_value_more, number_lt}
use Rattle.std.proofs.lemmas.List.{length-map, take_all}
use Rattle.std.proofs.lemmas.List.Folds.{list_all_more}
use Rattle.rt_text.specs.Numbers.{digits_number, in_range, is_numeral, number_text}
use Rattle.rt_text.specs.declared.numbers.NumberFault.{NumberFault}
use Rattle.rt_text.specs.declared.numbers.NumberFault.TheVariants as fault

-- ---- one more digit

pub all_digits-more : (xs : List ℕ) (i : ℕ) → i < length xs → list_all is_ascii_digit (take i xs) ≡ true → is_ascii_digit (get_or xs i 0) ≡ true
    → list_all is_ascii_digit (take (i + 1) xs) ≡ true
all_digits-more xs i h before here = list_all_more is_ascii_digit xs i 0 h ∙ rw (before, here) refl

-- a cap at each step is a cap at the end
capped_step : (n d most : ℕ) → min (min (min n most * 10) most + d) most ≡ min (n * 10 + d) most
capped_step n d most = omega arith

digit_value-ascii : (c : ℕ) → is_ascii_digit c ≡ true → digit_value c ≡ c - 48
digit_value-ascii c h = grind (arith, nat_tests)

pub capped_value-more : (most : ℕ) (xs : List ℕ) (i : ℕ) → i < length xs → is_ascii_digit (get_or xs i 0) ≡ true
    → min (min (min (digits_value 10 (take i xs)) most * 10) most + (get_or xs i 0 - 48)) most ≡ min (digits_value 10 (take (i + 1) xs)) most
capped_value-more most xs i h d =
    capped_step (digits_value 10 (take i xs)) (get_or xs i 0 - 48) most
    ∙ ap (λ v. min (digits_value 10 (take i xs) * 10 + v) most) (sym (digit_value-ascii (get_or xs i 0) d))
    ∙ ap (λ v. min v most) (sym (digits_value_more 10 xs i h))

-- ---- digits that a u64 can hold

pub short_value-more : (xs : List ℕ) (i : ℕ) → i < length xs → is_ascii_digit (get_or xs i 0) ≡ true
    → digits_value 10 (take i xs) * 10 + (get_or xs i 0 - 48) ≡ digits_value 10 (take (i + 1) xs)
short_value-more xs i h d =
    ap (λ v. digits_value 10 (take i xs) * 10 + v) (sym (digit_value-ascii (get_or xs i 0) d)) ∙ sym (digits_value_more 10 xs i h)

-- one digit more
pub small-more : (i m c : ℕ) → m < 10 ^ i → is_ascii_digit c ≡ true → m * 10 + (c - 48) < 10 ^ (i + 1)
small-more i m c h d = rw (add-one i, pow-suc 10 i) (omega (arith, nine c d))
  where
    nine : (c : ℕ) → is_ascii_digit c ≡ true → c - 48 ≤ 9
    nine c d = grind (arith, nat_tests)

-- what few digits can write, more can
pub fewer_digits : (i j m : ℕ) → i ≤ j → m < 10 ^ i → m < 10 ^ j
fewer_digits i j m h small = omega (arith, small, pow-le-pow_right {n = 10} (omega arith) {i = i} {j = j} h)

-- ---- eight digits in lanes

-- digits, each less the character of zero
abbrev AreValues : List ℕ → ℕ → Type 0
AreValues xs n = (zip2 (λ a b. (a + (256 - b)) % 256) xs (replicate n 48) ≡ map digit_value xs) × AllBelowBase 10 (map digit_value xs)

values : (xs : List ℕ) (n : ℕ) → length xs ≡ n → list_all is_ascii_digit xs ≡ true → AreValues xs n
values [] n long all = (refl, tt)
values (x ∷ xs) zero long all = absurd (omega (arith, long))
values (x ∷ xs) (suc n) long all = by (is_ascii_digit x) refl all (λ h. values xs n (omega (arith, long)) h)
  where
    value : is_ascii_digit x ≡ true → ((x + (256 - 48)) % 256 ≡ x - 48) × (x - 48 < 10)
    value h = grind (arith, nat_tests)

    by : (b : Bool) → is_ascii_digit x ≡ b → list_all is_ascii_digit (x ∷ xs) ≡ true → (list_all is_ascii_digit xs ≡ true → AreValues xs n) → AreValues (x ∷ xs) (suc n)
    by true e h more =
        let rest = more (rw e at h) in
        let here = value e in
        let is = digit_value-ascii x e in
        (λ i. (here.0 ∙ sym is) i ∷ rest.0 i, (omega (arith, here.1, is), rest.1))
    by false e h more = let none : false ≡ true = rw e at h in absurd cc

pub in_lanes : (xs : List ℕ) → length xs ≡ 8 → list_all is_ascii_digit xs ≡ true
    → let lanes = zip2 (λ a b. (a + (256 - b)) % 256) (take 8 xs) (replicate 8 48) in
    (AllBelowBase 10 lanes) × (length lanes ≡ 8) × (number_from_digits 10 lanes ≡ digits_value 10 xs) × (digits_value 10 xs < 10 ^ 8)
in_lanes xs long all =
    let v = values xs 8 long all in
    let whole : take 8 xs ≡ xs = take_all 8 xs (omega (arith, long)) in
    let is = digits_value_is 10 xs in
    let less : number_from_digits 10 (map digit_value xs) < 10 ^ length (map digit_value xs) = number_lt 10 (map digit_value xs) v.1 in
    let eight : length (map digit_value xs) ≡ 8 = length-map xs digit_value ∙ long in
    rw (whole, v.0) (v.1, eight, sym is, rw (eight, ← is) at less)

-- before the last of 19 digits
pub short_step : (i m : ℕ) → i < 19 → m < 10 ^ i → m < 10 ^ 18
short_step i m h small = omega (arith, pow-le-pow_right {n = 10} (omega arith) {i = i} {j = 18} (omega arith))

-- ---- a range within another

-- the ends of the range of `i128`
abbrev pub least_i128 : ℤ
least_i128 = negsuc (2 ^ 127 - 1)

abbrev pub most_i128 : ℤ
most_i128 = pos (2 ^ 127 - 1)

if_true : {A : Type 0} (b : Bool) (x y : A) → b ≡ true → (if b then x else y) ≡ x
if_true b x y e = rw e refl

if_false : {A : Type 0} (b : Bool) (x y : A) → b ≡ false → (if b then x else y) ≡ y
if_false b x y e = rw e refl

-- a number of the wide range is judged by the narrow one alone
pub in_range-narrower_ok : (least most low high : ℤ) (o : Option ℤ) (n : ℤ)
    → Ok n ≡ in_range least most o → in_range low high (Some n) ≡ in_range low high o
in_range-narrower_ok least most low high None n e = absurd cc
in_range-narrower_ok least most low high (Some m) n e = by (int_le least m && int_le m most) refl
  where
    by : (w : Bool) → (int_le least m && int_le m most) ≡ w → in_range low high (Some n) ≡ in_range low high (Some m)
    by true p = let x : ◌≡◌ {A = Result ℤ NumberFault} (Ok n) (Ok m) = e ∙ if_true _ _ _ p in let y : n ≡ m = cc in rw y refl
    by false p = let x : ◌≡◌ {A = Result ℤ NumberFault} (Ok n) (Err fault.OutOfRange) = e ∙ if_false _ _ _ p in absurd cc

-- ---- a text that is read whole

-- the number in front of a text, where it takes all of it
pub number_text-whole : (text : List ℕ) (len : ℕ) (n : ℤ) → len ≡ length text → number_text (take len text) ≡ Some n → number_text text ≡ Some n
number_text-whole text len n all read = ap number_text (sym (take_all len text (omega (arith, all)))) ∙ read

-- ---- a sign

-- the number with the sign that a text begins with
abbrev pub signed_as : (text : List ℕ) → ℕ → ℤ
signed_as text n = if starts_with_minus text then neg_ℤ (pos n) else pos n

-- the number of a text, by the digits behind its sign
pub number_text-signed : (text : List ℕ) → number_text text ≡ option_map (signed_as text) (digits_number (without_leading_sign text))
number_text-signed text = by (is_numeral digits)
  where
    digits : List ℕ
    digits = without_leading_sign text

    by : (b : Bool) → (if b then Some (signed_digits_value 10 text) else None)
        ≡ option_map (signed_as text) (if b then Some (digits_value 10 digits) else None)
    by true = refl
    by false = refl
