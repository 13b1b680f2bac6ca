-- A number in front of a text, and as the first word of a line.
use Rattle.std.proofs.Common.{◌≡◌, ◌∙◌, ◌+◌, ◌-◌, ◌<◌, ◌≤◌, ◌==◌, ℕ, zero, suc, ℤ, pos, Bool, true, false, cond, List, [], ◌∷◌, ◌++◌, Option, Some, None, length, take, drop, refl, sym, ap, arith}
use Rattle.std.specs.Prelude.{if◌then◌else◌, neg_ℤ, option_map}
use Rattle.std.specs.Char.{is_ascii_digit}
use Rattle.std.specs.List.{list_all, position_or_len}
use Rattle.std.specs.Str.Parse.{digits_value, starts_with_minus, without_leading_sign}
use Rattle.std.proofs.Math.Seq.{drop-append_seam, take-append_seam}
use Rattle.std.proofs.lemmas.Bool.Decides.{nat_tests}
use Rattle.std.proofs.lemmas.List.{take-append-drop}
use Rattle.rt_text.specs.Numbers.{digits_number, is_numeral, number_text}
use Rattle.rt_text.specs.Words.{is_blank, words}
use Rattle.rt_text.proofs.NumberLemmas.{number_text-signed, signed_as}
use Rattle.rt_text.proofs.WordLemmas.{words_first}

-- ---- in front of a text

-- some digits in front of a text, and not none
numeral-front : (xs : List ℕ) (k : ℕ) → 0 < k → k ≤ length xs → list_all is_ascii_digit (take k xs) ≡ true → is_numeral (take k xs) ≡ true
numeral-front [] k some within all = absurd (omega (arith, some, within))
numeral-front (x ∷ xs) zero some within all = absurd (omega (arith, some))
numeral-front (x ∷ xs) (suc k) some within all = all

digits_number-front : (xs : List ℕ) (k : ℕ) → 0 < k → k ≤ length xs → list_all is_ascii_digit (take k xs) ≡ true
    → digits_number (take k xs) ≡ Some (digits_value 10 (take k xs))
digits_number-front xs k some within all = rw (numeral-front xs k some within all) refl

-- the front of a text has its sign, and what stands behind it
sign-front : (text : List ℕ) (k len : ℕ) → 0 < k → 0 < length text → len ≡ length text - length (without_leading_sign text) + k
    → (starts_with_minus (take len text) ≡ starts_with_minus text) × (without_leading_sign (take len text) ≡ take k (without_leading_sign text))
sign-front [] k len some full e = absurd (omega (arith, full))
sign-front (c ∷ cs) zero len some full e = absurd (omega (arith, some))
sign-front (c ∷ cs) (suc j) len some full e = by (c == 45) (c == 43) refl refl
  where
    behind : (m p : Bool) → (c == 45) ≡ m → (c == 43) ≡ p → without_leading_sign (c ∷ cs) ≡ cond m cs (cond p cs (c ∷ cs))
    behind true p em ep = rw em refl
    behind false true em ep = rw (em, ep) refl
    behind false false em ep = rw (em, ep) refl

    by : (m p : Bool) → (c == 45) ≡ m → (c == 43) ≡ p
        → (starts_with_minus (take len (c ∷ cs)) ≡ starts_with_minus (c ∷ cs)) × (without_leading_sign (take len (c ∷ cs)) ≡ take (suc j) (without_leading_sign (c ∷ cs)))
    by true p em ep =
        let one : len ≡ suc (suc j) = omega (arith, e, ap length (behind true p em ep)) in
        (rw one refl, rw (one, em) refl)
    by false true em ep =
        let one : len ≡ suc (suc j) = omega (arith, e, ap length (behind false true em ep)) in
        (rw one refl, rw (one, em, ep) refl)
    by false false em ep =
        let same : len ≡ suc j = omega (arith, e, ap length (behind false false em ep)) in
        (rw same refl, rw (same, em, ep) refl)

-- the number of a text's front, by its digits
pub number_text-front : (text behind : List ℕ) (k len : ℕ) → behind ≡ without_leading_sign text → 0 < length text → 0 < k → k ≤ length behind
    → list_all is_ascii_digit (take k behind) ≡ true → len ≡ length text - length behind + k
    → number_text (take len text) ≡ Some (signed_as text (digits_value 10 (take k behind)))
number_text-front text behind k len b full some within all e =
    let front = sign-front text k len some full (e ∙ ap (λ l. length text - length l + k) b) in
    number_text-signed (take len text)
    ∙ ap (λ m. option_map (λ n. if m then neg_ℤ (pos n) else pos n) (digits_number (without_leading_sign (take len text)))) front.0
    ∙ ap (λ l. option_map (signed_as text) (digits_number l)) (front.1 ∙ ap (take k) (sym b))
    ∙ ap (option_map (signed_as text)) (digits_number-front behind k some within all)

-- ---- as a word

-- a digit is no blank
digit-no_blank : (c : ℕ) → is_ascii_digit c ≡ true → is_blank c ≡ false
digit-no_blank c h = grind (arith, nat_tests)

same : (c d : ℕ) → (c == d) ≡ true → c ≡ d
same c d h = grind (arith, nat_tests)

numeral-digits : (xs : List ℕ) → is_numeral xs ≡ true → list_all is_ascii_digit xs ≡ true
numeral-digits [] h = refl
numeral-digits (x ∷ xs) h = h

-- digits go on up to the next blank
digits-no_blank : (xs rest : List ℕ) → list_all is_ascii_digit xs ≡ true → position_or_len is_blank rest ≡ 0 → position_or_len is_blank (xs ++ rest) ≡ length xs
digits-no_blank [] rest all ends = ends
digits-no_blank (x ∷ xs) rest all ends = by (is_ascii_digit x) refl all (λ h. digits-no_blank xs rest h ends)
  where
    by : (b : Bool) → is_ascii_digit x ≡ b → list_all is_ascii_digit (x ∷ xs) ≡ true
        → (list_all is_ascii_digit xs ≡ true → position_or_len is_blank (xs ++ rest) ≡ length xs) → position_or_len is_blank ((x ∷ xs) ++ rest) ≡ length (x ∷ xs)
    by true e h more = rw (digit-no_blank x e, more (rw e at h)) (omega arith)
    by false e h more = let none : false ≡ true = rw e at h in absurd cc

-- so does the text of a number, which has a first byte
abbrev Full : List ℕ → List ℕ → Type 0
Full w rest = (0 < length w) × (position_or_len is_blank (w ++ rest) ≡ length w)

number-no_blank : (w rest : List ℕ) (n : ℤ) → number_text w ≡ Some n → position_or_len is_blank rest ≡ 0 → Full w rest
number-no_blank [] rest n e ends = let none : ◌≡◌ {A = Option ℤ} None (Some n) = e in absurd cc
number-no_blank (c ∷ cs) rest n e ends = by (c == 45) (c == 43) (is_numeral (without_leading_sign (c ∷ cs))) refl refl refl
  where
    signed : is_blank c ≡ false → is_numeral cs ≡ true → Full (c ∷ cs) rest
    signed no_blank numeral = (omega arith, rw (no_blank, digits-no_blank cs rest (numeral-digits cs numeral) ends) (omega arith))

    by : (m p b : Bool) → (c == 45) ≡ m → (c == 43) ≡ p → is_numeral (without_leading_sign (c ∷ cs)) ≡ b → Full (c ∷ cs) rest
    by m p false em ep eb = let none : ◌≡◌ {A = Option ℤ} None (Some n) = rw eb at e in absurd cc
    by true p true em ep eb = signed (rw (same c 45 em) refl) (rw em at eb)
    by false true true em ep eb = signed (rw (same c 43 ep) refl) (rw (em, ep) at eb)
    by false false true em ep eb =
        let all : list_all is_ascii_digit (c ∷ cs) ≡ true = rw (em, ep) at eb in
        (omega arith, digits-no_blank (c ∷ cs) rest all ends)

-- a number at whose end no word goes on is the first word
pub words-number : (w rest : List ℕ) (n : ℤ) → number_text w ≡ Some n → position_or_len is_blank rest ≡ 0 → words (w ++ rest) ≡ w ∷ words rest
words-number [] rest n e ends = absurd (omega (arith, (number-no_blank [] rest n e ends).0))
words-number (c ∷ cs) rest n e ends =
    let whole = (number-no_blank (c ∷ cs) rest n e ends).1 in
    words_first is_blank c (cs ++ rest) (first-no_blank c (cs ++ rest) (omega (arith, whole)))
    ∙ rw (whole, take-append_seam (c ∷ cs) rest, drop-append_seam (c ∷ cs) rest) refl
  where
    first-no_blank : (c : ℕ) (xs : List ℕ) → 0 < position_or_len is_blank (c ∷ xs) → is_blank c ≡ false
    first-no_blank c xs h = by (is_blank c) refl
      where
        by : (b : Bool) → is_blank c ≡ b → is_blank c ≡ false
        by true e = absurd (omega (arith, rw e at h))
        by false e = e

-- a number in front of a line is its first word, where no word goes on behind it
pub words-front : (text rest : List ℕ) (k : ℕ) (n : ℤ) → number_text (take k text) ≡ Some n → rest ≡ drop k text → (position_or_len is_blank rest == 0) ≡ true
    → words text ≡ take k text ∷ words rest
words-front text rest k n number e ends =
    ap words (sym (take-append-drop k text) ∙ ap (λ r. take k text ++ r) (sym e))
    ∙ words-number (take k text) rest n number (same (position_or_len is_blank rest) 0 ends)
