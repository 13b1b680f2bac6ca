-- The number that an option's text writes, where it passed a parser of whole numbers above 0.
use Rattle.std.proofs.Common.{◌≡◌, ◌∙◌, ◌^◌, ◌<◌, ◌≤◌, ap, ℕ, pos, Bool, true, false, drop, List, [], ◌∷◌, Option, Some, None, refl, sym, subst, arith}
use Rattle.std.specs.Prelude.{neg_ℤ, ◌≤ℤ◌}
use Rattle.std.specs.Str.Parse.{ExplainsUnsignedError, HasUnsignedDigitsIfOk, IsNumeral, ParsesUnsigned, digits_value, starts_with_minus, without_leading_plus}
use Rattle.std.proofs.lemmas.Int.{ints}
use Rattle.clap.specs.Matches.{ReadsOne}
use Rattle.clap.specs.Words.{IsSignedIn, Row, first_of, one_text, rows_of, without_minus}
use Rattle.clap.specs.declared.parser.matches.Found.{Found}
use Rattle.clap.proofs.WalkLemmas.{one_text-rows}
use Rattle.rt_command.specs.Invocations.{HasNumber, option_number}

-- ---- a text above 0

-- it has no minus, and its digits write a number of the range
record IsAbove (low high : ℕ) (text : List ℕ) : Type 0 where
  pub plain : starts_with_minus text ≡ false
  pub numeral : IsNumeral 10 (without_leading_plus text)
  pub least : low ≤ digits_value 10 (without_leading_plus text)
  pub most : digits_value 10 (without_leading_plus text) ≤ high

above : (low high : ℕ) (text : List ℕ) → 1 ≤ low → IsSignedIn (pos low) (pos high) text → IsAbove low high text
above low high text some h = by (starts_with_minus text) refl
  where
    by : (b : Bool) → starts_with_minus text ≡ b → IsAbove low high text
    by true e =
        let least : pos low ≤ℤ neg_ℤ (pos (digits_value 10 (drop 1 text))) = rw e at h.2 in
        absurd (omega (arith, ints))
    by false e =
        let numeral : IsNumeral 10 (without_leading_plus text) = rw e at h.0 in
        let least : pos low ≤ℤ pos (digits_value 10 (without_leading_plus text)) = rw e at h.2 in
        let most : pos (digits_value 10 (without_leading_plus text)) ≤ℤ pos high = rw e at h.3 in
        record { plain = e; numeral = numeral; least = omega (arith, ints); most = omega (arith, ints) }

-- our own reading of the text
option_number-above : (low high : ℕ) (id text : List ℕ) (rows : List Row) → first_of id rows ≡ Some text → IsAbove low high text
    → option_number id rows ≡ Some (digits_value 10 (without_leading_plus text))
option_number-above low high id text rows is h = rw (is, h.plain) refl

-- clap's reading of it
without_minus-above : (low high : ℕ) (text : List ℕ) → IsAbove low high text → without_minus text ≡ text
without_minus-above low high [] h = refl
without_minus-above low high (c ∷ cs) h = rw h.plain refl

-- as `from_str` reads it at an unsigned type of k bits
reads_above : (k low high : ℕ) (text : List ℕ) (r : Option ℕ)
    → ReadsOne (λ bs x. ParsesUnsigned k 10 bs x × ExplainsUnsignedError 10 bs x × HasUnsignedDigitsIfOk bs x) text r
    → high < 2 ^ k → IsAbove low high text → r ≡ Some (digits_value 10 (without_leading_plus text))
reads_above k low high text (Some v) read fits h = ap Some read.0.1
reads_above k low high text None read fits h = absurd (read.1.0 (h.numeral, omega (arith, h.most)))

-- the number of an option that has one, as its text writes it
abbrev IsNumberOf : (id : List ℕ) → (low high : ℕ) → List Row → ℕ → Type 0
IsNumberOf id low high rows n = (option_number id rows ≡ Some n) × (low ≤ n) × (n ≤ high)

-- what a typed getter reads of such an option
pub number_read : (k low high : ℕ) (id : List ℕ) (f : Found) (r : Option ℕ) → HasNumber id low high (rows_of f)
    → ((text : List ℕ) → one_text f id ≡ Some text → ReadsOne (λ bs x. ParsesUnsigned k 10 bs x × ExplainsUnsignedError 10 bs x × HasUnsignedDigitsIfOk bs x) text r)
    → high < 2 ^ k → 1 ≤ low → (n : ℕ) × (r ≡ Some n) × IsNumberOf id low high (rows_of f) n
number_read k low high id f r h read fits some =
    let up = above low high h.0 some h.3 in
    let text : one_text f id ≡ Some h.0 = one_text-rows f id ∙ h.2 ∙ ap Some (without_minus-above low high h.0 up) in (
      digits_value 10 (without_leading_plus h.0),
      reads_above k low high h.0 r (read h.0 text) fits up,
      (option_number-above low high id h.0 (rows_of f) h.1 up, up.least, up.most),
    )

pub number_unwrapped : (low high : ℕ) (id : List ℕ) (rows : List Row) (r : Option ℕ) (v : ℕ) → ((n : ℕ) × (r ≡ Some n) × IsNumberOf id low high rows n) → r ≡ Some v
    → IsNumberOf id low high rows v
number_unwrapped low high id rows r v h e =
    let same : Some h.0 ≡ Some v = sym h.1 ∙ e in
    let is : h.0 ≡ v = cc in
    subst (IsNumberOf id low high rows) is h.2
