use Rattle.std.proofs.Common.{◌≡◌, ◌∙◌, ◌+◌, ◌/◌, ◌≤◌, ◌^◌, ◌==◌, ◌++◌, ℕ, List, drop, length, sym, ap, arith, append_assoc, length-append}
use Rattle.std.specs.Fmt.{decimal}
use Rattle.std.specs.List.{prefix_len}
use Rattle.std.proofs.lemmas.Fmt.{length-decimal-le}
use Rattle.std.proofs.lemmas.List.{drop-append-le, length-map}
use Rattle.std.proofs.lemmas.List.Sums.{prefix_len-le-length}
use Rattle.rt_text.proofs.DigitLemmas.{digits_whole, text, text_split}
use Rattle.rt_text.proofs.line.Line.prepend_long.Goals as goal

-- sixteen bytes more
longer : (digits old new : List ℕ) → length digits ≡ 16 → new ≡ text digits ++ old → length new ≡ 16 + length old
longer digits old new long e = ap length e ∙ length-append (text digits) old ∙ omega (arith, length-map digits (λ digit. 48 + digit), long)

pub drop_first-requires : goal.drop_first-requires
drop_first-requires c =
    let digits = c.sixteen_digits-digits in
    let zeros = prefix_len-le-length (λ (digit : ℕ). digit == 0) digits.result in
    omega (arith, longer digits.result c.args.self.now c.prepend_digits.new.self digits.ensures.digits.0 c.prepend_digits.ensures, zeros, c.zeros_in_front.ensures, digits.ensures.digits.0)

pub prepend_short-requires : goal.prepend_short-requires
prepend_short-requires c =
    let digits = c.sixteen_digits in
    let few = length-decimal-le 4 (c.args.number / 10 ^ 16) (omega arith) (omega arith) (omega arith) in
    omega (arith, longer digits.result c.args.self.now c.prepend_digits-else-number-lt-LONG.new.self digits.ensures.digits.0 c.prepend_digits-else-number-lt-LONG.ensures, few, c.requires.capacity)

pub returns-then-number-lt-LONG-clause-value : goal.returns-then-number-lt-LONG-clause-value
returns-then-number-lt-LONG-clause-value c =
    let digits = c.sixteen_digits-digits in
    let zeros = prefix_len (λ (digit : ℕ). digit == 0) digits.result in
    let within : zeros ≤ length (text digits.result) = omega (arith, prefix_len-le-length (λ (digit : ℕ). digit == 0) digits.result, length-map digits.result (λ digit. 48 + digit)) in
    c.drop_first.ensures
    ∙ ap (λ n. drop n c.prepend_digits.new.self) c.zeros_in_front.ensures
    ∙ ap (drop zeros) c.prepend_digits.ensures
    ∙ drop-append-le zeros (text digits.result) c.args.self.now within
    ∙ ap (λ front. front ++ c.args.self.now) (digits_whole digits.result digits.ensures.digits.1 (omega (arith, digits.ensures.value, c.requires.long)) (omega (arith, digits.ensures.value)) ∙ ap decimal digits.ensures.value)

pub returns-else-number-lt-LONG-clause-value : goal.returns-else-number-lt-LONG-clause-value
returns-else-number-lt-LONG-clause-value c =
    let digits = c.sixteen_digits in
    let whole = text_split c.args.number digits.result (omega arith) c.ranges.number.fits digits.ensures.digits.0 digits.ensures.digits.1 digits.ensures.value in
    c.prepend_short.ensures
    ∙ ap (λ back. decimal (c.args.number / 10 ^ 16) ++ back) c.prepend_digits-else-number-lt-LONG.ensures
    ∙ sym (append_assoc (decimal (c.args.number / 10 ^ 16)) (text digits.result) c.args.self.now)
    ∙ ap (λ front. front ++ c.args.self.now) (sym whole)

pub returns-else-number-lt-LONG-clause-few : goal.returns-else-number-lt-LONG-clause-few
returns-else-number-lt-LONG-clause-few c =
    let digits = c.sixteen_digits in
    let few = length-decimal-le 4 (c.args.number / 10 ^ 16) (omega arith) (omega arith) (omega arith) in
    let old = longer digits.result c.args.self.now c.prepend_digits-else-number-lt-LONG.new.self digits.ensures.digits.0 c.prepend_digits-else-number-lt-LONG.ensures in
    omega (arith, few, old, ap length c.prepend_short.ensures ∙ length-append (decimal (c.args.number / 10 ^ 16)) c.prepend_digits-else-number-lt-LONG.new.self)
