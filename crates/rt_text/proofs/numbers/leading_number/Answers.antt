use Rattle.std.proofs.Common.{◌≡◌, ◌<◌, ◌∙◌, ◌+◌, ◌-◌, Some, ap, arith, false, length, refl, rules, sym, to_z, true, w64}
use Rattle.std.proofs.lemmas.{Grind.{common_steps}, Int.{ints}}
use Rattle.std.specs.Str.Parse.{starts_with_minus}
use Rattle.rt_text.proofs.{LeadingLemmas.{number_text-front}, NumberLemmas.{signed_as}}
use Rattle.rt_text.proofs.numbers.leading_number.Goals as goal
use Rattle.rt_text.proofs.numbers.leading_number.Goals.{then-text-eq45, else-text-eq45}

pub returns-clause-value : goal.returns-clause-value
returns-clause-value c =
    let text = c.args.text.now in
    let behind = c.without_sign-behind.result.now in
    let k = c.leading_digits-digits.result.len in
    let full : 0 < length text = grind (arith, common_steps) in
    let digits = c.leading_digits-digits.ensures in
    let value : to_z w64 c.if-text-eq45.number-bits ≡ signed_as text c.leading_digits-digits.result.number = elim c.if-text-eq45.branch [
      | then-text-eq45 w ↦ let minus : starts_with_minus text ≡ true = search rules in rw minus (omega (arith, ints, w.number-is, digits.small))
      | else-text-eq45 w ↦ let plain : starts_with_minus text ≡ false = search rules in rw plain (omega (arith, ints, w.number-is, digits.small))
    ] in
    number_text-front text behind k (length text - length behind + k) c.without_sign-behind.ensures full (omega arith) digits.within digits.digits refl
    ∙ ap Some (ap (signed_as text) (sym digits.number) ∙ sym value)
