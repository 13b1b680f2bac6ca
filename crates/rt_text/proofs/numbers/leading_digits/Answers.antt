use Rattle.std.proofs.Common.{arith, length, rules, true, ◌≡◌, ◌<◌, get_or}
use Rattle.std.specs.Char.{is_ascii_digit}
use Rattle.rt_text.proofs.NumberLemmas.{all_digits-more, fewer_digits, short_step, short_value-more, small-more}
use Rattle.rt_text.proofs.numbers.leading_digits.Goals as goal

pub overflow_mul-number : goal.overflow_mul-number
overflow_mul-number c = omega (arith, short_step c.loop-at.at c.loop-at.number (omega arith) c.loop-at.invariant.small)

pub overflow_add-number : goal.overflow_add-number
overflow_add-number c = omega (arith, short_step c.loop-at.at c.loop-at.number (omega arith) c.loop-at.invariant.small)

pub loop-at-preserved : goal.loop-at-preserved
loop-at-preserved c =
    let xs = c.args.text.now in
    let i = c.loop-at.at in
    let within : i < length xs = omega arith in
    let digit : is_ascii_digit (get_or xs i 0) ≡ true = search rules in
    record {
      all_digits = all_digits-more xs i within c.loop-at.invariant.all_digits digit;
      value = rw (c.from.ensures, c.loop-at.invariant.value) (short_value-more xs i within digit);
      small = rw c.from.ensures (small-more i c.loop-at.number (get_or xs i 0) c.loop-at.invariant.small digit);
    }

pub returns-then-not-is_ascii_digit-clause-small : goal.returns-then-not-is_ascii_digit-clause-small
returns-then-not-is_ascii_digit-clause-small c = fewer_digits c.loop-at.at 18 c.loop-at.number (omega arith) c.loop-at.invariant.small

pub returns-clause-small : goal.returns-clause-small
returns-clause-small c = fewer_digits c.loop-at.at 18 c.loop-at.number (omega arith) c.loop-at.invariant.small
