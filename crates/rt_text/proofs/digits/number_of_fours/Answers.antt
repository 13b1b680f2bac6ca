use Rattle.std.proofs.Common.{ℕ, get_or, subst, arith}
use Rattle.std.specs.Int.Digits.{AllBelowBase}
use Rattle.rt_text.proofs.DigitLemmas.{eight, weighed}
use Rattle.rt_text.proofs.digits.number_of_fours.Goals as goal

pub returns-clause-value : goal.returns-clause-value
returns-clause-value c =
    let digit = λ (i : ℕ). get_or c.args.digits i 0 in
    let each = eight c.args.digits c.requires.long in
    let small = subst (AllBelowBase 10) each c.requires.small in
    let first = weighed (digit 0) (digit 1) (digit 2) (digit 3) small.0 small.1.0 small.1.1.0 small.1.1.1.0 in
    let second = weighed (digit 4) (digit 5) (digit 6) (digit 7) small.1.1.1.1.0 small.1.1.1.1.1.0 small.1.1.1.1.1.1.0 small.1.1.1.1.1.1.1.0 in
    rw each (omega (arith, first, second))
