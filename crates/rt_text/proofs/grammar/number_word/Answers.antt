use Rattle.std.proofs.Common.{◌≡◌, arith, of_z, to_z}
use Rattle.std.specs.Int.{w128}
use Rattle.std.proofs.lemmas.Int.{ints}
use Rattle.rt_text.proofs.grammar.number_word.Goals as goal

pub returns-in_default-clause-takes : goal.returns-in_default-clause-takes
returns-in_default-clause-takes c =
    let low : to_z w128 (of_z w128 c.args.low) ≡ c.args.low = omega (arith, ints) in
    let high : to_z w128 (of_z w128 c.args.high) ≡ c.args.high = omega (arith, ints) in
    rw (c.in_default.ensures, low, high) at c.any_number_word.ensures.takes

pub returns-in_default-clause-within : goal.returns-in_default-clause-within
returns-in_default-clause-within c =
    let low : to_z w128 (of_z w128 c.args.low) ≡ c.args.low = omega (arith, ints) in
    let high : to_z w128 (of_z w128 c.args.high) ≡ c.args.high = omega (arith, ints) in
    rw (low, high) at c.any_number_word.ensures.within
