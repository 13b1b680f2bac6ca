use Rattle.std.proofs.Common.{◌≡◌, ◌∙◌, ap, arith, of_z, pos, to_z}
use Rattle.std.specs.Int.{w128}
use Rattle.std.specs.Prelude.{unsigned_abs}
use Rattle.std.proofs.lemmas.Int.{ints}
use Rattle.std.proofs.lemmas.Result.{err_from_is_err_and}
use Rattle.rt_text.specs.Queries.{number, taken_as}
use Rattle.rt_text.specs.declared.query.QueryFault.TheVariants as fault
use Rattle.rt_text.proofs.WordReads.{word_as-made}
use Rattle.rt_text.proofs.grammar.natural_word.Goals as goal

pub returns-in_err-value-clause-takes : goal.returns-in_err-value-clause-takes
returns-in_err-value-clause-takes c =
    let p = err_from_is_err_and c.from_residual.result c.from_residual.ensures.1 in
    let high : to_z w128 (of_z w128 c.from.result) ≡ pos c.args.high = omega (arith, ints) in
    let read = rw high at c.in_err-value.ensures.takes in
    rw (p.1, p.2) (word_as-made unsigned_abs (number fault.OutOfRange (pos 0) (pos c.args.high)) c.args.words.now
    ∙ ap (taken_as unsigned_abs) read)
