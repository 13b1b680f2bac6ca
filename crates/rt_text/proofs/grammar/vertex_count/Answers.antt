use Rattle.std.proofs.Common.{◌∙◌, ap, pos}
use Rattle.std.specs.Prelude.{unsigned_abs}
use Rattle.std.proofs.lemmas.Result.{err_from_is_err_and}
use Rattle.rt_text.specs.Queries.{number, taken_as}
use Rattle.rt_text.specs.declared.query.QueryFault.TheVariants as fault
use Rattle.rt_text.proofs.WordReads.{word_as-made}
use Rattle.rt_text.proofs.grammar.vertex_count.Goals as goal

pub returns-in_err-count-clause-takes : goal.returns-in_err-count-clause-takes
returns-in_err-count-clause-takes c =
    let p = err_from_is_err_and c.from_residual.result c.from_residual.ensures.1 in
    rw (p.1, p.2) (word_as-made unsigned_abs (number fault.VertexCount (pos 3) (pos 16)) c.args.words.now
    ∙ ap (taken_as unsigned_abs) c.in_err-count.ensures.takes)
