use Rattle.std.proofs.Common.{IsSome, ◌∙◌, ap, rules, sym}
use Rattle.std.specs.{Option.{is_some, option_map_or}, Result.{result_ok}}
use Rattle.rt_embed.specs.{PlainQueries.{question_of}, Questions.{measure_of, measured_of}}
use Rattle.rt_embed.proofs.CostLemmas.{measures_next}
use Rattle.rt_embed.proofs.ListLemmas.{all_more, mapped_more}
use Rattle.rt_embed.proofs.measuring.measure_each.Goals as goal

pub loop-done-preserved : goal.loop-done-preserved
loop-done-preserved c =
    let done = c.loop-done.done in
    let known = sym (ap result_ok c.question.ensures) ∙ ap result_ok c.in-Ok.is in
    record {
      bound = search rules;
      len = search rules;
      capacity = search rules;
      worked = measures_next c.args.tree.now c.args.vertices.now c.args.measure c.args.queries.now done _ (search rules) c.in-Ok.question
          c.args.frontier.opened c.loop-done.frontier.opened c.measure_one-found.result.1.opened known c.loop-done.invariant.worked
          c.measure_one-found.ensures.worked;
      measured = mapped_more (measured_of c.args.tree.now c.args.vertices.now c.args.measure) c.args.queries.now c.loop-done.measured done
          c.measure_one-found.result.0 _ (search rules) (search rules) c.loop-done.invariant.measured
          (c.measure_one-found.ensures.measured
          ∙ sym (ap (λ found. option_map_or (measure_of c.args.tree.now c.args.measure) found 0) known));
      questions = all_more (λ query. IsSome (question_of c.args.vertices.now query)) c.args.queries.now done _ (search rules)
          c.loop-done.invariant.questions (ap is_some known);
    }
