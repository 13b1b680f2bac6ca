use Rattle.std.proofs.Common.{◌∙◌, ◌+◌, ap, arith}
use Rattle.rt_filter.specs.Stages.{loaded_tree}
use Rattle.rt_filter.proofs.{BatchLemmas.{line_cut, line_judged, line_pushed, line_worked}, PushLemmas.{as_failed}}
use Rattle.rt_filter.proofs.batch.answer_text.Goals as goal

pub returns-in_err-frontier-clause-pushed : goal.returns-in_err-frontier-clause-pushed
returns-in_err-frontier-clause-pushed g c =
    as_failed g.K.Sink.written g.K.Sink.failed _ c.args.sink.now _ c.from_residual.result _ _ c.from_residual.ensures.1 (
      line_cut (loaded_tree c.args.tree.now) _ _ _ _ _ _ _ (c.split_line.ensures.lines c.loop-rest.progress.lines)
          c.loop-rest.invariant.pushed c.in_err-frontier.ensures.pushed.0,
      c.in_err-frontier.ensures.pushed.1 ∙ ap (λ n. n + 1) c.loop-rest.invariant.count,
    )

pub loop-rest-preserved : goal.loop-rest-preserved
loop-rest-preserved g c =
    let next = c.split_line.ensures.lines c.loop-rest.progress.lines in record {
      count = c.in_ok-frontier.ensures.pushed.1 ∙ c.loop-rest.invariant.count;
      capacity = c.in_ok-frontier.ensures.capacity ∙ c.loop-rest.invariant.capacity;
      few = omega (arith, c.answer_whole.ensures.lines, c.split_line.ensures.shorter, c.loop-rest.invariant.few);
      pushed = rw c.answer_whole.ensures.lines
          (line_pushed (loaded_tree c.args.tree.now) _ _ _ _ _ _ _ next c.loop-rest.invariant.pushed c.in_ok-frontier.ensures.pushed.0);
      bad = rw (c.answer_whole.ensures.lines, c.answer_whole.ensures.bad)
          (c.loop-rest.invariant.bad ∙ line_judged c.loop-rest.progress.bad _ _ _ next);
      worked = rw c.answer_whole.ensures.lines
          (line_worked (loaded_tree c.args.tree.now) _ _ _ _ _ _ next c.loop-rest.invariant.worked c.in_ok-frontier.ensures.worked);
      flushed = λ e.
          let same = c.answer_whole.ensures.untouched e in
          ap g.K.Sink.waits same.1 ∙ c.loop-rest.invariant.flushed same.0;
    }
