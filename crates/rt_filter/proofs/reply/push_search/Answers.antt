use Rattle.std.proofs.Common.{◌≡◌, ◌∙◌, ◌+◌, [], ap, append-nil, rules}
use Rattle.rt_text.specs.ReplyLines.{answer_line, ok_line}
use Rattle.rt_filter.specs.Replies.{find_reply}
use Rattle.rt_filter.proofs.{FindLemmas.{answer_cut, answer_pushed, reply_end}, PushLemmas.{as_failed, pushed_cut}}
use Rattle.rt_filter.proofs.PushLemmas.{pushed_rest}
use Rattle.rt_filter.proofs.reply.push_search.Goals as goal

pub returns-in_err-push_line-clause-pushed : goal.returns-in_err-push_line-clause-pushed
returns-in_err-push_line-clause-pushed g c =
    let line : c.set_answer_line.new.text ≡ answer_line c.in-Some.id c.in-Some.score = search rules in
    let cut = rw line at c.in_err-push_line.ensures.pushed in
    as_failed g.K.Sink.written g.K.Sink.failed _ c.loop-id.sink _ c.from_residual.result _ _ c.from_residual.ensures.1 (
      answer_cut (find_reply c.args.line c.args.search.to_come) _ _ _ _ _ c.in-Some.id c.in-Some.score
          _ _ c.in-Some.ensures.answer c.loop-id.invariant.pushed cut.0,
      cut.1 ∙ ap (λ n. n + 1) c.loop-id.invariant.count,
    )

pub loop-id-preserved : goal.loop-id-preserved
loop-id-preserved g c = search (rules, answer_pushed)

pub returns-in_err-push_line-2-clause-pushed : goal.returns-in_err-push_line-2-clause-pushed
returns-in_err-push_line-2-clause-pushed g c =
    let line : c.set_ok_line.new.text ≡ ok_line c.args.line c.loop-id.found = search rules in
    let left = reply_end (find_reply c.args.line c.args.search.to_come) _ _ _ _ _ _ (search rules) c.loop-id.invariant.many c.loop-id.invariant.pushed in
    let cut = rw line at c.in_err-push_line-2.ensures.pushed in
    as_failed g.K.Sink.written g.K.Sink.failed _ c.loop-id.sink _ c.from_residual-in_err-push_line-2.result _ _ c.from_residual-in_err-push_line-2.ensures.1 (
      pushed_cut _ _ [] _ _ _ (rw append-nil left) cut.0,
      cut.1 ∙ ap (λ n. n + 1) c.loop-id.invariant.count,
    )

pub returns-clause-pushed : goal.returns-clause-pushed
returns-clause-pushed g c =
    let line : c.set_ok_line.new.text ≡ ok_line c.args.line c.loop-id.found = search rules in
    let left = reply_end (find_reply c.args.line c.args.search.to_come) _ _ _ _ _ _ (search rules) c.loop-id.invariant.many c.loop-id.invariant.pushed in
    let last = rw line at c.in_ok-push_line-2.ensures.pushed in
    (pushed_rest _ _ _ _ _ left last.0, last.1 ∙ c.loop-id.invariant.count)
