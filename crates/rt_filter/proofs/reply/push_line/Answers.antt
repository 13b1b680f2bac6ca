use Rattle.std.proofs.Common.{◌∙◌, ◌+◌, ap, arith, rules}
use Rattle.std.proofs.lemmas.{Bool.Decides.{nat_tests}, List.{take_rest}}
use Rattle.rt_filter.proofs.PushLemmas.{as_failed, kept_none, pushed_prefix, pushed_some, pushed_whole}
use Rattle.rt_filter.proofs.reply.push_line.Goals as goal

pub loop-rest-smaller : goal.loop-rest-smaller
loop-rest-smaller g c = search rules

pub loop-rest-preserved : goal.loop-rest-preserved
loop-rest-preserved g c = record {
  count = search rules;
  pushed = rw (take_rest c.loop-rest.rest.now c.in_ok-n.n) (pushed_some _ _ c.in_ok-n.n _ _ _ c.loop-rest.invariant.pushed c.in_ok-n.ensures.bytes);
}

pub returns-then-n-eq0 : goal.returns-then-n-eq0
returns-then-n-eq0 g c =
    let none = rw c.if-n-eq0.true at c.in_ok-n.ensures.bytes in record {
      pushed = (
        pushed_prefix _ _ _ _ _ c.loop-rest.invariant.pushed none,
        c.in_ok-n.ensures.took_none c.if-n-eq0.true ∙ ap (λ n. n + 1) c.loop-rest.invariant.count,
      );
    }

pub returns-in_err-n : goal.returns-in_err-n
returns-in_err-n g c = record {
  pushed = as_failed g.K.Sink.written g.K.Sink.failed _ c.loop-rest.sink _ c.from_residual.result _ _ c.from_residual.ensures.1 (
    pushed_prefix _ _ _ _ _ c.loop-rest.invariant.pushed (kept_none _ _ c.in_err-n.ensures.bytes),
    c.in_err-n.ensures.fails ∙ ap (λ n. n + 1) c.loop-rest.invariant.count,
  );
}

pub returns : goal.returns
returns g c = record {
  pushed = (pushed_whole _ _ _ _ c.loop-rest.invariant.pushed (grind (arith, nat_tests)), c.loop-rest.invariant.count);
}
