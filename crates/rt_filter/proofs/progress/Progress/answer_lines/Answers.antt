use Rattle.std.proofs.Common.{◌∙◌, ◌+◌, ◌≤◌, arith, rules, refl, ap, take, drop, length, Some}
use Rattle.std.proofs.lemmas.List.{length-drop, take_rest}
use Rattle.memchr.specs.Find.{IsFirstByte, is_byte}
use Rattle.rt_filter.specs.Stages.{line_feed, loaded_tree}
use Rattle.rt_filter.proofs.BufferLemmas.{all_begun, behind_line, from_front, line_at, line_fits, none_begun}
use Rattle.rt_filter.proofs.{LineLemmas.{found_none}, PushLemmas.{as_failed, at_failure}}
use Rattle.rt_filter.proofs.ProgressLemmas.{answered-all, answered-cut, answered-first, answered-left, answered-more, fault-cut, left-bad, opened-all}
use Rattle.rt_filter.proofs.ProgressLemmas.{pushed_kept, pushed_lost}
use Rattle.rt_filter.proofs.progress.Progress.answer_lines.Goals as goal

pub loop-at-init : goal.loop-at-init
loop-at-init g c = record {
  start = omega arith;
  searched = c.requires.kept;
  count = refl;
  capacity = refl;
  few = omega arith;
  answered = rw (from_front c.args.bytes.now c.args.kept) (answered-first (loaded_tree c.args.tree.now) c.args.self.now (g.K.Sink.written c.args.sink.now) c.args.frontier.opened (take c.args.kept c.args.bytes.now) (drop c.args.kept c.args.bytes.now));
  flushed = λ _. refl;
}

pub returns-in_err-frontier-clause-pushed : goal.returns-in_err-frontier-clause-pushed
returns-in_err-frontier-clause-pushed g c pulled is =
    let bytes = c.args.bytes.now in
    let start = c.loop-at.start in
    let searched = c.loop-at.searched in
    let n = c.in-Some.at in
    let order = c.loop-at.invariant.start in
    let at : IsFirstByte (is_byte line_feed) (drop searched bytes) (Some n) = rw (take_rest bytes searched) at c.in-Some.ensures in
    as_failed g.K.Sink.written g.K.Sink.failed _ c.args.sink.now _ c.from_residual.result _ _ c.from_residual.ensures.1 (
      answered-cut _ _ _ _ _ _ _ _ _ _ _ c.loop-at.invariant.answered n at _ (line_at bytes start searched order n)
          (line_fits bytes start searched order n at c.requires.fits) _ c.in_err-frontier.ensures.pushed.0 pulled is,
      c.in_err-frontier.ensures.pushed.1 ∙ ap (λ n. n + 1) c.loop-at.invariant.count,
    )

pub returns-in_err-frontier-clause-progress : goal.returns-in_err-frontier-clause-progress
returns-in_err-frontier-clause-progress g c pulled is =
    let bytes = c.args.bytes.now in
    let start = c.loop-at.start in
    let searched = c.loop-at.searched in
    let n = c.in-Some.at in
    let order = c.loop-at.invariant.start in
    let at : IsFirstByte (is_byte line_feed) (drop searched bytes) (Some n) = rw (take_rest bytes searched) at c.in-Some.ensures in
    at_failure c.from_residual.result _ _ c.from_residual.ensures.1
    (fault-cut _ _ _ _ _ _ _ _ _ _ _ c.loop-at.invariant.answered n at _ (line_at bytes start searched order n)
    (line_fits bytes start searched order n at c.requires.fits) _ (ap (λ p. p.bad) c.run_line.ensures.progress) pulled is)

pub loop-at-preserved : goal.loop-at-preserved
loop-at-preserved g c =
    let bytes = c.args.bytes.now in
    let start = c.loop-at.start in
    let searched = c.loop-at.searched in
    let n = c.in-Some.at in
    let order = c.loop-at.invariant.start in
    let at : IsFirstByte (is_byte line_feed) (drop searched bytes) (Some n) = rw (take_rest bytes searched) at c.in-Some.ensures in
    let below : searched + n + 1 ≤ length bytes = omega (arith, at.0.high, length-drop searched bytes) in
    record {
      start = omega arith;
      searched = below;
      count = c.in_ok-frontier.ensures.pushed.1 ∙ c.loop-at.invariant.count;
      capacity = c.in_ok-frontier.ensures.capacity ∙ c.loop-at.invariant.capacity;
      few = rw c.run_line.ensures.progress (omega (arith, c.loop-at.invariant.few, order));
      answered = rw (none_begun bytes (searched + n + 1))
          (answered-more _ _ _ _ _ _ _ _ _ _ _ c.loop-at.invariant.answered n at _ (line_at bytes start searched order n)
          (line_fits bytes start searched order n at c.requires.fits) (drop (searched + n + 1) bytes) _ _ _
          (behind_line bytes searched n) c.run_line.ensures.progress c.in_ok-frontier.ensures.pushed.0 c.in_ok-frontier.ensures.worked);
      flushed = λ e.
          let same = c.run_line.ensures.untouched e in
          ap g.K.Sink.waits same.1 ∙ c.loop-at.invariant.flushed same.0;
    }

pub returns-in_err-flush_pushed-clause-pushed : goal.returns-in_err-flush_pushed-clause-pushed
returns-in_err-flush_pushed-clause-pushed g c pulled is =
    as_failed g.K.Sink.written g.K.Sink.failed _ c.args.sink.now _ c.from_residual-in_err-flush_pushed.result _ _ c.from_residual-in_err-flush_pushed.ensures.1 (
      pushed_lost _ _ _ _ (answered-all _ _ _ _ _ _ _ _ _ _ _ c.loop-at.invariant.answered (found_none _ (rw (take_rest c.args.bytes.now c.loop-at.searched) at c.in_default.ensures)) pulled is) c.flush_pushed.ensures.bytes,
      c.in_err-flush_pushed.ensures.fails ∙ ap (λ n. n + 1) c.loop-at.invariant.count,
    )

pub returns-in_err-flush_pushed-clause-progress : goal.returns-in_err-flush_pushed-clause-progress
returns-in_err-flush_pushed-clause-progress g c pulled is =
    at_failure c.from_residual-in_err-flush_pushed.result _ _ c.from_residual-in_err-flush_pushed.ensures.1
    (left-bad _ _ _ (answered-left _ _ _ _ _ _ _ _ _ _ _ c.loop-at.invariant.answered (found_none _ (rw (take_rest c.args.bytes.now c.loop-at.searched) at c.in_default.ensures)) pulled is))

pub returns-clause-pushed : goal.returns-clause-pushed
returns-clause-pushed g c pulled is =
    let all = answered-all _ _ _ _ _ _ _ _ _ _ _ c.loop-at.invariant.answered (found_none _ (rw (take_rest c.args.bytes.now c.loop-at.searched) at c.in_default.ensures)) pulled is in
    search (rules, pushed_kept)

pub returns-clause-worked : goal.returns-clause-worked
returns-clause-worked g c pulled is =
    opened-all _ _ _ _ _ _ _ _ _ _ _ c.loop-at.invariant.answered (found_none _ (rw (take_rest c.args.bytes.now c.loop-at.searched) at c.in_default.ensures)) pulled is

pub returns-clause-progress : goal.returns-clause-progress
returns-clause-progress g c pulled is =
    rw (all_begun c.args.bytes.now c.loop-at.start c.loop-at.searched c.loop-at.invariant.start)
    (answered-left _ _ _ _ _ _ _ _ _ _ _ c.loop-at.invariant.answered (found_none _ (rw (take_rest c.args.bytes.now c.loop-at.searched) at c.in_default.ensures)) pulled is)
