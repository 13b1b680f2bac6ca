use Rattle.std.proofs.Common.{◌∙◌, ◌+◌, ◌≤◌, ap, length, arith, rules}
use Rattle.rt_tree.specs.Levels.{level_sizes}
use Rattle.rt_text.specs.ReplyLines.{ok_line}
use Rattle.rt_filter.specs.Replies.{levels_reply}
use Rattle.rt_filter.proofs.{LevelLemmas.{level_cut, level_pushed, levels_end}, PushLemmas.{as_failed, pushed_last}}
use Rattle.rt_filter.proofs.query_reply.push_levels.Goals as goal

pub returns-in_err-push_line : goal.returns-in_err-push_line
returns-in_err-push_line g c =
    let sizes = level_sizes (length c.args.tree.now.entries) c.args.tree.now.fanout in record {
      pushed = as_failed g.K.Sink.written g.K.Sink.failed _ c.loop-above.sink _ c.from_residual.result _ _ c.from_residual.ensures.1 (
        level_cut c.args.line sizes (levels_reply c.args.line sizes) _ _ _ c.loop-above.above c.level_line.result c.loop-above.invariant.pushed c.level_len.result
            (search rules) (search rules) (search rules) c.in_err-push_line.ensures.pushed.0,
        c.in_err-push_line.ensures.pushed.1 ∙ ap (λ n. n + 1) c.loop-above.invariant.count,
      );
    }

pub loop-above-preserved : goal.loop-above-preserved
loop-above-preserved g c = search (rules, level_pushed)

pub returns : goal.returns
returns g c =
    let sizes = level_sizes (length c.args.tree.now.entries) c.args.tree.now.fanout in
    let count = c.top-count.ensures.levels in
    let end : length sizes ≤ c.loop-above.above = omega (arith, count) in
    let text = ap (ok_line c.args.line) (c.from.ensures ∙ count) in record {
      pushed = pushed_last g.K.Sink.written g.K.Sink.failed c.args.sink.now c.loop-above.sink c.push_ok.new.sink (levels_reply c.args.line sizes) _ c.push_ok.result
          (levels_end c.args.line sizes (levels_reply c.args.line sizes) (g.K.Sink.written c.args.sink.now) (g.K.Sink.written c.loop-above.sink) (g.K.Sink.written c.loop-above.sink) c.loop-above.above _ c.loop-above.invariant.pushed end text)
          c.loop-above.invariant.count c.push_ok.ensures.pushed;
    }
