use Rattle.std.proofs.Common.{◌≡◌, length}
use Rattle.rt_tree.specs.Levels.{level_sizes}
use Rattle.rt_filter.specs.Replies.{levels_reply}
use Rattle.rt_filter.proofs.{LevelLemmas.{levels_left}, PushLemmas.{AllBut}}
use Rattle.rt_filter.proofs.query_reply.push_levels.Given as goal

-- no call has failed, and the lines of the levels so far have gone out
abbrev pub invariant-loop-above : goal.invariant-loop-above
invariant-loop-above g l =
    let sizes = level_sizes (length l.tree.entries) l.tree.fanout in record {
      count : g.K.Sink.failed l.sink ≡ g.K.Sink.failed l.initial.sink;
      pushed : AllBut (levels_reply l.line sizes) (g.K.Sink.written l.initial.sink) (g.K.Sink.written l.sink) (levels_left l.line sizes l.above);
    }
