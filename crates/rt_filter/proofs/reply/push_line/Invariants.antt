use Rattle.std.proofs.Common.{◌≡◌, length}
use Rattle.rt_filter.proofs.PushLemmas.{AllBut}
use Rattle.rt_filter.proofs.reply.push_line.Given as goal

-- no call has failed, and what isn't left has gone out
abbrev pub invariant-loop-rest : goal.invariant-loop-rest
invariant-loop-rest g l = record {
  count : g.K.Sink.failed l.sink ≡ g.K.Sink.failed l.initial.sink;
  pushed : AllBut l.text (g.K.Sink.written l.initial.sink) (g.K.Sink.written l.sink) l.rest;
}

abbrev pub decreases-loop-rest : goal.decreases-loop-rest
decreases-loop-rest g l = length l.rest
