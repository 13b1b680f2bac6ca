use Rattle.std.proofs.Common.{◌≡◌, ◌+◌, ◌%◌, ◌^◌, ◌≤◌, ◌||◌, false, length, true}
use Rattle.rt_filter.specs.LineCosts.{opened_by_lines}
use Rattle.rt_filter.specs.{Lines.{numbered_lines}, Replies.{any_fault, output}, Stages.{lines_from, loaded_tree}}
use Rattle.rt_filter.proofs.PushLemmas.{AllBut}
use Rattle.rt_filter.proofs.batch.answer_text.Given as goal

-- no call has failed, and the replies to the lines that are left are what isn't pushed. Where nothing was pushed, the sink
-- was left alone
abbrev pub invariant-loop-rest : goal.invariant-loop-rest
invariant-loop-rest g l = record {
  count : g.K.Sink.failed l.sink ≡ g.K.Sink.failed l.initial.sink;
  capacity : l.frontier.capacity ≡ l.initial.frontier.capacity;
  few : l.progress.lines + length l.rest ≤ length l.text;
  pushed : AllBut (output (loaded_tree l.tree) (numbered_lines l.text true)) (g.K.Sink.written l.initial.sink)
      (g.K.Sink.written l.sink) (output (loaded_tree l.tree) (lines_from l.progress.lines l.rest true));
  bad : any_fault (numbered_lines l.text true) ≡ (l.progress.bad || any_fault (lines_from l.progress.lines l.rest true));
  worked : (l.initial.frontier.opened + opened_by_lines (loaded_tree l.tree) (numbered_lines l.text true)) % 2 ^ 64
      ≡ (l.frontier.opened + opened_by_lines (loaded_tree l.tree) (lines_from l.progress.lines l.rest true)) % 2 ^ 64;
  flushed : l.is_pushed ≡ false → g.K.Sink.waits l.sink ≡ g.K.Sink.waits l.initial.sink;
}

abbrev pub decreases-loop-rest : goal.decreases-loop-rest
decreases-loop-rest g l = length l.rest
