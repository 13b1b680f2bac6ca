use Rattle.std.proofs.Common.{◌≡◌, ◌+◌, ◌-◌, ◌≤◌, false, drop, length, take}
use Rattle.rt_filter.specs.Stages.{IsAnswering, loaded_tree}
use Rattle.rt_filter.proofs.progress.Progress.answer_lines.Given as goal

-- the lines before `start` are answered, and no call has failed. Where nothing was pushed, the sink was left alone
abbrev pub invariant-loop-at : goal.invariant-loop-at
invariant-loop-at g l = record {
  start : l.start ≤ l.searched;
  searched : l.searched ≤ length l.bytes;
  count : g.K.Sink.failed l.sink ≡ g.K.Sink.failed l.initial.sink;
  capacity : l.frontier.capacity ≡ l.initial.frontier.capacity;
  few : l.self.lines ≤ l.initial.self.lines + l.start;
  answered : IsAnswering (loaded_tree l.tree) l.initial.self l.self
      (g.K.Sink.written l.initial.sink) (g.K.Sink.written l.sink) l.initial.frontier.opened l.frontier.opened
      (take l.kept l.bytes) (drop l.kept l.bytes) (take (l.searched - l.start) (drop l.start l.bytes)) (drop l.searched l.bytes);
  flushed : l.is_pushed ≡ false → g.K.Sink.waits l.sink ≡ g.K.Sink.waits l.initial.sink;
}

abbrev pub decreases-loop-at : goal.decreases-loop-at
decreases-loop-at g l = length l.bytes - l.searched
