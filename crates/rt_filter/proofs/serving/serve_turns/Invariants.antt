use Rattle.std.proofs.Common.{◌≡◌, ◌*◌, ◌≤◌, false, length, take}
use Rattle.rt_device.specs.Devices.{PulledTimes}
use Rattle.rt_filter.specs.{Endings.{ConsumedAtLeast}, Lines.{longest_line}, Stages.{IsServing, loaded_tree, most_pulled}}
use Rattle.rt_filter.proofs.serving.serve_turns.Given as goal

-- no call has failed, each turn gave a byte at least, and what was pulled is answered and flushed
abbrev pub invariant-loop-turn : goal.invariant-loop-turn
invariant-loop-turn g l = record {
  capacity : length l.tree.entries ≤ l.frontier.capacity;
  source_count : g.S.Exchange.failed l.source ≡ g.S.Exchange.failed l.initial.source;
  sink_count : g.K.Sink.failed l.sink ≡ g.K.Sink.failed l.initial.sink;
  few : l.progress.lines ≤ l._turn * most_pulled;
  bound : l.kept ≤ longest_line;
  pulled : PulledTimes l._turn (g.S.Exchange.pulled l.initial.source) (g.S.Exchange.pulled l.source);
  given : ConsumedAtLeast l._turn (g.S.Exchange.coming l.initial.source) (g.S.Exchange.coming l.source);
  serving : IsServing (loaded_tree l.tree) (g.S.Exchange.coming l.initial.source) (g.S.Exchange.coming l.source)
      (g.K.Sink.written l.initial.sink) (g.K.Sink.written l.sink) l.progress (take l.kept l.buffer);
  flushed : g.K.Sink.waits l.initial.sink ≡ false → g.K.Sink.waits l.sink ≡ false;
}
