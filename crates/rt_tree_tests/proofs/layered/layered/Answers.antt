use Rattle.std.proofs.Common.{arith}
use Rattle.std.proofs.lemmas.List.Elements.{All-nil, All-push}
use Rattle.rt_geo.specs.Entries.{HasLayer}
use Rattle.rt_tree_tests.proofs.layered.layered.Goals as goal

pub loop-entry-init : goal.loop-entry-init
loop-entry-init c = record { taken = rw c.empty-layered.ensures (All-nil HasLayer) }

pub loop-entry-preserved : goal.loop-entry-preserved
loop-entry-preserved c = record {
  taken = rw c.in-Ok.ensures.ok
      (All-push HasLayer c.loop-entry.layered c.entry-item.result c.loop-entry.invariant.taken (omega arith));
}
