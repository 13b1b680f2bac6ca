use Rattle.std.proofs.Common.{All}
use Rattle.rt_geo.specs.Entries.{HasLayer}
use Rattle.rt_tree_tests.proofs.layered.layered.Given as goal

-- each entry so far has a layer
abbrev pub invariant-loop-entry : goal.invariant-loop-entry
invariant-loop-entry l = record { taken : All HasLayer l.layered }
