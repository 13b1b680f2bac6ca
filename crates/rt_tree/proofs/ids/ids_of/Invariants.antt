use Rattle.std.proofs.Common.{◌≡◌, take}
use Rattle.std.specs.List.{All}
use Rattle.rt_geo.specs.Entries.{HasBox}
use Rattle.rt_tree.specs.Entries.{ids_of}
use Rattle.rt_tree.proofs.ids.ids_of.Given as goal

abbrev pub invariant-loop-place : goal.invariant-loop-place
invariant-loop-place l = record {
  ids : l.ids.items ≡ ids_of (take l.place l.entries);
  boxes : All HasBox (take l.place l.entries);
}
