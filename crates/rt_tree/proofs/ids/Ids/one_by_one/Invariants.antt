use Rattle.std.proofs.Common.{◌≡◌, drop, take}
use Rattle.rt_tree.specs.{Entries.{first_repeat, repeat_after}, Indexes.{AreIdsOf}}
use Rattle.rt_tree.proofs.ids.Ids.one_by_one.Given as goal

abbrev pub invariant-loop-place : goal.invariant-loop-place
invariant-loop-place l = record {
  ids : AreIdsOf l.ids.loaded.items l.ids.pushed (take l.place l.entries);
  once : first_repeat l.entries ≡ repeat_after (take l.place l.entries) (drop l.place l.entries);
}
