use Rattle.std.proofs.Common.{◌≡◌, length, take}
use Rattle.std.specs.List.{filter}
use Rattle.rt_search.specs.Kept.{is_upto}
use Rattle.rt_search.proofs.cut.has_upto.Given as goal

abbrev pub invariant-loop-item : goal.invariant-loop-item
invariant-loop-item g l = l.found ≡ length (filter (is_upto g.T.Ord.cmp l.bound) (take l.item-index l.items))
