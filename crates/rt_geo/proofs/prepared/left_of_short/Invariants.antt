use Rattle.std.proofs.Common.{◌≡◌, take}
use Rattle.std.specs.List.{count_by}
use Rattle.rt_geo.specs.Polygons.{is_left}
use Rattle.rt_geo.proofs.prepared.left_of_short.Given as goal

abbrev pub invariant-loop-point : goal.invariant-loop-point
invariant-loop-point l = l.count ≡ count_by (is_left l.fn.edge) (take l.point-index l.points)
