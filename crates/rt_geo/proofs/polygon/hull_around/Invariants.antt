use Rattle.std.proofs.Common.{◌≡◌, take}
use Rattle.std.specs.List.{fold}
use Rattle.rt_geo.specs.Boxes.{hull}
use Rattle.rt_geo.specs.Distances.{rect_at}
use Rattle.rt_geo.proofs.polygon.hull_around.Given as goal

abbrev pub invariant-loop-point : goal.invariant-loop-point
invariant-loop-point l =
    l.whole ≡ fold (λ box vertex. hull box (rect_at vertex)) (rect_at l.fn.first) (take l.point-index l.others)
