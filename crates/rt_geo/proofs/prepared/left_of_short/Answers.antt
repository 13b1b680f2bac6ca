use Rattle.std.proofs.{Common.{arith, rules}, lemmas.Grind.{common_steps}}
use Rattle.rt_geo.proofs.HalfPlanes.{left_counted}
use Rattle.rt_geo.proofs.prepared.left_of_short.Goals as goal

pub loop-point-preserved : goal.loop-point-preserved
loop-point-preserved c =
    left_counted c.args.edge c.half_plane-half_plane.result c.args.points.now c.loop-point.point-index
    c.loop-point.count c.from-count.result _ c.is_strictly_left.result c.half_plane-half_plane.ensures
    (search rules) c.loop-point.invariant c.is_strictly_left.ensures c.from-count.ensures

pub overflow_add-count : goal.overflow_add-count
overflow_add-count c = grind (arith, common_steps)

pub returns : goal.returns
returns c = grind (arith, common_steps)
