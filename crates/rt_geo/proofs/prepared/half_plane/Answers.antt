use Rattle.std.proofs.Common.{rules, arith}
use Rattle.rt_geo.proofs.Crosses.{difference_is}
use Rattle.rt_geo.proofs.HalfPlanes.{coordinate-stored, half_plane_is, to_i64_is}
use Rattle.rt_geo.proofs.prepared.half_plane.Goals as goal

pub overflow_sub-result : goal.overflow_sub-result
overflow_sub-result c = grind arith

pub returns : goal.returns
returns c =
    let from = c.args.edge.from in
    let to = c.args.edge.to in
    half_plane_is c.args.edge c.short_difference-along_x.result c.short_difference-along_y.result c.to_i64.result
    c.to_i64-2.result c.to_the_left.result c.from.result c.from-2.result
    (search rules) (search rules)
    (coordinate-stored _ c.to_i64.ensures.size) (coordinate-stored _ c.to_i64-2.ensures.size) (search rules)
    (difference_is _ to.x from.x (search rules) (search rules) c.short_difference-along_x.ensures)
    (difference_is _ to.y from.y (search rules) (search rules) c.short_difference-along_y.ensures)
    (to_i64_is _ from.x (search rules) c.to_i64.ensures.value)
    (to_i64_is _ from.y (search rules) c.to_i64-2.ensures.value)
    c.to_the_left.ensures c.from.ensures c.from-2.ensures
