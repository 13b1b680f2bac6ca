use Rattle.std.proofs.Common.{rules}
use Rattle.rt_geo.proofs.Crosses.{at_leftmost}
use Rattle.rt_geo.proofs.polygon.meets_half_plane.Goals as goal

pub returns : goal.returns
returns c =
    at_leftmost c.args.edge c.args.bounds c.cross.result c.leftmost_corner.result
    (search rules) c.leftmost_corner.ensures.valid c.cross.ensures c.leftmost_corner.ensures.value
