use Rattle.std.proofs.Common.{rules}
use Rattle.rt_geo.proofs.Crosses.{at_rightmost}
use Rattle.rt_geo.proofs.polygon.lies_in_half_plane.Goals as goal

pub returns : goal.returns
returns c =
    at_rightmost c.args.edge c.args.bounds c.cross.result c.rightmost_corner.result
    (search rules) c.rightmost_corner.ensures.valid c.cross.ensures c.rightmost_corner.ensures.value
