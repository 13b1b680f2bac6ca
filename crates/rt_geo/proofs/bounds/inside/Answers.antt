use Rattle.rt_geo.proofs.Lanes.{inside_by_lanes}
use Rattle.rt_geo.proofs.bounds.inside.Goals as goal

pub returns : goal.returns
returns c =
    let a = c.ends-2.ensures in
    let b = c.ends.ensures in
    rw (a.value, b.value)
    (inside_by_lanes c.args.a c.args.b a.valid a.coordinates b.valid b.coordinates)
