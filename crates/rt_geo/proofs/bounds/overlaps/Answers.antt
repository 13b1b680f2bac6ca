use Rattle.rt_geo.proofs.Lanes.{overlaps_by_lanes}
use Rattle.rt_geo.proofs.bounds.overlaps.Goals as goal

pub returns-clause-value : goal.returns-clause-value
returns-clause-value c =
    let a = c.ends.ensures in
    let b = c.facing_ends.ensures in
    rw (a.value, b.value)
    (overlaps_by_lanes c.args.a c.args.b a.valid a.coordinates b.valid b.coordinates)
