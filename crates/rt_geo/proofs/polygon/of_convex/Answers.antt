use Rattle.rt_geo.proofs.Convexity.{strictly_convex}
use Rattle.rt_geo.proofs.polygon.of_convex.Goals as goal

pub returns-clause-convex : goal.returns-clause-convex
returns-clause-convex c = rw c.list_of.ensures (strictly_convex c.args.points.now c.requires.convex)
