use Rattle.std.proofs.Common.{arith}
use Rattle.std.proofs.lemmas.Grind.{common_steps}
use Rattle.rt_geo.proofs.Convexity.{polygon_is}
use Rattle.rt_geo.proofs.polygon.Polygon.new.Goals as goal

pub returns-clause-value : goal.returns-clause-value
returns-clause-value c = grind (arith, common_steps)

pub returns-clause-polygon : goal.returns-clause-polygon
returns-clause-polygon c = polygon_is c.args.points.now _ (returns-clause-value c)
