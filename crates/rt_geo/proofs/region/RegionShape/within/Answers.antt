use Rattle.std.proofs.Common.{rules}
use Rattle.rt_geo.proofs.region.RegionShape.within.Goals as goal

pub returns-in-Polygon : goal.returns-in-Polygon
returns-in-Polygon c = search rules
