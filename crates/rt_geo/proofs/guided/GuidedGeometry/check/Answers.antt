use Rattle.std.proofs.Common.{rules}
use Rattle.rt_geo.proofs.guided.GuidedGeometry.check.Goals as goal

pub returns : goal.returns
returns g c = search rules
