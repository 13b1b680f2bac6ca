use Rattle.std.proofs.Common.{rules}
use Rattle.rt_geo.proofs.polygon.last_vertex.Goals as goal

pub returns : goal.returns
returns c = search rules
