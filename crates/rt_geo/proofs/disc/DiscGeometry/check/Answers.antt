use Rattle.std.proofs.Common.{rules}
use Rattle.rt_geo.proofs.disc.DiscGeometry.check.Goals as goal

pub returns : goal.returns
returns c = search rules
