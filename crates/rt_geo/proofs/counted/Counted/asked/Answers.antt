use Rattle.std.proofs.Common.{rules}
use Rattle.rt_geo.proofs.counted.Counted.asked.Goals as goal

pub returns : goal.returns
returns g c = search rules
