use Rattle.std.proofs.Common.{rules}
use Rattle.rt_geo.proofs.bounds.Bounds.max_y.Goals as goal

pub returns-clause-value : goal.returns-clause-value
returns-clause-value c = search rules
