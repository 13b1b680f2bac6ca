use Rattle.std.proofs.Common.{rules}
use Rattle.rt_geo.proofs.prepared.state_by_half_planes.Goals as goal

pub returns-then-holds-clause-value : goal.returns-then-holds-clause-value
returns-then-holds-clause-value c = search rules
