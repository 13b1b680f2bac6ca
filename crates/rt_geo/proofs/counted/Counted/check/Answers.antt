use Rattle.std.proofs.Common.{rules}
use Rattle.rt_geo.proofs.counted.Counted.check.Goals as goal

pub returns-clause-verdict : goal.returns-clause-verdict
returns-clause-verdict g c = search rules

pub returns-clause-asked : goal.returns-clause-asked
returns-clause-asked g c = search rules
