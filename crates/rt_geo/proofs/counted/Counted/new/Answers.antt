use Rattle.std.proofs.Common.{rules}
use Rattle.rt_geo.proofs.counted.Counted.new.Goals as goal

pub returns-clause-asked : goal.returns-clause-asked
returns-clause-asked g c = search rules
