use Rattle.std.proofs.Common.{rules}
use Rattle.rt_device.proofs.read_source.ReadSource.new.Goals as goal

pub returns-clause-count : goal.returns-clause-count
returns-clause-count g c = search rules
