use Rattle.std.proofs.Common.{rules}
use Rattle.rt_device.proofs.read_source.ReadSourceSource.pull.Goals as goal

pub returns-in-Err-clause-fails : goal.returns-in-Err-clause-fails
returns-in-Err-clause-fails g c = search rules
