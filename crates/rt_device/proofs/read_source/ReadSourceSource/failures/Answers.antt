use Rattle.std.proofs.Common.{rules}
use Rattle.rt_device.proofs.read_source.ReadSourceSource.failures.Goals as goal

pub returns : goal.returns
returns g c = search rules
