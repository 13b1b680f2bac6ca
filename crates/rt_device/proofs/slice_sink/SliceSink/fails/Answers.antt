use Rattle.std.proofs.Common.{rules}
use Rattle.rt_device.proofs.slice_sink.SliceSink.fails.Goals as goal

pub returns-clause-which : goal.returns-clause-which
returns-clause-which c = search rules
