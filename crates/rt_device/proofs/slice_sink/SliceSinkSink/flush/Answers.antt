use Rattle.std.proofs.Common.{rules}
use Rattle.rt_device.proofs.slice_sink.SliceSinkSink.flush.Goals as goal

pub returns-clause-handed_on : goal.returns-clause-handed_on
returns-clause-handed_on c = search rules
