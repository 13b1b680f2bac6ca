use Rattle.std.proofs.Common.{rules}
use Rattle.rt_device.proofs.write_sink.WriteSinkSink.flush.Goals as goal

pub returns-in-Ok-clause-bytes : goal.returns-in-Ok-clause-bytes
returns-in-Ok-clause-bytes g c = search rules
