use Rattle.std.proofs.Common.{rules}
use Rattle.rt_device.proofs.write_sink.WriteSinkSink.push.Goals as goal

pub returns-in-Ok-clause-waits : goal.returns-in-Ok-clause-waits
returns-in-Ok-clause-waits g c = search rules
