use Rattle.std.proofs.Common.{rules}
use Rattle.rt_device.proofs.write_sink.WriteSink.new.Goals as goal

pub returns-clause-count : goal.returns-clause-count
returns-clause-count g c = search rules
