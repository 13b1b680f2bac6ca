use Rattle.std.proofs.Common.{rules}
use Rattle.rt_device.proofs.slice_sink.SliceSink.written.Goals as goal

pub returns : goal.returns
returns c = search rules
