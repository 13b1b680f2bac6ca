use Rattle.std.proofs.Common.{rules}
use Rattle.rt_device.proofs.slice_source.SliceSource.new.Goals as goal

pub returns : goal.returns
returns c = search rules
