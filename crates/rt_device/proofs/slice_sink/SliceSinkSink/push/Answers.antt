use Rattle.std.proofs.{Common.{arith, rules}, lemmas.Grind.{common_steps}}
use Rattle.rt_device.proofs.slice_sink.SliceSinkSink.push.Goals as goal

pub returns-clause-many : goal.returns-clause-many
returns-clause-many c = search rules

pub returns-clause-bytes : goal.returns-clause-bytes
returns-clause-bytes c = grind (arith, common_steps)

pub returns-clause-left : goal.returns-clause-left
returns-clause-left c = search rules
