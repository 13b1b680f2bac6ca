use Rattle.std.proofs.{Common.{arith, rules}, lemmas.Grind.{common_steps}}
use Rattle.rt_device.proofs.slice_source.SliceSourceSource.pull.Goals as goal

pub returns-clause-bytes : goal.returns-clause-bytes
returns-clause-bytes c = grind (arith, common_steps)

pub returns-then-fails-clause-counted : goal.returns-then-fails-clause-counted
returns-then-fails-clause-counted c = search rules

pub returns-clause-counted : goal.returns-clause-counted
returns-clause-counted c = search rules
