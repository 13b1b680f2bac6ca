use Rattle.std.proofs.Common.{rules}
use Rattle.rt_command.proofs.settings.Settings.new.Goals as goal

pub returns-then-fanout-lt-LEAST_FANOUT : goal.returns-then-fanout-lt-LEAST_FANOUT
returns-then-fanout-lt-LEAST_FANOUT c = search rules

pub invariant_of-result : goal.invariant_of-result
invariant_of-result c = search rules

pub returns : goal.returns
returns c = search rules
