use Rattle.std.proofs.Common.{rules}
use Rattle.rt_command.proofs.settings.Settings.max_entries.Goals as goal

pub returns-clause-value : goal.returns-clause-value
returns-clause-value c = search rules
