use Rattle.std.proofs.Common.{rules}
use Rattle.rt_command.proofs.settings.Settings.header.Goals as goal

pub returns : goal.returns
returns c = search rules
