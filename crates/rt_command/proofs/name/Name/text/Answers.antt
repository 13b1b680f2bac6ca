use Rattle.std.proofs.Common.{rules}
use Rattle.rt_command.proofs.name.Name.text.Goals as goal

pub returns : goal.returns
returns c = search rules
