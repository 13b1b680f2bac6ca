use Rattle.std.proofs.Common.{rules}
use Rattle.rt_command.proofs.invocation.ArgFaultFromClapError.from.Goals as goal

pub returns-in-DisplayHelp : goal.returns-in-DisplayHelp
returns-in-DisplayHelp c = search rules
