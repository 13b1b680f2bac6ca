use Rattle.std.proofs.Common.{rules}
use Rattle.rt_text.proofs.grammar.on_list.Goals as goal

pub returns-else-takes : goal.returns-else-takes
returns-else-takes c = search rules
