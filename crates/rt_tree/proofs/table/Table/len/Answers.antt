use Rattle.std.proofs.Common.{rules}
use Rattle.rt_tree.proofs.table.Table.len.Goals as goal

pub returns-clause-value : goal.returns-clause-value
returns-clause-value c = search rules
