use Rattle.std.proofs.Common.{rules}
use Rattle.rt_tree.proofs.levels.Levels.count.Goals as goal

pub returns-clause-value : goal.returns-clause-value
returns-clause-value c = search rules
