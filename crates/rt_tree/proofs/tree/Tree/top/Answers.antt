use Rattle.std.proofs.Common.{rules}
use Rattle.rt_tree.proofs.tree.Tree.top.Goals as goal

pub returns-clause-root : goal.returns-clause-root
returns-clause-root c = search rules

pub returns-clause-levels : goal.returns-clause-levels
returns-clause-levels c = search rules
