use Rattle.std.proofs.Common.{rules}
use Rattle.rt_tree.proofs.tree.Tree.root.Goals as goal

pub returns-in_default-clause-number : goal.returns-in_default-clause-number
returns-in_default-clause-number c = search rules
