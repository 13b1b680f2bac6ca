use Rattle.std.proofs.Common.{rules}
use Rattle.rt_tree.proofs.tree.Tree.entry.Goals as goal

pub returns : goal.returns
returns c = search rules
