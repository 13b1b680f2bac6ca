use Rattle.std.proofs.Common.{rules}
use Rattle.rt_tree.proofs.tree.Tree.node_len.Goals as goal

pub returns : goal.returns
returns c = search rules
