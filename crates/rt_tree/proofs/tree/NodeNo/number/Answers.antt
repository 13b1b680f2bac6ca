use Rattle.std.proofs.Common.{rules}
use Rattle.rt_tree.proofs.tree.NodeNo.number.Goals as goal

pub returns : goal.returns
returns c = search rules
