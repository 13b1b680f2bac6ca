use Rattle.std.proofs.Common.{rules}
use Rattle.rt_tree.proofs.packing.sort_key.Goals as goal

pub returns : goal.returns
returns c = search rules
