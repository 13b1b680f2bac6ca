use Rattle.std.proofs.Common.{rules}
use Rattle.rt_tree.proofs.packing.EntriesItems.with_child.Goals as goal

pub returns : goal.returns
returns c = search rules
