use Rattle.std.proofs.Common.{arith}
use Rattle.rt_search.proofs.Heaps.{popped_out, wide_after}
use Rattle.rt_search.proofs.wide.Wide.take.Goals as goal

pub returns-clause-taken : goal.returns-clause-taken
returns-clause-taken c = grind (arith, popped_out, wide_after)
