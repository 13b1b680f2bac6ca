use Rattle.std.proofs.Common.{arith}
use Rattle.rt_search.proofs.Merging.{length-queued}
use Rattle.rt_search.proofs.queue.Queue.len.Goals as goal

pub overflow_cast-result : goal.overflow_cast-result
overflow_cast-result c = grind (arith, length-queued)

pub returns-clause-value : goal.returns-clause-value
returns-clause-value c = grind (arith, length-queued)
