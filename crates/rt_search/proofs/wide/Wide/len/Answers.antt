use Rattle.std.proofs.Common.{arith}
use Rattle.rt_search.proofs.{Heaps.{length-in_order}, SortedLists.{rising_sorted}}
use Rattle.rt_search.proofs.wide.Wide.len.Goals as goal

pub returns-clause-value : goal.returns-clause-value
returns-clause-value c = grind (arith, length-in_order)

pub returns-clause-capacity : goal.returns-clause-capacity
returns-clause-capacity c = grind (arith, length-in_order)

pub returns-clause-rising : goal.returns-clause-rising
returns-clause-rising c = grind (arith, rising_sorted)
