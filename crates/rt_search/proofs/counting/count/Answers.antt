use Rattle.std.proofs.Common.{arith, rules}
use Rattle.rt_search.proofs.{Collectors.{counts_all}, WalkWhole.{tree_count}}
use Rattle.rt_search.proofs.counting.count.Goals as goal

pub walk-opened-requires-clause-space : goal.walk-opened-requires-clause-space
walk-opened-requires-clause-space g c sound = omega (arith, sound.table.few)

pub returns-clause-accepted : goal.returns-clause-accepted
returns-clause-accepted g c =
    omega (arith, counts_all (λ t. t.0) (record { 0 = 0 }) _ _ c.walk-opened.ensures.taken, tree_count)

pub returns-clause-items : goal.returns-clause-items
returns-clause-items g c = search rules
