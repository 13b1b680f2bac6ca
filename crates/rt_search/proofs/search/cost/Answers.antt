use Rattle.std.proofs.Common.{rules}
use Rattle.rt_search.proofs.Collectors.{hits_join_all}
use Rattle.rt_search.proofs.search.cost.Goals as goal

pub invariant_of-result : goal.invariant_of-result
invariant_of-result g c =
    let e = c.walk-opened.ensures in
    let joined = hits_join_all c.clear-then-is_none.new.self c.walk-opened.new.visitor _ e.taken in
    let same = c.frontier.invariant in
    let cleared = c.clear.ensures in
    let hits = c.clear-then-is_none.ensures in
    let value = c.deref_mut.ensures.value in
    search rules

pub returns-clause-opened : goal.returns-clause-opened
returns-clause-opened g c = search rules
