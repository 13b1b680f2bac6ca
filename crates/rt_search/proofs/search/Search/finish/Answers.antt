use Rattle.std.proofs.Common.{ap, arith}
use Rattle.rt_search.proofs.Gathering.{few}
use Rattle.rt_search.proofs.search.Search.finish.Goals as goal

pub returns-clause-items : goal.returns-clause-items
returns-clause-items g c =
    let going = rw (← c.deref_mut.ensures.value) at c.self.invariant in
    rw (← c.self.view_is) (few going)

pub returns-clause-counted : goal.returns-clause-counted
returns-clause-counted g c =
    let before = ap (λ buffers. buffers.opened) c.deref.ensures in
    rw (← c.self.view_is) (omega (arith, before))
