use Rattle.std.proofs.{Common.{◌≡◌, None, arith, rules}, lemmas.Grind.{common_steps}}
use Rattle.rt_search.proofs.Gathering.{stopped}
use Rattle.rt_search.proofs.search.Search.next.Goals as goal

pub advance-requires : goal.advance-requires
advance-requires g c =
    let going = rw (← c.deref_mut.ensures.value) at c.self.invariant in
    record { state = (c.self.inside.given, (search rules, going)) }

pub overflow_add-self : goal.overflow_add-self
overflow_add-self g c =
    let going = rw (← c.deref_mut.ensures.value) at c.self.invariant in
    let given = c.in_ok-answer.ensures.step _ (search rules) going in
    let few = given.few in
    omega arith

pub invariant_of-self-2 : goal.invariant_of-self-2
invariant_of-self-2 g c =
    let going = rw (← c.deref_mut.ensures.value) at c.self.invariant in
    rw c.advance.ensures.geometry (c.in_ok-answer.ensures.step _ (search rules) going).going

pub returns-clause-answer : goal.returns-clause-answer
returns-clause-answer g c =
    let going = rw (← c.deref_mut.ensures.value) at c.self.invariant in
    rw (c.advance.ensures.geometry, ← c.self.view_is) (c.in_ok-answer.ensures.step _ (search rules) going).answer

pub returns-clause-worked : goal.returns-clause-worked
returns-clause-worked g c =
    let going = rw (← c.deref_mut.ensures.value) at c.self.invariant in
    rw (← c.self.view_is) (c.in_ok-answer.ensures.step _ (search rules) going).worked

pub returns-in_err-answer-clause-answer : goal.returns-in_err-answer-clause-answer
returns-in_err-answer-clause-answer g c =
    let going = rw (← c.deref_mut.ensures.value) at c.self.invariant in
    let none : c.from_residual.result ≡ None = search rules in
    rw (none, ← c.self.view_is) (c.in_err-answer.ensures.step _ (search rules) going).answer

pub returns-in_err-answer-clause-none : goal.returns-in_err-answer-clause-none
returns-in_err-answer-clause-none g c =
    let going = rw (← c.deref_mut.ensures.value) at c.self.invariant in
    let none : c.from_residual.result ≡ None = search rules in
    rw (none, c.advance.ensures.geometry) (c.in_err-answer.ensures.step _ (search rules) going).answer

pub returns-in_err-answer-clause-worked_in_all : goal.returns-in_err-answer-clause-worked_in_all
returns-in_err-answer-clause-worked_in_all g c =
    let going = rw (← c.deref_mut.ensures.value) at c.self.invariant in
    let none : c.from_residual.result ≡ None = search rules in
    rw (none, ← c.self.view_is) (c.in_err-answer.ensures.step _ (search rules) going).worked

pub returns-then-eq-clause-answer : goal.returns-then-eq-clause-answer
returns-then-eq-clause-answer g c = grind (arith, common_steps)

pub returns-then-eq-clause-worked_in_all : goal.returns-then-eq-clause-worked_in_all
returns-then-eq-clause-worked_in_all g c =
    rw (← c.self.view_is) (stopped c.self.invariant (search rules))

pub returns-then-eq-clause-none : goal.returns-then-eq-clause-none
returns-then-eq-clause-none g c = grind (arith, common_steps)
