use Rattle.std.proofs.Common.{◌≡◌, None, arith, false, rules}
use Rattle.rt_search.proofs.{Gathering.{hit}, Giving.{end, give}}
use Rattle.rt_search.proofs.search.advance.Goals as goal

-- ---- from the hits

pub gather-requires : goal.gather-requires
gather-requires g c =
    let gathering = c.requires.state.1.1.gathering (search rules) in
    record {
      capacity = gathering.space;
      asked = λ h. (gathering.before h).none_asked;
      none = λ h. (gathering.before h).none_found;
    }

pub returns-then-gathers-clause-step : goal.returns-then-gathers-clause-step
returns-then-gathers-clause-step g c so_far more going =
    let gathering = going.gathering (search rules) in
    let space = gathering.space in
    let same = going.same_capacity in
    let e = c.gather.ensures in
    let t = c.take.ensures in
    hit (record {
      gathered = search rules;
      unscored = gathering.unscored;
      some = gathering.some;
      space = grind arith;
      same = grind arith;
      none = gathering.none_waits;
      is_sorted = t.sorted;
      all = e.state so_far c.args.buffers.now.queue.items gathering;
    }) more c.take.result t.entries t.taken

-- ---- from the queue

pub pull-requires : goal.pull-requires
pull-requires g c =
    let giving = c.requires.state.1.1.giving (search rules) in
    record { more = search rules; capacity = giving.space; state = (_, giving.state) }

pub returns-in_err-answer-clause-step : goal.returns-in_err-answer-clause-step
returns-in_err-answer-clause-step g c so_far more going =
    let same = going.same_capacity in
    let queued : c.args.gathers ≡ false = search rules in
    let giving = going.giving queued in
    let e = c.pull.ensures in
    let none : c.from_residual.result ≡ None = search rules in
    rw none (end going more queued (grind arith) e.capacity c.in_err-answer.ensures.needed
    (c.in_err-answer.ensures.step _ giving.state))

pub returns-clause-step : goal.returns-clause-step
returns-clause-step g c so_far more going =
    let same = going.same_capacity in
    let giving = going.giving (search rules) in
    let e = c.pull.ensures in
    give going more (search rules) (grind arith) e.capacity c.in_ok-answer.ensures.needed
    (c.in_ok-answer.ensures.step _ giving.state)
