use Rattle.std.proofs.{Common.{arith, false, ◌≡◌, ◌≤◌, ◌∷◌}, lemmas.List.Sorted.{IsPermutation-append_left}}
use Rattle.std.proofs.lemmas.List.{Sorted.{IsPermutation-trans, length_permutation}, nil_from_length}
use Rattle.std.specs.{Ordering.{is_lt, nat_cmp}}
use Rattle.rt_search.specs.Pooling.{score_in}
use Rattle.rt_search.proofs.{Elements.{all-append, all_moved}, Pools.{far_after}}
use Rattle.rt_search.proofs.pool.Pool.take.Goals as goal

pub returns-in_err-top-clause-keys : goal.returns-in_err-top-clause-keys
returns-in_err-top-clause-keys c = grind (arith, length_permutation, nil_from_length)

pub invariant_of-self-2 : goal.invariant_of-self-2
invariant_of-self-2 c =
    let k = c.self.invariant.inside in
    let e = c.in_ok-top.ensures in
    let one_less = length_permutation _ _ e.permutation in
    let total = length_permutation _ _ (IsPermutation-append_left c.self.inside.far.items _ _ e.permutation) in
    let low = all_moved (λ j. score_in j ≤ c.self.inside.edge) _ (c.in_ok-top.top ∷ _) e.permutation k.low in
    let ordered = e.heap_order k.ordered in
    grind arith

pub returns-clause-keys : goal.returns-clause-keys
returns-clause-keys c =
    IsPermutation-trans _ _ _ (rw (← c.self.view_is) at c.fill.ensures.same)
    (IsPermutation-append_left c.self.inside.far.items c.self.inside.near.data.items _ c.in_ok-top.ensures.permutation)

pub returns-clause-least : goal.returns-clause-least
returns-clause-least c =
    let e = c.in_ok-top.ensures in
    let low = all_moved (λ j. score_in j ≤ c.self.inside.edge) _ (c.in_ok-top.top ∷ _) e.permutation c.self.invariant.inside.low in
    all-append (λ j. is_lt (nat_cmp j.0 c.in_ok-top.top.0) ≡ false) _ _ (e.below_top c.self.invariant.inside.ordered)
    (far_after c.self.inside.edge c.in_ok-top.top.0 _ low.0 c.self.invariant.outside.high)
