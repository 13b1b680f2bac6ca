use Rattle.std.proofs.Common.{refl, rules, subst}
use Rattle.std.specs.{List.{IsDistinct, Sorted.{IsStrictlySortedBy}}, Ordering.{int_cmp, int_eq}}
use Rattle.rt_tree.proofs.{IdLemmas.{distinct-from_rising, ids_are-sorted}, RepeatLemmas.{once-from_distinct}}
use Rattle.rt_tree.proofs.ids.Ids.of.Goals as goal

pub returns-clause-ids : goal.returns-clause-ids
returns-clause-ids c =
    ids_are-sorted c.args.entries.now c.in-Ok.ids.items c.sort_unstable.new.self.items c.new.result
    c.in-Ok.ensures.ids c.sort_unstable.ensures.permutation (λ id. search rules)

pub returns-clause-once : goal.returns-clause-once
returns-clause-once c =
    let rising : IsStrictlySortedBy int_cmp c.sort_unstable.new.self.items =
    subst (IsStrictlySortedBy int_cmp) c.deref.ensures.value (c.if-not-rises.ensures.0 refl) in
    let distinct = distinct-from_rising c.in-Ok.ids.items c.sort_unstable.new.self.items
    c.sort_unstable.ensures.permutation rising in
    once-from_distinct c.args.entries.now (subst (IsDistinct int_eq) c.in-Ok.ensures.ids distinct)
