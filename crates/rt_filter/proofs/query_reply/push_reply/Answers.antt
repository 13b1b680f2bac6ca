use Rattle.std.proofs.Common.{subst}
use Rattle.rt_geo.specs.Orders.{by_id}
use Rattle.rt_search.specs.Work.{CountsOn, opened_by_count}
use Rattle.rt_filter.specs.{Replies.{meaning_of, tree_of}, Stages.{loaded_tree}}
use Rattle.rt_filter.proofs.WorkLemmas.{counts_and}
use Rattle.rt_filter.proofs.query_reply.push_reply.Goals as goal

pub returns-in-Find-clause-pushed : goal.returns-in-Find-clause-pushed
returns-in-Find-clause-pushed g c = rw c.in-Find.is c.push_find.ensures.pushed

pub returns-in-Find-clause-worked : goal.returns-in-Find-clause-worked
returns-in-Find-clause-worked g c = rw (c.in-Find.is, ← c.len.ensures.packed) c.push_find.ensures.worked

pub returns-in-Count-clause-worked : goal.returns-in-Count-clause-worked
returns-in-Count-clause-worked g c =
    let meaning = meaning_of c.in-Count.region c.in-Count.layers by_id in
    let opened = opened_by_count meaning (tree_of (loaded_tree c.args.tree.now)) in
    rw c.in-Count.is
    (counts_and c.push_ok.result _ _ c.and.ensures (λ left. CountsOn c.args.frontier.opened opened left.opened)
    (subst (λ tree. CountsOn c.args.frontier.opened (opened_by_count meaning tree) c.count_boxes-accepted.result.1.opened)
    c.len.ensures.packed c.count_boxes-accepted.ensures.worked))
