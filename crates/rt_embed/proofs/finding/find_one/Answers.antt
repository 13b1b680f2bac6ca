use Rattle.std.proofs.Common.{length, subst}
use Rattle.rt_search.specs.{Work.{CountsOn}}
use Rattle.rt_filter.specs.Replies.{meaning_of}
use Rattle.rt_embed.specs.{Findings.{answers_to}, Puts.{IsPut, needed_from}}
use Rattle.rt_embed.proofs.LimitLemmas.{answers_within, opened_within, put_within}
use Rattle.rt_embed.proofs.finding.find_one.Goals as goal

pub returns-clause-put : goal.returns-clause-put
returns-clause-put c =
    let question = c.args.question.now in
    let needed = needed_from c.args.from (length c.args.ids.now) in
    let within = rw c.len.ensures.value at c.limit_within-limit.ensures.within in
    put_within (answers_to c.args.tree.now.entries question) c.args.from c.put_up_to.result.0 c.args.ids.now c.put_up_to.new.ids
    c.args.scores.now c.put_up_to.new.scores c.requires.place
    (subst (λ found. IsPut found c.args.from c.put_up_to.result.0 c.args.ids.now c.put_up_to.new.ids
    c.args.scores.now c.put_up_to.new.scores)
    (answers_within c.args.tree.now.entries (meaning_of question.region question.layers question.order) question.limit c.limit_within-limit.result needed
    within c.limit_within-limit.ensures.least) c.put_up_to.ensures.put)

pub returns-clause-worked : goal.returns-clause-worked
returns-clause-worked c =
    let question = c.args.question.now in
    let needed = needed_from c.args.from (length c.args.ids.now) in
    let within = rw c.len.ensures.value at c.limit_within-limit.ensures.within in
    subst (λ opened. CountsOn c.args.frontier.opened opened c.put_up_to.result.1.opened)
    (opened_within c.args.tree.now (meaning_of question.region question.layers question.order) question.limit c.limit_within-limit.result needed
    within c.limit_within-limit.ensures.least) c.put_up_to.ensures.worked
