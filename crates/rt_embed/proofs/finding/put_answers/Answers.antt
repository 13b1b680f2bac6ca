use Rattle.std.proofs.Common.{◌≡◌, ◌+◌, ◌-◌, List, Some, arith, length, rules}
use Rattle.std.proofs.lemmas.List.{length-drop}
use Rattle.rt_search.specs.{Answers.{Answer, answers}, Work.{opened_by_search}}
use Rattle.rt_embed.specs.Puts.{needed_from}
use Rattle.rt_embed.proofs.LimitLemmas.{opened_cut, opened_either}
use Rattle.rt_embed.proofs.finding.put_answers.Goals as goal

pub returns-clause-worked : goal.returns-clause-worked
returns-clause-worked g c =
    let t = c.args.tree.now in
    let meaning = g.G.Geometry.meaning c.args.geometry in
    let limit = c.args.limit in
    let list : List Answer = answers t.entries meaning limit in
    let from = c.args.from in
    let passed = c.pass_over-search in
    let rest = c.put_rest-search in
    let given = passed.result.0.given + (rest.result.1 - from.end) + 1 in
    let left : passed.result.1 ≡ from.skip - length list = search rules in
    let to_come : length passed.result.0.to_come ≡ length list - from.skip = rw (passed.ensures.to_come, c.start-search.ensures.to_come, c.new.ensures.geometry) (length-drop from.skip list) in
    let opened : rest.result.0.opened ≡ opened_by_search meaning t limit =
    opened_either rest.result.2 rest.result.0.opened (opened_by_search meaning t limit) (opened_by_search meaning t (Some given))
    (search rules) (search rules)
    (λ cut. opened_cut t meaning limit (needed_from from (length c.args.ids.now)) given c.requires.within
    (omega (arith, c.requires.place, passed.ensures.given, c.start-search.ensures.given, left, to_come, (rest.ensures.put.cut cut).0, (rest.ensures.put.cut cut).1))
    (omega (arith, c.requires.place, to_come, (rest.ensures.put.cut cut).0, (rest.ensures.put.cut cut).1))) in
    search rules
