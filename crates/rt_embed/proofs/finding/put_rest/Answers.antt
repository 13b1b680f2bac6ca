use Rattle.std.proofs.Common.{◌≡◌, ◌+◌, arith, ◌∙◌, ◌++◌, ◌∷◌, ◌-◌, [], ap, map, rules, subst, sym, take}
use mir.{Syntax.{w64}, Val.{of_z, to_z}}
use Rattle.rt_embed.specs.Findings.{Begins, id_of, score_of}
use Rattle.rt_embed.proofs.ArrayLemmas.{begins_put, drop_next, map_next, put_len}
use Rattle.rt_embed.proofs.finding.put_rest.Goals as goal

pub loop-id-preserved : goal.loop-id-preserved
loop-id-preserved g c =
    let from = c.args.from in
    let end = c.loop-id.end in
    let list = c.args.search.to_come in
    let kept = c.loop-id.invariant in
    let next = sym kept.to_come ∙ c.in-Some.ensures.answer in
    let same : to_z w64 (of_z w64 c.in-Some.id) ≡ c.in-Some.id = search rules in
    record {
      behind = search rules;
      place = search rules;
      ids_len = search rules;
      scores_len = search rules;
      capacity = search rules;
      tree = search rules;
      geometry = search rules;
      limit = search rules;
      opened_before = search rules;
      given = search rules;
      to_come = drop_next list from end _ _ kept.behind next;
      all = search rules;
      ids_stand = λ before len begins.
          rw same (subst (Begins _) (map_next id_of before list from end _ _ kept.behind next)
          (begins_put c.loop-id.ids end c.in-Some.id _ (search rules) (put_len id_of before list from end _ len kept.behind kept.all)
          (kept.ids_stand before len begins)));
      scores_stand = λ before len begins.
          subst (Begins c.put_at.new.array) (ap (λ score. map score_of (before ++ take (end - from) list) ++ score ∷ []) c.new.ensures
          ∙ map_next score_of before list from end _ _ kept.behind next)
          (c.put_at.ensures.put _ (put_len score_of before list from end _ len kept.behind kept.all) (kept.scores_stand before len begins));
    }

pub returns-then-end-ids-clause-cut : goal.returns-then-end-ids-clause-cut
returns-then-end-ids-clause-cut g c = λ _.
    let kept = c.loop-id.invariant in
    let given : c.next.new.self.given ≡ c.args.search.given + (c.loop-id.end - c.args.from) + 1 =
    omega (arith, c.in-Some.ensures.given, kept.given, kept.behind) in
    rw (← given) (search rules)
