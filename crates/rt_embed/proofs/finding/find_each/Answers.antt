use Rattle.std.proofs.Common.{IsSome, ◌≡◌, ◌∙◌, ◌≤◌, ◌+◌, ◌-◌, ◌++◌, ap, arith, drop, flat_map, length, map, rules, subst, sym, take}
use Rattle.std.specs.{Option.{is_some}, Result.{result_ok}}
use Rattle.std.proofs.Math.ListN.{get_or}
use Rattle.std.proofs.lemmas.List.{length-append, take_all}
use Rattle.std.proofs.lemmas.Option.{slice_get-get_or}
use Rattle.rt_embed.specs.Findings.{Begins, answers_to, id_of, list_of, lists_of, score_of}
use Rattle.rt_embed.specs.PlainQueries.{question_of}
use Rattle.rt_embed.proofs.CostLemmas.{finds_next, finds_none, finds_whole}
use Rattle.rt_embed.proofs.ListLemmas.{all_more, cut_first, cut_list, ends_len, ends_more, few_first, left_more, list_is, lists_more, no_query, whole_list}
use Rattle.rt_embed.proofs.finding.find_each.Goals as goal

-- the next query asks no question
pub returns-in_default-clause-found : goal.returns-in_default-clause-found
returns-in_default-clause-found c =
    let entries = c.args.tree.now.entries in
    let vertices = c.args.vertices.now in
    let skip = c.args.skip in
    let queries = c.args.queries.now in
    let done = c.loop-done.done in
    let kept = c.loop-done.invariant in
    let first = lists_of entries vertices skip (take done queries) in
    let given : take c.loop-done.position.end (lists_of entries vertices skip queries) ≡ first =
    sym (cut_first entries vertices skip queries done c.loop-done.position.end (omega (arith, kept.end)))
    ∙ take_all c.loop-done.position.end first (omega (arith, kept.end)) in
    rw c.stopped.ensures (record {
      few = omega (arith, kept.end, few_first entries vertices skip queries done);
      ids_stand = rw given kept.ids_stand;
      scores_stand = rw given kept.scores_stand;
      ends_stand = kept.ends_stand;
      questions = kept.questions;
      stop = (
        kept.end,
        (
          get_or queries done no_query,
          slice_get-get_or queries done no_query c.loop-done-test.true,
          sym (ap result_ok c.question.ensures) ∙ ap result_ok c.in_default.is,
        ),
      );
    })

-- the next answer has no place
pub returns-then-not-position-clause-found : goal.returns-then-not-position-clause-found
returns-then-not-position-clause-found c =
    let entries = c.args.tree.now.entries in
    let vertices = c.args.vertices.now in
    let skip = c.args.skip in
    let queries = c.args.queries.now in
    let done = c.loop-done.done in
    let kept = c.loop-done.invariant in
    let inside = c.loop-done-test.true in
    let put = c.find_one-left.ensures.put.put in
    let from = c.loop-done.position.end in
    let end = c.find_one-left.result.0.end in
    let first = lists_of entries vertices skip (take done queries) in
    let question = c.in-Ok.question in
    let last = drop c.loop-done.position.skip (answers_to entries question) in
    let cut = put.cut (search rules) in
    let both : lists_of entries vertices skip (take (done + 1) queries) ≡ first ++ last =
    lists_more entries vertices skip queries done no_query inside
    ∙ ap (λ list. first ++ drop (skip - length (flat_map (list_of entries vertices) (take done queries))) list)
    (list_is entries vertices skip (get_or queries done no_query) question (sym (ap result_ok c.question.ensures) ∙ ap result_ok c.in-Ok.is))
    ∙ ap (λ n. first ++ drop n (answers_to entries question)) (sym kept.skip) in
    let long : length (lists_of entries vertices skip (take (done + 1) queries)) ≡ from + length last =
    omega (arith, ap length both, length-append first last, kept.end) in
    let few : end ≤ length (lists_of entries vertices skip (take (done + 1) queries)) = omega (arith, long, cut.1) in
    let given : first ++ take (end - from) last ≡ take end (lists_of entries vertices skip queries) =
    cut_list first last from end (sym kept.end) put.behind
    ∙ ap (take end) (sym both) ∙ cut_first entries vertices skip queries (done + 1) end few in
    rw c.stopped-then-not-position.ensures (record {
      few = omega (arith, few, few_first entries vertices skip queries (done + 1));
      ids_stand = subst (λ list. Begins c.find_one-left.new.ids (map id_of list)) given
          (put.ids_stand first (sym kept.end) kept.ids_stand);
      scores_stand = subst (λ list. Begins c.find_one-left.new.scores (map score_of list)) given
          (put.scores_stand first (sym kept.end) kept.scores_stand);
      ends_stand = kept.ends_stand;
      questions = kept.questions;
      stop = (omega (arith, cut.0, put.ids_len), inside, omega (arith, kept.end, put.behind), omega (arith, long, cut.1));
    })

-- the list of the next query is whole
pub loop-done-preserved : goal.loop-done-preserved
loop-done-preserved c =
    let entries = c.args.tree.now.entries in
    let vertices = c.args.vertices.now in
    let skip = c.args.skip in
    let queries = c.args.queries.now in
    let done = c.loop-done.done in
    let kept = c.loop-done.invariant in
    let inside = c.loop-done-test.true in
    let put = c.find_one-left.ensures.put.put in
    let from = c.loop-done.position.end in
    let end = c.find_one-left.result.0.end in
    let first = lists_of entries vertices skip (take done queries) in
    let question = c.in-Ok.question in
    let last = drop c.loop-done.position.skip (answers_to entries question) in
    let whole = put.whole (search rules) in
    let is = list_is entries vertices skip (get_or queries done no_query) question (sym (ap result_ok c.question.ensures) ∙ ap result_ok c.in-Ok.is) in
    let both : lists_of entries vertices skip (take (done + 1) queries) ≡ first ++ last =
    lists_more entries vertices skip queries done no_query inside
    ∙ ap (λ list. first ++ drop (skip - length (flat_map (list_of entries vertices) (take done queries))) list) is
    ∙ ap (λ n. first ++ drop n (answers_to entries question)) (sym kept.skip) in
    let long : end ≡ length (lists_of entries vertices skip (take (done + 1) queries)) =
    omega (arith, ap length both, length-append first last, kept.end, whole) in
    let given : first ++ take (end - from) last ≡ lists_of entries vertices skip (take (done + 1) queries) =
    whole_list first last from end whole ∙ sym both in
    record {
      bound = search rules;
      capacity = search rules;
      worked = finds_next c.args.tree.now vertices skip (length c.args.ids.now) queries done no_query inside c.loop-done.position question
          (length c.loop-done.ids) c.args.frontier.opened c.loop-done.frontier.opened c.find_one-left.result.1.opened kept.skip kept.end
          (omega (arith, kept.place, kept.ids_len)) kept.ids_len (sym (ap result_ok c.question.ensures) ∙ ap result_ok c.in-Ok.is) kept.worked
          c.find_one-left.ensures.worked;
      ids_len = put.ids_len ∙ kept.ids_len;
      scores_len = put.scores_len ∙ kept.scores_len;
      ends_len = c.put_at.ensures.len ∙ kept.ends_len;
      place = omega (arith, put.place, put.ids_len);
      end = long;
      skip = omega (arith, c.find_one-left.ensures.put.skip, kept.skip, left_more entries vertices skip queries done no_query inside, ap length is);
      ids_stand = subst (λ list. Begins c.find_one-left.new.ids (map id_of list)) given
          (put.ids_stand first (sym kept.end) kept.ids_stand);
      scores_stand = subst (λ list. Begins c.find_one-left.new.scores (map score_of list)) given
          (put.scores_stand first (sym kept.end) kept.scores_stand);
      ends_stand = subst (Begins c.put_at.new.array) (ends_more entries vertices skip queries done end long)
          (c.put_at.ensures.put _ (ends_len entries vertices skip queries done) kept.ends_stand);
      questions = all_more (λ query. IsSome (question_of vertices query)) queries done no_query inside kept.questions
          (ap is_some (sym (ap result_ok c.question.ensures) ∙ ap result_ok c.in-Ok.is));
    }

-- ---- the nodes that are opened

pub returns-in_default-clause-worked : goal.returns-in_default-clause-worked
returns-in_default-clause-worked c =
    let none = finds_none c.args.tree.now c.args.vertices.now c.args.skip (length c.args.ids.now) c.args.queries.now c.loop-done.done no_query
    c.loop-done-test.true (sym (ap result_ok c.question.ensures) ∙ ap result_ok c.in_default.is) in
    rw (c.stopped.ensures, none) c.loop-done.invariant.worked

pub returns-then-not-position-clause-worked : goal.returns-then-not-position-clause-worked
returns-then-not-position-clause-worked c =
    rw c.stopped-then-not-position.ensures
    (finds_next c.args.tree.now c.args.vertices.now c.args.skip (length c.args.ids.now) c.args.queries.now c.loop-done.done no_query
    c.loop-done-test.true c.loop-done.position c.in-Ok.question (length c.loop-done.ids) c.args.frontier.opened c.loop-done.frontier.opened
    c.find_one-left.result.1.opened c.loop-done.invariant.skip c.loop-done.invariant.end
    (omega (arith, c.loop-done.invariant.place, c.loop-done.invariant.ids_len)) c.loop-done.invariant.ids_len
    (sym (ap result_ok c.question.ensures) ∙ ap result_ok c.in-Ok.is) c.loop-done.invariant.worked c.find_one-left.ensures.worked)

pub returns-clause-worked : goal.returns-clause-worked
returns-clause-worked c =
    let whole = finds_whole c.args.tree.now c.args.vertices.now (c.args.skip + length c.args.ids.now + 1) c.args.queries.now c.loop-done.done
    c.loop-done-test.false in
    rw (c.stopped-2.ensures, whole) c.loop-done.invariant.worked
