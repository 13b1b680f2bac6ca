use Rattle.std.proofs.Common.{◌==◌, ◌∙◌, length, rules, sym, tests}
use Rattle.std.proofs.lemmas.List.{length_push}
use Rattle.std.proofs.lemmas.Result.{err_from_is_err_and}
use Rattle.std.specs.List.{slice_split}
use Rattle.rt_text.proofs.LayerLemmas.{layers_from-all, layers_from-fault, layers_from-more, part_is, parts_end}
use Rattle.rt_text.proofs.grammar.layers_of.Goals as goal

pub loop-part-preserved : goal.loop-part-preserved
loop-part-preserved c =
    let list = c.args.list.now in
    let parts = slice_split (λ c. c == 44) list in
    let there = part_is (λ c. c == 44) list _ c.loop-part.yielded _ _ c.loop-part.yielded_by c.next.result c.next.ensures.steps
    (search rules) (search rules) (search rules) (λ x r q k. search (rules, tests))
    c.in-Some.part c.in-Some.is in
    let layer = c.in_ok-layer_part.field-0 in
    record {
      can_next = search rules;
      is_finite = tt;
      rest = rw (length_push c.loop-part.yielded c.in-Some.part, c.union-layers.ensures.value, c.of.ensures.value)
          (c.loop-part.invariant.rest ∙ layers_from-more c.loop-part.layers parts (length c.loop-part.yielded) c.in-Some.part.now layer there.0 there.1 (sym c.in_ok-layer_part.ensures.value));
    }

pub returns-in_err-layer_part : goal.returns-in_err-layer_part
returns-in_err-layer_part c =
    let list = c.args.list.now in
    let parts = slice_split (λ c. c == 44) list in
    let there = part_is (λ c. c == 44) list _ c.loop-part.yielded _ _ c.loop-part.yielded_by c.next.result c.next.ensures.steps
    (search rules) (search rules) (search rules) (λ x r q k. search (rules, tests))
    c.in-Some.part c.in-Some.is in
    let p = err_from_is_err_and c.from_residual.result c.from_residual.ensures.1 in
    let fault = layers_from-fault c.loop-part.layers parts (length c.loop-part.yielded) c.in-Some.part.now c.in_err-layer_part.field-0.0 there.0 there.1 (sym c.in_err-layer_part.ensures.value) in
    rw (p.1, p.2) (sym (c.loop-part.invariant.rest ∙ fault))

pub returns : goal.returns
returns c =
    let list = c.args.list.now in
    let parts = slice_split (λ c. c == 44) list in
    let end = parts_end (λ c. c == 44) list _ c.loop-part.yielded _ _ c.loop-part.yielded_by c.next.result c.next.ensures.steps
    (search rules) (search rules) (search rules) (λ x r q k. search (rules, tests)) c.in-None.is in
    sym (c.loop-part.invariant.rest ∙ layers_from-all c.loop-part.layers parts (length c.loop-part.yielded) end)
