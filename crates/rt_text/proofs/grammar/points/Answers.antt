use Rattle.std.proofs.Common.{◌≡◌, ◌∙◌, ◌+◌, ◌-◌, suc, ap, arith, rules, sym}
use Rattle.std.proofs.lemmas.Result.{err_from_is_err_and}
use Rattle.rt_text.proofs.PointLemmas.{points_after, points_after-fault, points_after-more}
use Rattle.rt_text.proofs.grammar.points.Goals as goal

pub returns-in_err-point-clause-fault : goal.returns-in_err-point-clause-fault
returns-in_err-point-clause-fault c =
    let so_far = c.loop-vertex.found.items in
    let before = c.loop-vertex.words in
    let left = c.args.count - (c.loop-vertex._vertex + 1) in
    let step : c.args.count - c.loop-vertex._vertex ≡ suc left = omega arith in
    let p = err_from_is_err_and c.from_residual.result c.from_residual.ensures.1 in
    rw (p.1, p.2)
    (c.loop-vertex.invariant.rest ∙ ap (λ n. points_after so_far n before) step
    ∙ points_after-fault so_far left before c.in_err-point.field-0.0 c.in_err-point.ensures)

pub loop-vertex-preserved : goal.loop-vertex-preserved
loop-vertex-preserved c =
    let so_far = c.loop-vertex.found.items in
    let before = c.loop-vertex.words in
    let after = c.point.new.words in
    let left = c.args.count - (c.loop-vertex._vertex + 1) in
    let step : c.args.count - c.loop-vertex._vertex ≡ suc left = omega arith in
    record {
      many = search rules;
      rest = c.loop-vertex.invariant.rest ∙ ap (λ n. points_after so_far n before) step
          ∙ points_after-more so_far left before after c.in_ok-point.field-0 c.in_ok-point.ensures
          ∙ ap (λ vertices. points_after vertices left after) (sym c.push.ensures.items);
    }

pub loop-vertex-init : goal.loop-vertex-init
loop-vertex-init c = search rules
