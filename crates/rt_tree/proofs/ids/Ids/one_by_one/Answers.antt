use Rattle.std.proofs.{Common.{◌∙◌, ◌||◌, FitsSigned, ap, arith, rules, sym, w64}, lemmas.{Grind.{common_steps}, Int.{to_z-of_z}}}
use Rattle.std.specs.Ordering.{int_eq}
use Rattle.rt_tree.proofs.RepeatLemmas.{ids-more, repeat-here, repeat-later}
use Rattle.rt_tree.proofs.ids.Ids.one_by_one.Goals as goal

pub loop-place-preserved : goal.loop-place-preserved
loop-place-preserved c =
    let entries = c.args.entries.now in
    let place = c.loop-place.place in
    let entry = c.get-id.result in
    let at = c.get-id.ensures in
    let so_far = c.loop-place.invariant in
    let fits : FitsSigned w64 entry.id = search rules in
    record {
      ids = λ id. (simp (to_z-of_z, fits) at c.in-Ok.ensures.added id) ∙ ap (λ b. b || int_eq id entry.id) (so_far.ids id)
          ∙ sym (ids-more entries place entry at id);
      once = repeat-later entries place entry at so_far.once (sym (so_far.ids entry.id)
          ∙ (simp (to_z-of_z, fits) at (sym c.has.ensures ∙ c.if-has.false)));
    }

pub returns-then-has-clause-fault : goal.returns-then-has-clause-fault
returns-then-has-clause-fault c =
    let entry = c.get-id.result in
    let so_far = c.loop-place.invariant in
    let fits : FitsSigned w64 entry.id = search rules in
    repeat-here c.args.entries.now c.loop-place.place entry c.get-id.ensures so_far.once (sym (so_far.ids entry.id)
    ∙ (simp (to_z-of_z, fits) at (sym c.has.ensures ∙ c.if-has.true)))

pub returns-clause-ids : goal.returns-clause-ids
returns-clause-ids c = grind (arith, common_steps)

pub returns-clause-once : goal.returns-clause-once
returns-clause-once c = grind (arith, common_steps)
