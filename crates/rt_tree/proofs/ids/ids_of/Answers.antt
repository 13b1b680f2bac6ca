use Rattle.std.proofs.Common.{◌∙◌, ◌++◌, ◌∷◌, [], FitsSigned, ap, arith, rules, subst, sym, take, w64}
use Rattle.std.proofs.lemmas.{Grind.{common_steps}, Int.{to_z-of_z}, List.{map_more, Elements.{All-more}}}
use Rattle.std.proofs.lemmas.Option.{get_or_from_slice_get, slice_get_within}
use Rattle.rt_geo.specs.Entries.{HasBox}
use Rattle.rt_geo.specs.declared.entry.Entry.{Entry}
use Rattle.rt_tree.specs.Entries.{ids_of}
use Rattle.rt_tree.proofs.ids.ids_of.Goals as goal

pub loop-place-preserved : goal.loop-place-preserved
loop-place-preserved c =
    let entries = c.args.entries.now in
    let place = c.loop-place.place in
    let entry = c.get-entry.result in
    let is = sym (get_or_from_slice_get entries place entry entry c.get-entry.ensures) in
    let there = slice_get_within entries place entry c.get-entry.ensures in
    let fits : FitsSigned w64 entry.id = search rules in
    let box : HasBox entry =
    record { box = c.min_x-least.ensures.valid; coordinates = c.min_x-least.ensures.coordinates } in
    record {
      ids = (simp (to_z-of_z, fits) at c.in_ok-push.ensures.items) ∙ ap (λ ids. ids ++ entry.id ∷ []) c.loop-place.invariant.ids
          ∙ sym (map_more (λ (e : Entry). e.id) entries place entry there
          ∙ ap (λ (e : Entry). ids_of (take place entries) ++ e.id ∷ []) (sym is));
      boxes = All-more HasBox entries place entry there c.loop-place.invariant.boxes
          (subst HasBox is box);
    }

pub returns-clause-ids : goal.returns-clause-ids
returns-clause-ids c = grind (arith, common_steps)

pub returns-clause-boxes : goal.returns-clause-boxes
returns-clause-boxes c = grind (arith, common_steps)
