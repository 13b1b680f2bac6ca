use Rattle.std.proofs.{Common.{◌≡◌, ◌<◌, ◌∙◌, sym, length, rules, FitsSigned, w64, false}, lemmas.Int.{to_z-of_z}}
use Rattle.rt_geo.specs.Entries.{HasBox}
use Rattle.rt_tree.specs.{Entries.{most_entries}, Indexes.{keeps}}
use Rattle.rt_tree.proofs.EntryLemmas.{pushed, pushed-popped}
use Rattle.rt_tree.proofs.table.Table.push.Goals as goal

pub invariant_of-self-in-Ok-add : goal.invariant_of-self-in-Ok-add
invariant_of-self-in-Ok-add c =
    let fits : FitsSigned w64 c.args.entry.id = search rules in
    let box : HasBox c.args.entry =
    record { box = c.min_x-least.ensures.valid; coordinates = c.min_x-least.ensures.coordinates } in
    let below : length c.self.inside.entries < most_entries = rw c.self.view_is c.requires.most in
    let absent : keeps c.self.inside.ids.loaded.items c.self.inside.ids.pushed c.args.entry.id ≡ false =
    simp (to_z-of_z, fits) at (sym c.has.ensures ∙ c.if-has.false) in
    rw c.in-Ok.ensures.ok
    (pushed c.self.inside.ids.loaded.items c.add.new.self.loaded.items c.self.inside.ids.pushed c.add.new.self.pushed
    c.self.inside.entries c.args.entry c.self.invariant box c.requires.layer absent
    (simp (to_z-of_z, fits) at c.in-Ok-add.ensures.added) below)

pub invariant_of-self-in-Err-add : goal.invariant_of-self-in-Err-add
invariant_of-self-in-Err-add c =
    let kept = c.in-Ok.ensures.ok in
    rw (c.pop.ensures, kept, pushed-popped c.self.inside.entries c.args.entry)
    (record { table = c.self.invariant.table; ids_are = λ id. c.in-Err-add.ensures.err id ∙ c.self.invariant.ids_are id })

pub returns-then-has-clause-repeated : goal.returns-then-has-clause-repeated
returns-then-has-clause-repeated c = search rules
