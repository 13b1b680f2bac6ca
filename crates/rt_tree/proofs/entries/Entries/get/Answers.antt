use Rattle.std.proofs.{Common.{◌≡◌, ◌∙◌, ◌<◌, FitsSigned, ap, arith, get_or, length, rules, w64}, lemmas.Int.{to_z-of_z}}
use Rattle.std.proofs.lemmas.List.{get_or_default}
use Rattle.rt_tree.specs.Leaves.{with_layer}
use Rattle.rt_tree.proofs.{LeafLemmas.{layers-alone, length-entries_of}, PairLemmas.{paired-at}}
use Rattle.rt_tree.proofs.entries.Entries.get.Goals as goal

pub index-entry-requires : goal.index-entry-requires
index-entry-requires c =
    let long = length-entries_of c.self.inside.entries.items c.self.inside.layers.items c.self.invariant in
    let there = rw (← c.self.view_is) at c.requires in
    omega arith

pub returns : goal.returns
returns c =
    let entries = c.self.inside.entries.items in
    let layers = c.self.inside.layers.items in
    let place = c.args.place in
    let long = length-entries_of entries layers c.self.invariant in
    let there : place < length entries = omega (arith, rw (← c.self.view_is) at c.requires) in
    let entry = c.index-entry.result.now in
    let fits : FitsSigned w64 entry.id = search rules in
    let layer = c.layer.result in
    let same = c.self.invariant in
    let inside : place < length layers = omega arith in
    let is : layer ≡ get_or layers place layer = (rw (← c.self.view_is) at c.layer.ensures)
    ∙ ap (λ l. get_or l place 0) (layers-alone entries layers same) ∙ get_or_default layers place 0 layer inside in
    rw (← c.self.view_is) (simp (to_z-of_z, fits) (paired-at with_layer entries layers place entry layer same there
    c.index-entry.ensures is))
