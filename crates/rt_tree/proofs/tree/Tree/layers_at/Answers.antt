use Rattle.std.proofs.{Common.{◌<◌, ◌≤◌, ◌∙◌, ℕ, ap, arith, length, map}, lemmas.List.{length-map, Elements.{All-map}}}
use Rattle.rt_geo.specs.Layers.{most_layer, only}
use Rattle.rt_tree.proofs.LeafLemmas.{layer_of, layers_of_entry}
use Rattle.rt_tree.proofs.tree.Tree.layers_at.Goals as goal

pub of-requires : goal.of-requires
of-requires c =
    let entries = c.self.inside.leaves in
    let place = c.args.place in
    let few = All-map (λ (layer : ℕ). layer ≤ most_layer) layer_of entries c.self.invariant.0.table.layers in
    let there : place < length entries = rw (← c.self.view_is) at c.requires in
    let inside : place < length (map layer_of entries) = omega (arith, length-map entries layer_of) in
    omega (arith, few place 0 inside, c.layer.ensures)

pub returns : goal.returns
returns c = rw (← c.self.view_is)
    (layers_of_entry c.self.inside.leaves c.args.place c.of.result (c.of.ensures.value ∙ ap only c.layer.ensures))
