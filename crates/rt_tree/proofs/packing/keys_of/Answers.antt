use Rattle.std.proofs.{Common.{◌∙◌, ap, rules, sym}, lemmas.Option.{get_or_from_slice_get, slice_get_within}}
use Rattle.rt_tree.specs.{Packing.{twice_middle_x}, SortKeys.{box_of, key_of, rank, sort_key}}
use Rattle.rt_tree.proofs.LoopLemmas.{keys_more, sum_read}
use Rattle.rt_tree.proofs.packing.keys_of.Goals as goal

pub loop-place-preserved : goal.loop-place-preserved
loop-place-preserved g c =
    let items = g.T.Items.list c.args.items.now in
    let place = c.loop-place.place in
    let x = c.item.result in
    let is = sym (get_or_from_slice_get items place x x c.item.ensures) in
    let there = slice_get_within items place x c.item.ensures in
    let sum = sum_read c.min_x.result c.max_x.result _ _ (search rules) (search rules) (c.min_x.ensures.value
    ∙ ap (λ b. b.min_x) c.bounds-bounds.ensures) (c.max_x.ensures.value ∙ ap (λ b. b.max_x) c.bounds-bounds.ensures) in
    c.in_ok-push.ensures.items
    ∙ keys_more (key_of (box_of g.T.Items.extent) twice_middle_x) items place c.sort_key.result x c.loop-place.keys.items
    there is (c.sort_key.ensures ∙ ap (λ s. sort_key (rank s) place) sum) c.loop-place.invariant
