use Rattle.std.proofs.Common.{◌∙◌, ap, arith, rules, slice_get, sym}
use Rattle.rt_tree.specs.{Packing.{twice_middle_y}, SortKeys.{box_of, key_at, place_of, rank, rekeyed, sort_key}}
use Rattle.rt_tree.specs.Sorting.{sorted}
use Rattle.rt_tree.proofs.LoopLemmas.{mapped_all, mapped_more, sum_read, unchanged}
use Rattle.rt_tree.proofs.packing.sort_by_y.Goals as goal

pub item-requires : goal.item-requires
item-requires g c =
    let i = c.loop-key.key-index in
    let old = c.args.keys.now in
    omega (
      arith,
      c.requires.places i 0 c.loop-key-test.true,
      c.place_of-place.ensures,
      ap place_of (unchanged i old
          c.loop-key.keys c.loop-key.invariant.later i (omega arith)),
    )

pub loop-key-preserved : goal.loop-key-preserved
loop-key-preserved g c =
    let items = g.T.Items.list c.args.items.now in
    let box = box_of g.T.Items.extent in
    let place = c.place_of-place.result in
    let sum = sum_read c.min_y.result c.max_y.result _ _ (search rules) (search rules) (c.min_y.ensures.value
    ∙ ap (λ b. b.min_y) c.bounds-bounds.ensures) (c.max_y.ensures.value ∙ ap (λ b. b.max_y) c.bounds-bounds.ensures) in
    mapped_more (rekeyed box twice_middle_y items) c.args.keys.now c.loop-key.keys c.loop-key.key-index c.sort_key.result
    c.loop-key-test.true c.loop-key.invariant (c.sort_key.ensures
    ∙ ap (λ s. sort_key (rank s) place) sum ∙ ap (key_at box twice_middle_y place) (sym c.item.ensures)
    ∙ ap (λ place. key_at box twice_middle_y place (slice_get items place)) c.place_of-place.ensures)

pub returns : goal.returns
returns g c =
    let items = g.T.Items.list c.args.items.now in
    let key = rekeyed (box_of g.T.Items.extent) twice_middle_y items in
    c.sort_keys.ensures ∙ ap (sorted (g.T.Items.key_order items)) (mapped_all key c.args.keys.now c.loop-key.keys
    c.loop-key.key-index c.loop-key-test.false c.loop-key.invariant)
