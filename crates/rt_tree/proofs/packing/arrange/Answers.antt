use Rattle.std.proofs.{Common.{◌≡◌, ◌<◌, ◌*◌, ◌∙◌, All, ap, arith, length, subst, sym}, lemmas.List.{length-map}}
use Rattle.std.proofs.lemmas.List.FromFn.{length-enumerate_from}
use Rattle.std.specs.{Int.{div_ceil}, List.{enumerate_from, flat_map}}
use Rattle.rt_tree.specs.{Packing.{ceil_sqrt, chunks, twice_middle_x}, Sorting.{sorted}}
use Rattle.rt_tree.specs.SortKeys.{box_of, by_y, key_of, keys_by_x, place_of, items_at}
use Rattle.rt_tree.proofs.{ChunkLemmas.{chunks-alike}, SortKeyLemmas.{keys_tell, sliced_tell}}
use Rattle.rt_tree.proofs.packing.arrange.Goals as goal

pub sort_slices-requires-clause-places : goal.sort_slices-requires-clause-places
sort_slices-requires-clause-places g c =
    let items = g.T.Items.list c.args.items.now in
    let order = g.T.Items.key_order items in
    let by_x = c.sort_keys.ensures ∙ ap (sorted order) c.requires.keys in
    subst (All (λ key. place_of key < length items)) (sym by_x)
    (keys_tell (box_of g.T.Items.extent) items c.requires.packable.few order)

pub returns : goal.returns
returns g c =
    let items = g.T.Items.list c.args.items.now in
    let order = g.T.Items.key_order items in
    let box = box_of g.T.Items.extent in
    let each = by_y order box items in
    let by_x = c.sort_keys.ensures ∙ ap (sorted order) c.requires.keys in
    let long : length (keys_by_x order box items) ≡ length items = ap length (sym by_x) ∙ c.sort_keys.auto.keys
    ∙ ap length c.requires.keys ∙ length-map (enumerate_from 0 items) (key_of box twice_middle_x)
    ∙ length-enumerate_from 0 items in
    let sliced = c.sort_slices.ensures ∙ ap (λ ks. flat_map each (chunks c.slice_size.result ks)) by_x in
    let size = λ (some : 0 < length (keys_by_x order box items)). c.slice_size.ensures.value (omega (arith, c.count.ensures))
    ∙ ap (λ n. ceil_sqrt (div_ceil n c.args.fanout) * c.args.fanout) c.count.ensures in
    record {
      arranged = ap (items_at items) (sliced ∙ ap (flat_map each) (chunks-alike c.slice_size.result _ (keys_by_x order box items) size))
          ∙ c.requires.packable.arranged c.args.fanout (omega (arith, c.requires.several));
      places = subst (All (λ key. place_of key < length items)) (sym sliced)
          (sliced_tell box items c.requires.packable.few order c.slice_size.result);
    }
