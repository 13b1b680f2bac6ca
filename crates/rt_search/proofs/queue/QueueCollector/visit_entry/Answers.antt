use Rattle.std.proofs.{Common.{arith, refl, w64}, lemmas.Int.{to_z-of_z}}
use Rattle.rt_tree.specs.Sorting.{put}
use Rattle.rt_search.specs.{Items.{item_at, item_cmp}, Kept.{in_order, node_item}, Pooling.{keys_in}}
use Rattle.rt_search.specs.{Limits.{IsEnough}, Remaining.{put_all}}
use Rattle.rt_search.proofs.{Limits.{enough_joined, enough_same}, Merging.{length-queued, put-put_all}}
use Rattle.rt_search.proofs.{OrderedLists.{length-put, put-all}, Orders.{item_order}}
use Rattle.rt_search.specs.declared.item.Place.TheVariants as place
use Rattle.rt_search.proofs.queue.QueueCollector.visit_entry.Goals as goal

pub put-requires : goal.put-requires
put-requires c = grind (arith, length-queued)

pub invariant_of-self : goal.invariant_of-self
invariant_of-self c = grind (arith, length-queued, length-put, item_order, put-all)

pub returns-then-score-ge-WIDE : goal.returns-then-score-ge-WIDE
returns-then-score-ge-WIDE c = grind (arith, enough_same, item_order, put-put_all, to_z-of_z)

pub put-requires-2 : goal.put-requires-2
put-requires-2 c = grind (arith, length-queued)

pub invariant_of-self-2 : goal.invariant_of-self-2
invariant_of-self-2 c = grind (arith, length-queued, length-put, item_order)

pub returns : goal.returns
returns c =
    let w = c.self.inside.entries.needed in
    let nodes = in_order node_item (keys_in c.self.inside.nodes) in
    let old = c.self.inside.entries.items in
    let new = c.put-2.new.self.items in
    let x = item_at c.args.score (place.Entry c.args.id) in
    let here : IsEnough w new (put item_cmp x old) = grind (arith, to_z-of_z, w64) in
    let items = enough_joined w x c.self.inside.wide.items (put_all item_cmp nodes old) (put_all item_cmp nodes new)
    (enough_joined w x nodes old new here) in
    rw (c.if-not-is_accepted.false, ← c.self.view_is) (_, (record { items = items; needed = c.put-2.ensures.needed; capacity = refl }, refl))
