-- What a search without a queue finds: entries of score 0, those of other scores of one word, and the wide.
use Rattle.std.proofs.Common.{◌<◌, ◌≤◌, ◌^◌, ℕ, ℤ, List, arith}
use Rattle.std.specs.{List.{AllByRecursion}, declared.cmp.Reverse.{Reverse}}
use Rattle.rt_search.specs.{Items.{item_cmp}, Kept.{IsEntry, entry_item, hits_in, zero_item}}
use Rattle.rt_search.specs.{Remaining.{put_all}, declared.item.Item.{Item}}
use Rattle.rt_search.proofs.{Elements.{all_each, all_map}, Heaps.{all_entries, in_order-all}}
use Rattle.rt_search.proofs.{OrderedLists.{put_all-all}, Orders.{item_order}}

-- each is an entry
pub hits_entries : (ids : List (Reverse ℤ)) (keys : List (Reverse ℕ)) (wide : List Item)
    → AllByRecursion (λ x. IsEntry x.place) wide → AllByRecursion (λ x. IsEntry x.place) (hits_in ids keys wide)
hits_entries ids keys wide a =
    let zero = in_order-all zero_item (λ x. IsEntry x.place) ids
    (all_each (λ r. IsEntry (zero_item r).place) (λ r. tt) ids) in
    let rest = in_order-all entry_item (λ x. IsEntry x.place) keys (all_entries keys) in
    grind (arith, put_all-all, item_order)

-- those of other scores all score more than 0
pub rest_above : (xs ys : List Item) → AllByRecursion (λ x. 0 < x.score) xs → AllByRecursion (λ x. 2 ^ 64 ≤ x.score) ys
    → AllByRecursion (λ x. 0 < x.score) (put_all item_cmp xs ys)
rest_above xs ys a b = grind (arith, put_all-all, item_order, all_map)
