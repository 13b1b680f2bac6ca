-- What is kept in any order, seen as items in order.
use Rattle.std.proofs.Common.{Some, ◌≡◌, ℕ, false, List, [], ◌∷◌, map, length, sym, ◌∙◌, arith, Result}
use Rattle.std.specs.declared.cmp.Reverse.{Reverse}
use Rattle.rt_tree.proofs.SortingLemmas.{IsPermutation-sorted}
use Rattle.rt_tree.specs.Sorting.{put}
use Rattle.rt_search.specs.{Items.{item_cmp}, Kept.{IsEntry, IsTakenOut, entry_item, in_order, node_item, wide_item}}
use Rattle.rt_search.proofs.Orders.{entry_derived, item_order, node_derived, wide_derived}
use Rattle.std.proofs.{Common.{IsPermutation}, lemmas.List.{length-map, Sorted.{IsPermutation-map, length_permutation}}}
use Rattle.std.specs.{Prelude.{IsOk, OnOk}, List.{AllByRecursion}, Ordering.{is_gt, is_lt, nat_cmp}}
use Rattle.rt_search.specs.{contracts.item.ItemOrd.TheImpl.{ghosts as item_ghosts}, declared.item.Item.{Item}}
use Rattle.rt_search.proofs.{Elements.{all_each, all_map, all_moved}, OrderedLists.{put_least}}

pub on_ok : {T E P : Type 0} (r : Result T E) → IsOk r → OnOk r P → P
on_ok r h p = grind arith

pub map-all : {X : Type 0} (item : X → Item) (P : Item → Type 0) (xs : List X) → AllByRecursion (λ x. P (item x)) xs
    → AllByRecursion P (map item xs)
map-all item P [] a = tt
map-all item P (x ∷ xs) a = (a.0, map-all item P xs a.1)

-- ---- any collection, by the items that its elements are

-- x comes after none of these
abbrev pub IsLeastOf : {X : Type 0} → (X → Item) → Item → List X → Type 0
IsLeastOf item x = AllByRecursion (λ y. is_gt (item_cmp x (item y)) ≡ false)

module _ {X : Type 0} (item : X → Item) where
  pub length-in_order : (xs : List X) → length (in_order item xs) ≡ length xs
  length-in_order xs = length_permutation _ _ (IsPermutation-sorted item_cmp (map item xs)) ∙ length-map xs item

  pub same_order : (old new : List X) → IsPermutation old new → in_order item new ≡ in_order item old
  same_order old new h = sym (item_order.rearranged (map item old) (map item new) (IsPermutation-map item old new h))

  pub pushed : (x : X) (old new : List X) → IsPermutation (x ∷ old) new → in_order item new
      ≡ put item_cmp (item x) (in_order item old)
  pushed x old new h = same_order (x ∷ old) new h

  pub in_order-all : (P : Item → Type 0) (xs : List X) → AllByRecursion (λ x. P (item x)) xs
      → AllByRecursion P (in_order item xs)
  in_order-all P xs a = all_moved P _ _ (IsPermutation-sorted item_cmp (map item xs)) (map-all item P xs a)

  pub popped_out : (top : X) (old new : List X) → IsPermutation old (top ∷ new) → IsLeastOf item (item top) new
      → IsTakenOut (Some (item top)) (in_order item old) (in_order item new)
  popped_out top old new h a =
      let least = in_order-all (λ y. is_gt (item_cmp (item top) y) ≡ false) new a in
      let same = same_order old (top ∷ new) h in
      let first = put_least item_cmp item_order (item top) (in_order item new) least in
      (grind arith, least)

-- ---- keys and items, by the orders that they derive

pub nodes_after : (k : ℕ) (ns : List (Reverse ℕ)) → AllByRecursion (λ j. is_lt (nat_cmp j.0 k) ≡ false) ns
    → IsLeastOf node_item (node_item (record { 0 = k })) ns
nodes_after k = all_map _ _ (λ n. node_derived n (record { 0 = k }))

pub entries_after : (k : ℕ) (es : List (Reverse ℕ)) → AllByRecursion (λ j. is_lt (nat_cmp j.0 k) ≡ false) es
    → IsLeastOf entry_item (entry_item (record { 0 = k })) es
entries_after k = all_map _ _ (λ e a. entry_derived e (record { 0 = k }) ∙ a)

pub wide_after : (top : Reverse Item) (xs : List (Reverse Item))
    → AllByRecursion (λ y. is_lt (item_ghosts.cmp y.0 top.0) ≡ false) xs → IsLeastOf wide_item (wide_item top) xs
wide_after top = grind (arith, all_map, wide_derived)

pub all_entries : (ns : List (Reverse ℕ)) → AllByRecursion (λ n. IsEntry (entry_item n).place) ns
all_entries = all_each (λ n. IsEntry (entry_item n).place) (λ n. tt)
