-- Two lists in order, seen as one.
use Rattle.std.proofs.Common.{◌≡◌, ◌<◌, ◌≤◌, ◌+◌, ℕ, ℤ, true, false, Option, Some, None, List, [], ◌∷◌, length, refl}
use Rattle.std.proofs.Common.{sym, ◌∙◌, ap, arith, Ordering}
use Rattle.std.specs.{Prelude.{MatchOption}, List.{AllByRecursion}, declared.cmp.Reverse.{Reverse}, Ordering.{is_gt}}
use Rattle.rt_tree.specs.Sorting.{put}
use Rattle.rt_search.specs.{Items.{item_cmp}, Kept.{queued, IsAhead, IsEntry, IsFirstScore, IsLeast, IsNode}}
use Rattle.rt_search.specs.{Kept.{IsTakenOut, hits_in}, Remaining.{put_all}, declared.item.Item.{Item}}
use Rattle.rt_search.proofs.{Heaps.{length-in_order}, Orders.{item_order, node_before}, Elements.{all_both, all_map}}
use Rattle.rt_search.proofs.OrderedLists.{put_all-put, put_least, IsOrder, length-put_all, put-put, put_all-all}

-- x joins the left list, or the whole
pub put-put_all : {X : Type 0} (cmp : X → X → Ordering) (o : IsOrder cmp) (x : X) (xs zs : List X)
    → put_all cmp (put cmp x xs) zs ≡ put cmp x (put_all cmp xs zs)
put-put_all cmp o x [] zs = refl
put-put_all cmp o x (y ∷ xs) zs = grind (arith, put-put, put-put_all cmp o x xs zs)

pub length-queued : (nodes : List (Reverse ℕ)) (entries wide : List Item) → length (queued nodes entries wide)
    ≡ length nodes + length entries + length wide
length-queued nodes entries wide = grind (arith, length-put_all, item_order, length-in_order)

pub length-hits : (ids : List (Reverse ℤ)) (keys : List (Reverse ℕ)) (wide : List Item) → length (hits_in ids keys wide)
    ≡ length ids + length keys + length wide
length-hits ids keys wide = grind (arith, length-put_all, item_order, length-in_order)

-- ---- what a call that takes from one of the lists takes from both

pub taken_left : (r : Option Item) (old xs ys : List Item) → IsTakenOut r old xs → IsAhead old ys
    → IsTakenOut r (put_all item_cmp old ys) (put_all item_cmp xs ys)
taken_left r old xs ys t h = grind (arith, put_least, item_order, put_all-all)

pub taken_right : (r : Option Item) (xs old ys : List Item) → IsTakenOut r old ys → IsAhead old xs
    → IsTakenOut r (put_all item_cmp xs old) (put_all item_cmp xs ys)
taken_right None xs old ys t h = grind arith
taken_right (Some x) xs old ys t h =
    let least : IsLeast x (put_all item_cmp xs ys) = grind (arith, put_all-all, item_order) in (
      ap (put_all item_cmp xs) (t.0 ∙ sym (put_least item_cmp item_order x ys t.1))
          ∙ put_all-put item_cmp item_order xs x ys ∙ put_least item_cmp item_order x (put_all item_cmp xs ys) least,
      least,
    )

-- no more are left than there were
pub fewer : (r : Option Item) (old new : List Item) → IsTakenOut r old new → length new ≤ length old
fewer r old new t = grind arith

-- where nothing was taken there was nothing
pub none_taken : (r : Option Item) (old new : List Item) → MatchOption r (false ≡ false) (λ _. false ≡ true)
    → IsTakenOut r old new → (old ≡ []) × (new ≡ [])
none_taken r old new none t = grind arith

-- what holds of each holds of those left
pub left-all : (P : Item → Type 0) (r : Option Item) (old new : List Item) → IsTakenOut r old new
    → AllByRecursion P old → AllByRecursion P new
left-all P r old new t a = grind arith

-- ---- which list is ahead

-- what comes after none of what another comes after none of
pub all_after : (x y : Item) (ys : List Item) → is_gt (item_cmp x y) ≡ false → IsLeast y ys → IsLeast x ys
all_after x y ys h = grind (arith, all_map, item_order)

all_scores : (s : ℕ) (xs : List Item) → IsFirstScore s xs → AllByRecursion (λ y. s ≤ y.score) xs
all_scores s xs h = grind arith

pub lower_least : (x : Item) (ys : List Item) (r : ℕ) → x.score < r → AllByRecursion (λ y. r ≤ y.score) ys → IsLeast x ys
lower_least x ys r h = grind (arith, all_map)

-- nodes before entries of no lower score
pub nodes_ahead : (s r : ℕ) (xs ys : List Item) → IsFirstScore s xs → IsFirstScore r ys
    → AllByRecursion (λ x. IsNode x.place) xs → AllByRecursion (λ y. IsEntry y.place) ys → s ≤ r → IsAhead xs ys
nodes_ahead s r xs ys f g p q h = grind (arith, all_both, node_before, all_scores)

-- entries before nodes of higher scores
pub entries_ahead : (s r : ℕ) (xs ys : List Item) → IsFirstScore s xs → IsFirstScore r ys → r < s → IsAhead ys xs
entries_ahead s r xs [] f g h = absurd g
entries_ahead s r xs (y ∷ ys) f g h = lower_least y xs s (omega arith) (all_scores s xs f)
