-- What takes answers fills at most a place with each.
use Rattle.std.proofs.Common.{◌≡◌, ◌+◌, ◌-◌, ◌∷◌, [], true, false, cond, if◌then◌else◌, List, length, refl, ap, arith}
use Rattle.std.specs.Ordering.{is_gt}
use Rattle.rt_tree.specs.Sorting.{put}
use Rattle.rt_search.specs.Items.{item_cmp, item_of}
use Rattle.rt_search.specs.Limits.{IsPut}
use Rattle.rt_search.specs.Joining.{KeepsHit}
use Rattle.rt_search.specs.Walking.{IsFilling}
use Rattle.rt_search.specs.declared.item.Item.{Item}

one_longer : (x : Item) (xs : List Item) → length (put item_cmp x xs) ≡ length xs + 1
one_longer x [] = refl
one_longer x (y ∷ ys) =
    elim (is_gt (item_cmp x y)) as (λ b. length (cond b (y ∷ put item_cmp x ys) (x ∷ y ∷ ys)) ≡ length (y ∷ ys) + 1) [
      | true ↦ omega (arith, one_longer x ys)
      | false ↦ omega arith
    ]

pub hits-fill : IsFilling KeepsHit (λ h. if h.is_sorted then 0 else h.capacity - length h.items)
hits-fill old new a h =
    let long = ap length h.items in
    let sorted = h.sorted in
    let same = h.capacity in
    grind (arith, long, same, one_longer (item_of a) old.items)

pub entries-fill : IsFilling (λ old a new. IsPut (item_of a) old new) (λ q. q.capacity - length q.items)
entries-fill old new a h =
    let few = h.items.few in
    let same = h.capacity in
    omega (arith, few, same, one_longer (item_of a) old.items)
