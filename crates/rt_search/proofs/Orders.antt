-- The orders of answers and of items: total, and they tell all apart.
use Rattle.std.proofs.Common.{◌≡◌, ◌≤◌, ℕ, ℤ, false, Ordering, Equal, refl, sym, ◌∙◌, ap, ◌<◌, ◌+◌, ◌*◌, ◌/◌, ◌%◌, ◌^◌}
use Rattle.std.proofs.{Common.{arith, subst}, Math.Nat.{mod-lt}, lemmas.Bool.Decides.{nat_tests}}
use Rattle.std.proofs.lemmas.{Map.Lookups.{CmpEqualImpliesEq, exact_signed, exact_unsigned}, Int.{ints}}
use Rattle.std.proofs.lemmas.{Nat.{div-add-mod'}, Cmp.{int_cmp_total, nat_cmp_total, on_total, then_total}}
use Rattle.std.specs.{Prelude.{nat_lt}, Cmp.{IsTotalOrder}, declared.cmp.Reverse.{Reverse}, Ordering.{bool_cmp}}
use Rattle.std.specs.Ordering.{int_cmp, is_gt, is_lt, nat_cmp, ordering_then}
use Rattle.rt_search.specs.{Answers.{Answer, answer_cmp}, Items.{item_at, item_cmp, node_cmp, place_cmp}}
use Rattle.rt_search.specs.Kept.{IsEntry, IsNode, entry_item, node_item, tail_node, wide_item, zero_item}
use Rattle.rt_search.specs.contracts.item.ItemOrd.TheImpl.{ghosts as item_ghosts, Laws.{total-law}}
use Rattle.rt_search.specs.declared.item.{Item.{Item}, Place.{Place, TheVariants.{Node, Entry}}}
use Rattle.rt_search.proofs.OrderedLists.{IsOrder, order_of}

then_equal : (o p : Ordering) → ordering_then o p ≡ Equal → (o ≡ Equal) × (p ≡ Equal)
then_equal o p h = grind arith

-- ---- answers

pub answer_order : IsOrder answer_cmp
answer_order = order_of answer_cmp
    (then_total (on_total (λ (a : Answer). a.1) nat_cmp_total) (on_total (λ (a : Answer). a.0) int_cmp_total))
    (λ a b h. grind (arith, then_equal, exact_signed, exact_unsigned))

-- ---- items

-- the order that is derived for them is this one, and so this one is total
items_derived : (s r : ℕ) (p q : Place) → item_ghosts.cmp (item_at s p) (item_at r q)
    ≡ item_cmp (item_at s p) (item_at r q)
items_derived s r (Node m) (Node n) = refl
items_derived s r (Node m) (Entry j) = refl
items_derived s r (Entry i) (Node n) = refl
items_derived s r (Entry i) (Entry j) = refl

item_total : IsTotalOrder item_cmp
item_total = subst IsTotalOrder (λ i x y. items_derived x.score y.score x.place y.place i) total-law

place_exact : CmpEqualImpliesEq place_cmp
place_exact (Node m) (Node n) h = grind (arith, then_equal, exact_unsigned)
place_exact (Node m) (Entry j) h = cc
place_exact (Entry i) (Node n) h = cc
place_exact (Entry i) (Entry j) h = ap Entry (exact_signed i j h)

pub item_order : IsOrder item_cmp
item_order = order_of item_cmp item_total (λ x y h. grind (arith, then_equal, exact_unsigned, place_exact))

-- what doesn't come after another scores no higher
pub score_upto : (x y : Item) → is_gt (item_cmp x y) ≡ false → x.score ≤ y.score
score_upto x y h = grind (arith, nat_tests)

-- a node doesn't come after an entry of no lower score
pub node_before : (s r : ℕ) (p q : Place) → IsNode p → IsEntry q → s ≤ r
    → is_gt (item_cmp (item_at s p) (item_at r q)) ≡ false
node_before s r (Node n) (Entry id) p q h = grind (arith, nat_tests)
node_before s r (Node n) (Node m) p q h = absurd q
node_before s r (Entry id) q' p q h = absurd p

-- ---- the derived orders are this one

not_after : (x y : Item) → is_gt (item_cmp x y) ≡ is_lt (item_cmp y x)
not_after x y = sym (item_order.turned x y)

-- what doesn't come first by a word doesn't by its higher half and then whether there is anything in the lower one
by_parts : (h l k m : ℕ) → l < 2 ^ 32 → m < 2 ^ 32 → is_lt (nat_cmp (h * 2 ^ 32 + l) (k * 2 ^ 32 + m)) ≡ false
    → is_lt (ordering_then (nat_cmp h k) (bool_cmp (nat_lt 0 l) (nat_lt 0 m))) ≡ false
by_parts h l k m low small e = grind (arith, nat_tests)

-- what doesn't come first by a key doesn't by its score and then its tail
by_score : (s l r m : ℕ) (o : Ordering) → l < 2 ^ 64 → m < 2 ^ 64 → (is_lt (nat_cmp l m) ≡ false → is_lt o ≡ false)
    → is_lt (nat_cmp (s * 2 ^ 64 + l) (r * 2 ^ 64 + m)) ≡ false → is_lt (ordering_then (nat_cmp s r) o) ≡ false
by_score s l r m o low small f e = grind (arith, nat_tests)

-- where a node doesn't come before another by its key, neither does its item
pub node_derived : (m n : Reverse ℕ) → is_lt (nat_cmp m.0 n.0) ≡ false
    → is_gt (item_cmp (node_item n) (node_item m)) ≡ false
node_derived m n e =
    not_after (node_item n) (node_item m) ∙ by_score (m.0 / 2 ^ 64) (m.0 % 2 ^ 64) (n.0 / 2 ^ 64) (n.0 % 2 ^ 64)
    (node_cmp (tail_node (m.0 % 2 ^ 64)) (tail_node (n.0 % 2 ^ 64))) (mod-lt m.0 (omega arith))
    (mod-lt n.0 (omega arith)) (λ e. let f = m.0 % 2 ^ 64 in let g = n.0 % 2 ^ 64 in
    by_parts (f / 2 ^ 32) (f % 2 ^ 32) (g / 2 ^ 32) (g % 2 ^ 32) (mod-lt f (omega arith))
    (mod-lt g (omega arith)) (rw (div-add-mod' f (2 ^ 32), div-add-mod' g (2 ^ 32)) e))
    (rw (div-add-mod' m.0 (2 ^ 64), div-add-mod' n.0 (2 ^ 64)) e)

-- and an entry, whose tail has how far the id is above the least
pub entry_derived : (d e : Reverse ℕ) → is_gt (item_cmp (entry_item e) (entry_item d)) ≡ is_lt (nat_cmp d.0 e.0)
entry_derived d e = grind (arith, not_after, ints, nat_tests, mod-lt, div-add-mod')

-- and an item as it is
pub wide_derived : (d e : Reverse Item) → is_gt (item_cmp (wide_item e) (wide_item d)) ≡ is_lt (item_ghosts.cmp d.0 e.0)
wide_derived d e = grind (arith, not_after, items_derived)

-- and an entry of score 0, by its id alone
pub zero_derived : (d e : Reverse ℤ) → is_gt (item_cmp (zero_item e) (zero_item d)) ≡ is_lt (int_cmp d.0 e.0)
zero_derived d e = grind (arith, not_after)
