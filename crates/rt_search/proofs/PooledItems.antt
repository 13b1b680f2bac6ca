-- Keys, seen as items in order.
use Rattle.std.proofs.Common.{◌≡◌, ◌≤◌, ℕ, Option, List, [], ◌∷◌, ⊎_elim, sym, ◌∙◌, arith}
use Rattle.std.specs.{Prelude.{MatchOption}, List.{AllByRecursion}, declared.cmp.Reverse.{Reverse}}
use Rattle.rt_tree.specs.Sorting.{put}
use Rattle.rt_search.specs.{Items.{item_cmp}, Kept.{IsFirstScore, in_order}, Pooling.{HasLeastScore, score_in}}
use Rattle.rt_search.specs.declared.item.Item.{Item}
use Rattle.rt_search.proofs.{Elements.{all_map}, Heaps.{in_order-all}, OrderedLists.{put-all, put_cases}}
use Rattle.rt_search.proofs.Orders.{item_order, score_upto}

-- x has the least score
put_first : (s : ℕ) (x : Item) (ys : List Item) → s ≡ x.score → AllByRecursion (λ y. s ≤ y.score) ys
    → IsFirstScore s (put item_cmp x ys)
put_first s x [] e a = (e, tt)
put_first s x (y ∷ ys) e a = grind (arith, put_cases, score_upto, item_order, put-all)

-- it stays the first where x joins, whose score is no lower
first_stays : (s : ℕ) (x : Item) (ys : List Item) → s ≤ x.score → IsFirstScore s ys → IsFirstScore s (put item_cmp x ys)
first_stays s x [] h f = absurd f
first_stays s x (y ∷ ys) h f =
    put_cases item_cmp (IsFirstScore s) x y ys
    (λ t. (f.0, put-all item_cmp item_order (λ z. s ≤ z.score) x ys h f.1))
    (λ t. let up = score_upto x y t in (omega arith, (omega arith, f.1)))

module _ (item : Reverse ℕ → Item) (scored : (k : Reverse ℕ) → score_in k ≡ (item k).score) where
  -- the least score is that of the first item
  pub first_of_least : (s : ℕ) (ks : List (Reverse ℕ)) → HasLeastScore s ks → IsFirstScore s (in_order item ks)
  first_of_least s [] h = absurd h.0
  first_of_least s (k ∷ ks) h =
      let scores = in_order-all item (λ y. s ≤ y.score) ks
      (all_map (λ j. s ≤ score_in j) (λ j. s ≤ (item j).score) (λ j m. omega (arith, scored j)) ks h.1.1) in
      ⊎_elim (λ e. put_first s (item k) (in_order item ks) (sym e ∙ scored k) scores)
      (λ r. first_stays s (item k) (in_order item ks) (omega (arith, h.1.0, scored k)) (first_of_least s ks (r, h.1.1))) h.0

  pub firsts : (r : Option ℕ) (ks : List (Reverse ℕ)) → MatchOption r (ks ≡ []) (λ s. HasLeastScore s ks)
      → MatchOption r (in_order item ks ≡ []) (λ s. IsFirstScore s (in_order item ks))
  firsts r ks h = grind (arith, first_of_least)
