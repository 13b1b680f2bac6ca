-- What opening a node means for the work to come and for the capacity that is used.
use Rattle.std.proofs.Common.{◌≡◌, ◌<◌, ◌≤◌, ◌+◌, ◌-◌, ℕ, zero, suc, Bool, false, cond, List, [], ◌∷◌, length, take}
use Rattle.std.proofs.{Common.{refl, ◌∙◌, ap, arith, add-one}, lemmas.List.Sums.{sum_by-append}}
use Rattle.std.specs.List.{sum_by}
use Rattle.rt_geo.specs.{Laws.{Meaning}, declared.geometry.Verdict.{Verdict}}
use Rattle.rt_tree.specs.{Packed.{Packed, IsSubtree, child_nodes, node_at}, Sorting.{put}, declared.tree.Node.{Node}}
use Rattle.rt_search.specs.{Answers.{Answer}, Items.{item_at, item_cmp}, Joining.{join_answers, join_nodes}}
use Rattle.rt_search.specs.{Progress.{held, work_at, work_left}, Remaining.{height_at, waiting_node}}
use Rattle.rt_search.specs.{Walking.{work_of_child}, Work.{info_of_node, is_kept, reached}, declared.item.Item.{Item}}
use Rattle.rt_search.proofs.{Answering.{take_more_at}, Children.{all_children, child, height_suc, inner_at}}
use Rattle.rt_search.proofs.{Joined.{verdict_kept}, OrderedLists.{length-put, sum_by-put}, Orders.{item_order}}
use Rattle.rt_search.specs.declared.item.Place.TheVariants as place

-- an item that joins where a test holds, in a sum and in the length
joined_adds : (f : Item → ℕ) (b : Bool) (x : Item) (xs : List Item) → sum_by f (cond b (put item_cmp x xs) xs)
    ≡ cond b (f x) 0 + sum_by f xs
joined_adds f b x xs = grind (arith, sum_by-put, item_order)

module _ (meaning : Meaning) (t : Packed) (v : Verdict) where
  pub held-join_answers : (answers : List Answer) (xs : List Item)
      → held t (join_answers answers xs) ≡ held t xs + length answers
  held-join_answers [] xs = omega arith
  held-join_answers (a ∷ answers) xs = grind (arith, sum_by-put, item_order, held-join_answers answers xs)

  pub work-join_answers : (opens : Verdict → Bool) (cost : Node → ℕ) (answers : List Answer) (xs : List Item)
      → work_left opens cost meaning t (join_answers answers xs) ≡ work_left opens cost meaning t xs
  work-join_answers opens cost [] xs = refl
  work-join_answers opens cost (a ∷ answers) xs =
      grind (arith, sum_by-put, item_order, work-join_answers opens cost answers xs)

  abbrev waiting : Verdict → ℕ → Item
  waiting w m = item_at w.score (place.Node (waiting_node m w.within))

  pub length-join_nodes : (n : Node) (i : ℕ) (xs : List Item) → length (join_nodes meaning t v n i xs) ≤ length xs + i
  length-join_nodes n zero xs = omega arith
  length-join_nodes n (suc i) xs = grind (arith, length-put, item_order, length-join_nodes n i xs)

  module _ (number : ℕ) (tree : IsSubtree t (height_at t number) (node_at t number))
      (high : 2 ≤ (node_at t number).level) where
    pub sum_more : (f : Node → ℕ) (i : ℕ) → i < (node_at t number).count
        → sum_by f (take (suc i) (child_nodes t (node_at t number)))
        ≡ sum_by f (take i (child_nodes t (node_at t number))) + f (node_at t ((node_at t number).first + i))
    sum_more f i lt =
        let k = child t number tree high i lt in
        let m = node_at t ((node_at t number).first + i) in
        rw (← add-one i) (ap (sum_by f) (take_more_at (child_nodes t (node_at t number)) i m k.place k.is)
        ∙ sum_by-append f (take i (child_nodes t (node_at t number))) (m ∷ [])
        ∙ ap (λ z. sum_by f (take i (child_nodes t (node_at t number))) + z) (omega arith))

    held_upto : (xs : List Item) (i : ℕ) → i ≤ (node_at t number).count
        → held t (join_nodes meaning t v (node_at t number) i xs) ≤ held t xs + sum_by (λ k. k.size)
        (take i (child_nodes t (node_at t number)))
    held_upto xs zero le = omega arith
    held_upto xs (suc i) le = grind (arith, sum_by-put, item_order, sum_more, held_upto xs i (omega arith))

    pub held-join_nodes : (xs : List Item)
        → held t (join_nodes meaning t v (node_at t number) (node_at t number).count xs) ≤ held t xs +
        (node_at t number).size
    held-join_nodes xs = grind (arith, all_children, held_upto, inner_at)

    module _ (opens : Verdict → Bool) (closed : (v : Verdict) → is_kept v.within ≡ false → opens v ≡ false) (cost : Node → ℕ) where
      -- what a child brings to the work
      abbrev brings : ℕ → Node → ℕ
      brings = work_of_child opens cost meaning t v

      brought : (m : ℕ) → let w = meaning.verdict (info_of_node t v (node_at t m)) in
          cond (is_kept w.within) (work_at opens cost meaning t w.score (place.Node (waiting_node m w.within))) 0
          ≡ brings (height_at t m) (node_at t m)
      brought m = grind (arith, verdict_kept)

      work_upto : (xs : List Item) (i : ℕ) → i ≤ (node_at t number).count
          → work_left opens cost meaning t (join_nodes meaning t v (node_at t number) i xs)
          ≡ work_left opens cost meaning t xs + sum_by (brings (height_at t number - 1))
          (take i (child_nodes t (node_at t number)))
      work_upto xs zero le = omega arith
      work_upto xs (suc i) le = grind (arith, child, joined_adds, brought, sum_more, work_upto xs i (omega arith))

      pub work-join_nodes : (xs : List Item) → work_left opens cost meaning t
          (join_nodes meaning t v (node_at t number) (node_at t number).count xs) + cost (node_at t number)
          ≡ work_left opens cost meaning t xs + reached opens cost meaning t (height_at t number) v (node_at t number)
      work-join_nodes xs = grind (arith, all_children, height_suc, work_upto)
