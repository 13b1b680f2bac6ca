-- A search goes on: an entry is taken out, or a node is opened.
use Rattle.std.proofs.Common.{false, List, [], ◌∷◌, Option, Some, None, refl, ◌∙◌, ap, subst, arith, ◌≡◌, ◌<◌, ◌≤◌, ◌+◌}
use Rattle.std.proofs.{Common.{◌==◌, ◌^◌, ℕ, ℤ, true}, lemmas.Bool.{cond-true, cond_both, eqb-false, eqb-true, le-leb}}
use Rattle.std.proofs.lemmas.Bool.Decides.{nat_tests}
use Rattle.std.specs.{List.{AllByRecursion}, Option.{option_map_or}, Ordering.{is_gt}, Prelude.{nat_le}}
use Rattle.rt_geo.specs.Laws.{Meaning, IsLawful}
use Rattle.rt_tree.specs.{Packed.{Packed, node_at}, declared.tree.Node.{Node}}
use Rattle.rt_search.specs.{Answers.{answer_cmp}, Items.{item_at, item_cmp}, Joining.{join_answers, join_nodes}}
use Rattle.rt_search.specs.Progress.{AddsUp, IsNodeStep, IsOnCourse, IsTaken, held, join_children, work_left}
use Rattle.rt_search.specs.Remaining.{AllSound, answers_at, height_at, put_all, remaining, verdict_on}
use Rattle.rt_search.specs.Walking.{answers_among, answers_under, work_under}
use Rattle.rt_search.specs.Work.{reached, is_reached, its_children, one_node}
use Rattle.rt_search.specs.{Work.{reached_from_root}, declared.item.{Item.{Item}, WaitingNode.{WaitingNode}}}
use Rattle.rt_search.proofs.{Answering.{at_above, take_entry}, Children.{leaf_node, subtree_level}, Elements.{all_both}}
use Rattle.rt_search.proofs.{Elements.{all_map}, Joined.{answers_joined, answers_sound, nodes_sound, nodes_upto}}
use Rattle.rt_search.proofs.{Joined.{upto_all}, OrderedLists.{put_all-all}, Orders.{answer_order, score_upto}}
use Rattle.rt_search.proofs.{Sizes.{held_cons, work_cons}, Walks.{answers_all, few_under}, Working.{held-join_answers}}
use Rattle.rt_search.proofs.Working.{held-join_nodes, work-join_answers, work-join_nodes}
use Rattle.rt_search.specs.declared.item.Place.TheVariants as place

-- ---- what is opened

-- a node that waits is opened where its score is within the bound
pub reached_is : (bound : Option ℕ) (s : ℕ) (n : WaitingNode) → is_reached bound (verdict_on s n)
    ≡ option_map_or (nat_le s) bound true
reached_is bound s n = grind arith

module _ {meaning : Meaning} (law : IsLawful meaning) (t : Packed) where
  -- no answer to come is below the least item's score
  above_least : (x : Item) (xs : List Item) → AllByRecursion (λ y. is_gt (item_cmp x y) ≡ false) xs
      → AllSound t meaning xs → AllByRecursion (λ q. x.score ≤ q.1) (remaining t meaning xs)
  above_least x [] a b = tt
  above_least x (y ∷ ys) a b =
      grind (arith, put_all-all, answer_order, all_map, score_upto, at_above, above_least x ys a.1 b.1)

  -- behind an entry that is least, no node is within its score
  no_work : (cost : Node → ℕ) (i : ℤ) (s : ℕ) (xs : List Item)
      → AllByRecursion (λ y. is_gt (item_cmp (item_at s (place.Entry i)) y) ≡ false) xs
      → work_left (is_reached (Some s)) cost meaning t xs ≡ 0
  no_work cost i s [] a = refl
  no_work cost i s (y ∷ ys) a = grind (arith, nat_tests, work_cons, no_work cost i s ys a.1)

  -- ---- an entry is taken out

  pub entry_course : (cost : Node → ℕ) (i : ℤ) (s : ℕ) (done : ℕ) (xs : List Item)
      → AllByRecursion (λ y. is_gt (item_cmp (item_at s (place.Entry i)) y) ≡ false) xs → AllSound t meaning xs
      → IsOnCourse meaning cost t done (item_at s (place.Entry i) ∷ xs)
      → IsOnCourse meaning cost t done xs × (done ≡ reached_from_root (is_reached (Some s)) cost meaning t)
  entry_course cost i s done xs least sound course =
      let x = item_at s (place.Entry i) in
      let next = take_entry meaning t i s xs least sound in
      let each = subst (AllByRecursion (λ p. AddsUp meaning cost t done (x ∷ xs) (Some p.1))) next course.at_each in
      let none = no_work cost i s xs least in
      grind (arith, work_cons, all_map, each.0, each.1)

  -- ---- a node is opened, at a cost: what is known of `new` comes from what joined

  node_step : {opened asked s : ℕ} {n : WaitingNode} {xs : List Item} (new : List Item) (by : (Node → ℕ) → ℕ)
      → IsTaken meaning t opened asked (item_at s (place.Node n)) xs
      → remaining t meaning new ≡ remaining t meaning (item_at s (place.Node n) ∷ xs)
      → AllSound t meaning new → held t new ≤ held t xs + (node_at t n.number.number).size
      → ((cost : Node → ℕ) (bound : Option ℕ)
      → work_left (is_reached bound) cost meaning t new + by cost
      ≡ work_left (is_reached bound) cost meaning t xs + reached (is_reached bound) cost meaning t
      (height_at t n.number.number) (verdict_on s n) (node_at t n.number.number))
      → IsNodeStep meaning t (opened + by one_node) (asked + by its_children) s n xs new
  node_step {opened} {asked} {s} {n} {xs} new by k same sound size moves =
      let x = item_at s (place.Node n) in
      let node = node_at t n.number.number in
      let v = verdict_on s n in
      let adds : (cost : Node → ℕ) (done : ℕ) (b : Option ℕ) → is_reached b v ≡ true
      → AddsUp meaning cost t done (x ∷ xs) b → AddsUp meaning cost t (done + by cost) new b =
      λ cost done b opens h.
      let all = cond-true (is_reached b v) (reached (is_reached b) cost meaning t (height_at t n.number.number) v node) 0 opens in
      omega (arith, work_cons (is_reached b) cost meaning t x xs, moves cost b) in
      let low = put_all-all answer_cmp answer_order (λ p. s ≤ p.1) (answers_at t meaning s (place.Node n)) _
      (at_above meaning t s (place.Node n) k.state.sound.0) (above_least x xs k.least k.state.sound.1) in
      let course : (cost : Node → ℕ) (done : ℕ) → IsOnCourse meaning cost t done (x ∷ xs)
      → IsOnCourse meaning cost t (done + by cost) new =
      λ cost done c. record {
        in_all = adds cost done None (reached_is None s n) c.in_all;
        at_each = rw same (all_both (λ p. AddsUp meaning cost t done (x ∷ xs) (Some p.1)) (λ p. s ≤ p.1)
            (λ p. AddsUp meaning cost t (done + by cost) new (Some p.1))
            (λ p h le. adds cost done (Some p.1) (reached_is (Some p.1) s n ∙ le-leb s p.1 le) h) _ c.at_each low);
      } in
      record {
        state = record {
          tree = k.state.tree;
          sound = sound;
          space = omega (arith, held_cons meaning t x xs, k.state.space);
          opening = course one_node opened k.state.opening;
          asking = course its_children asked k.state.asking;
        };
        same = same;
      }

  pub children_step : {opened asked s : ℕ} {n : WaitingNode} {xs : List Item} → s < 2 ^ 128
      → IsTaken meaning t opened asked (item_at s (place.Node n)) xs
      → IsNodeStep meaning t (opened + 1) (asked + (node_at t n.number.number).count) s n xs
      (join_children meaning t s n xs)
  children_step {opened} {asked} {s} {n} {xs} small k =
      let number = n.number.number in
      let node = node_at t number in
      let v = verdict_on s n in
      let here = k.state.sound.0 in
      let found = answers_among t meaning node node.count in
      let level = subtree_level t (height_at t number) node here.tree in
      cond_both (node.level == 1) (join_answers found xs) (join_nodes meaning t v node node.count xs)
      (IsNodeStep meaning t (opened + 1) (asked + node.count) s n xs)
      (λ e. let low = eqb-true node.level 1 e in
      let flat = (leaf_node t (height_at t number) node here.tree low).0 in
      let all = answers_all meaning t number here.tree low in
      node_step _ (λ cost. cost node) k (grind (arith, answers_joined)) (answers_sound law t found xs k.state.sound.1)
      (grind (arith, held-join_answers meaning t v, few_under)) (λ cost bound. grind (arith, work-join_answers meaning t v)))
      (λ e. let other = eqb-false node.level 1 e in
      let high : 2 ≤ node.level = omega arith in
      node_step _ (λ cost. cost node) k
      (nodes_upto law t k.state.tree v small number here high xs node.count (omega arith)
      ∙ ap (λ l. put_all answer_cmp l (remaining t meaning xs)) (upto_all here high))
      (nodes_sound law t k.state.tree v small number here high xs node.count (omega arith) k.state.sound.1)
      (held-join_nodes meaning t v number here.tree high xs)
      (λ cost bound. work-join_nodes meaning t v number here.tree high (is_reached bound) (λ v h. rw h refl) cost xs))

  -- all under it is opened at once: a bound opens what none does
  pub walk_step : {opened asked s : ℕ} {n : WaitingNode} {xs : List Item}
      → IsTaken meaning t opened asked (item_at s (place.Node n)) xs
      → ((cost : Node → ℕ) (bound : Option ℕ) → reached (is_reached bound) cost meaning t (height_at t n.number.number)
      (verdict_on s n) (node_at t n.number.number) ≡ work_under (is_reached None) cost meaning t (verdict_on s n)
      n.number.number)
      → IsNodeStep meaning t (opened + work_under (is_reached None) one_node meaning t (verdict_on s n) n.number.number)
      (asked + work_under (is_reached None) its_children meaning t (verdict_on s n) n.number.number) s n xs
      (join_answers (answers_under t meaning n.number.number) xs)
  walk_step {opened} {asked} {s} {n} {xs} k alike =
      let number = n.number.number in
      let v = verdict_on s n in
      let found = answers_under t meaning number in
      node_step _ (λ cost. work_under (is_reached None) cost meaning t v number) k (answers_joined law t found xs)
      (answers_sound law t found xs k.state.sound.1)
      (omega (arith, held-join_answers meaning t v found xs, few_under meaning t number k.state.sound.0.tree))
      (λ cost bound. omega (arith, work-join_answers meaning t v (is_reached bound) cost found xs, alike cost bound))
