-- What opening a node means for the answers to come.
use Rattle.std.proofs.Common.{◌≡◌, ◌<◌, ◌≤◌, ◌+◌, ◌-◌, ◌^◌, ℕ, zero, suc, true, false, List, [], ◌∷◌, ◌++◌, take, refl}
use Rattle.std.proofs.{Common.{arith, add-one}, lemmas.{Bool.{cond_both}, List.{append-nil}}}
use Rattle.rt_geo.specs.{Laws.{Meaning, IsLawful, IsQuestion}, declared.geometry.{Verdict.{Verdict}, Within.{Within}}}
use Rattle.rt_geo.specs.declared.geometry.Within.TheVariants.{Not}
use Rattle.rt_tree.specs.{Packed.{Packed, IsSound, child_nodes, node_at}, Sorting.{put}}
use Rattle.rt_search.specs.{Answers.{Answer, answer_cmp}, Items.{item_at, item_cmp}, Joining.{join_answers, join_nodes}}
use Rattle.rt_search.specs.Remaining.{verdict_on, waiting_node, AllSound, IsOpenable, height_at, put_all, remaining}
use Rattle.rt_search.specs.{Walking.{answers_under}, Work.{info_of_node, is_kept}, declared.item.Item.{Item}}
use Rattle.rt_search.proofs.Answering.{AllSound-put, among, among_none, all_inside, remaining-put, take_more_at}
use Rattle.rt_search.proofs.{Answering.{under_all, under_all-append}, Children.{all_children, child, height_suc}}
use Rattle.rt_search.proofs.{Children.{node_question}, OrderedLists.{put_all-append, put_all-put_all}}
use Rattle.rt_search.proofs.Orders.{answer_order}
use Rattle.rt_search.specs.declared.item.Place.TheVariants as place

pub kept_not : (w : Within) → is_kept w ≡ false → w ≡ Not
kept_not w h = grind arith

pub verdict_kept : (v : Verdict) (k : ℕ) → is_kept v.within ≡ true → verdict_on v.score (waiting_node k v.within) ≡ v
verdict_kept v k h = grind arith

-- ---- the answers under the children of a higher node

module _ {t : Packed} {meaning : Meaning} {number : ℕ} {v : Verdict}
    (opened : IsOpenable t meaning number v) (high : 2 ≤ (node_at t number).level) where
  -- those of the first so many
  abbrev pub answers_upto : ℕ → List Answer
  answers_upto i = under_all meaning t (height_at t number - 1) (take i (child_nodes t (node_at t number)))

  pub upto_more : (i : ℕ) → i < (node_at t number).count
      → answers_upto i ++ answers_under t meaning ((node_at t number).first + i) ≡ answers_upto (i + 1)
  upto_more i lt =
      let m = node_at t ((node_at t number).first + i) in
      let k = child t number opened.tree high i lt in
      rw (take_more_at (child_nodes t (node_at t number)) i m k.place k.is, under_all-append) (grind (arith, append-nil, k.height))

  pub upto_all : answers_upto (node_at t number).count ≡ answers_under t meaning number
  upto_all = grind (arith, under_all, all_children, among, height_suc)

module _ {meaning : Meaning} (law : IsLawful meaning) (t : Packed) where
  -- answers
  pub answers_joined : (answers : List Answer) (xs : List Item) → remaining t meaning (join_answers answers xs)
      ≡ put_all answer_cmp answers (remaining t meaning xs)
  answers_joined [] xs = refl
  answers_joined (a ∷ answers) xs = grind (arith, remaining-put, answers_joined answers xs)

  pub answers_sound : (answers : List Answer) (xs : List Item) → AllSound t meaning xs
      → AllSound t meaning (join_answers answers xs)
  answers_sound [] xs all = all
  answers_sound (a ∷ answers) xs all = grind (arith, AllSound-put, answers_sound answers xs all)

  module _ (sound : IsSound t) (v : Verdict) (small : v.score < 2 ^ 128) where
    -- ---- the children of a higher node

    module _ (number : ℕ) (opened : IsOpenable t meaning number v) (high : 2 ≤ (node_at t number).level) where
      child_question : (i : ℕ) → i < (node_at t number).count
          → IsQuestion meaning.accepts (info_of_node t v (node_at t ((node_at t number).first + i)))
      child_question i lt =
          node_question meaning t sound v small (node_at t number) (height_at t number - 1) i
          ((node_at t number).first + i) opened.low opened.below (child t number opened.tree high i lt)

      pub nodes_upto : (xs : List Item) (i : ℕ) → i ≤ (node_at t number).count
          → remaining t meaning (join_nodes meaning t v (node_at t number) i xs)
          ≡ put_all answer_cmp (answers_upto opened high i) (remaining t meaning xs)
      nodes_upto xs zero le = grind arith
      nodes_upto xs (suc i) le =
          let lt : i < (node_at t number).count = omega arith in
          let m = (node_at t number).first + i in
          let k = child t number opened.tree high i lt in
          let R = remaining t meaning in
          let those = answers_under t meaning m in
          let info = info_of_node t v (node_at t m) in
          let w = (meaning.verdict info).within in
          let ys = join_nodes meaning t v (node_at t number) i xs in
          let x = item_at (meaning.verdict info).score (place.Node (waiting_node m w)) in
          let here = cond_both (is_kept w) (put item_cmp x ys) ys (λ l. R l ≡ put_all answer_cmp those (R ys))
          (λ h. remaining-put meaning t x ys) (λ h.
          let never = law.faithful.pruning info (child_question i lt) k.level (kept_not w h) in
          grind (arith, among_none, all_inside)) in
          let more = rw (add-one i) at (upto_more opened high i lt) in
          grind (arith, put_all-put_all, answer_order, put_all-append, nodes_upto xs i (omega arith))

      pub nodes_sound : (xs : List Item) (i : ℕ) → i ≤ (node_at t number).count → AllSound t meaning xs
          → AllSound t meaning (join_nodes meaning t v (node_at t number) i xs)
      nodes_sound xs zero le a = a
      nodes_sound xs (suc i) le a =
          let lt : i < (node_at t number).count = omega arith in
          let m = (node_at t number).first + i in
          let k = child t number opened.tree high i lt in
          let info = info_of_node t v (node_at t m) in
          let w = meaning.verdict info in
          let asks = child_question i lt in
          let rest = nodes_sound xs i (omega arith) a in
          cond_both (is_kept w.within) _ (join_nodes meaning t v (node_at t number) i xs) (AllSound t meaning)
          (λ h. AllSound-put meaning t (item_at w.score (place.Node (waiting_node m w.within))) _
          (rw (verdict_kept w m h) (record {
            inside = k.number;
            tree = k.tree;
            low = omega (arith, k.lower, opened.low);
            below = record { full = law.faithful.fullness info asks k.level; least = law.admissibility info asks k.level };
          })) rest) (λ h. rest)
