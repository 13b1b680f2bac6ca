-- A walk over a whole tree, from its root.
use Rattle.std.proofs.Common.{◌≡◌, ◌<◌, ◌≤◌, ◌+◌, ◌-◌, ◌^◌, ◌∙◌, ℕ, Bool, None, [], length, sym, ap, arith, rules}
use Rattle.std.proofs.lemmas.{Bool.Decides.{nat_tests}, List.{length-map, Sorted.{length_permutation}}}
use Rattle.rt_geo.specs.{Laws.{Meaning}, declared.geometry.Verdict.{Verdict}}
use Rattle.rt_tree.specs.{Packed.{Packed, IsSound, node_at}, declared.tree.Node.{Node}}
use Rattle.rt_search.specs.{Answers.{accepted, answer_cmp, answers, scored}, Remaining.{IsOpenable, put_all}}
use Rattle.rt_search.specs.{Walking.{answers_in_tree, work_under}, Work.{its_children, one_node, reached_from_root}}
use Rattle.rt_search.specs.Work.{root_verdict}
use Rattle.rt_search.proofs.{Answering.{among-IsPermutation}, OrderedLists.{length-put_all}}
use Rattle.rt_search.proofs.{OrderedLists.{put_all-nil}, Orders.{answer_order}, Sizes.{count_is_fair, one_is_fair}}
use Rattle.rt_search.proofs.{Sizes.{size_under, work_le}, Starting.{empty_answers, nat_eq_false}}

module _ (meaning : Meaning) (t : Packed) (sound : IsSound t)
  where
    -- ---- the answers of a whole tree

    -- in order they are those of a scan
    pub tree_answers : put_all answer_cmp (answers_in_tree t meaning) [] ≡ answers t.entries meaning None
    tree_answers = search (rules, empty_answers, put_all-nil, answer_order, among-IsPermutation, nat_eq_false)

    -- and as many
    pub tree_count : length (answers_in_tree t meaning) ≡ length (accepted t.entries meaning)
    tree_count =
        let all = ap length (tree_answers ∙ sym (put_all-nil answer_cmp answer_order (scored t.entries meaning))) in
        grind (arith, length-put_all, answer_order, length-map)

    -- ---- from the root

    -- what holds of the node that a walk begins with
    pub record IsWhole (opens : Verdict → Bool) (number : ℕ) : Type 0 where
      pub node : IsOpenable t meaning number root_verdict
      pub few : (node_at t number).size ≤ length t.entries
      pub opened_few : work_under opens one_node meaning t root_verdict number ≤ 2 ^ 32
      pub asked_few : work_under opens its_children meaning t root_verdict number ≤ 2 ^ 32

    whole_work : (opens : Verdict → Bool) (cost : Node → ℕ) → 0 < length t.nodes
        → work_under opens cost meaning t root_verdict (length t.nodes - 1) ≡ reached_from_root opens cost meaning t
    whole_work opens cost some = grind (arith, nat_tests)

    pub whole : (opens : Verdict → Bool) (number : ℕ) → number + 1 ≡ length t.nodes → IsWhole opens number
    whole opens number is = search (rules, length_permutation, size_under, whole_work, work_le, one_is_fair, count_is_fair)
