-- A search begins, and gives its answers one after the other.
use Rattle.std.proofs.Common.{◌≡◌, ◌<◌, ◌≤◌, ℕ, true, false, ◌==◌, List, [], ◌∷◌, length, Option, Some, None}
use Rattle.std.proofs.{Common.{refl, sym, subst, arith, rules}, lemmas.Bool.{cases_lt, cond_both, eqb-true}}
use Rattle.std.proofs.lemmas.{Bool.Decides.{nat_tests}, List.{nil_from_length, Sorted.{length_permutation}}}
use Rattle.std.proofs.lemmas.List.Sums.{sum_by-cons}
use Rattle.std.specs.{Option.{option_map_or}, Prelude.{IfSome, nat_le}}
use Rattle.rt_geo.specs.{Laws.{Meaning}}
use Rattle.rt_tree.specs.{Packed.{Packed, IsSound}, declared.tree.Node.{Node}}
use Rattle.rt_search.specs.{Answers.{answers}, Joining.{root_item, root_items}, Limits.{IsEnough}, Progress.{IsGiving}}
use Rattle.rt_search.specs.{Progress.{IsOnCourse, IsSearching}}
use Rattle.rt_search.specs.{Work.{HasWorked, its_children, one_node}, declared.item.Item.{Item}}
use Rattle.rt_search.proofs.{Answering.{among-IsPermutation}, Elements.{all_each}, OrderedLists.{put_all-nil}}
use Rattle.rt_search.proofs.{Orders.{answer_order}, Sizes.{size_under}}

pub within_zero : (bound : Option ℕ) → option_map_or (nat_le 0) bound true ≡ true
within_zero bound = grind (arith, nat_tests)

-- ---- the root, which waits

pub nat_eq_false : {n : ℕ} → (n == 0) ≡ false → 0 < n
nat_eq_false h = grind (arith, nat_tests)

module _ (meaning : Meaning) (t : Packed) (sound : IsSound t)
  where
    root_course : (cost : Node → ℕ) → 0 < length t.nodes → IsOnCourse meaning cost t 0 (root_item t ∷ [])
    root_course cost some = search (rules, all_each, within_zero, sum_by-cons, nat_tests)

    pub empty_answers : length t.nodes ≡ 0 → answers t.entries meaning None ≡ []
    empty_answers none = grind (arith, cases_lt, nil_from_length)

    -- a search has begun
    pub started : (limit : Option ℕ) (capacity : ℕ) (needed : Option ℕ) (items : List Item)
        → length t.entries ≤ capacity → IfSome needed (λ n. limit ≡ Some n) → IsEnough needed items (root_items t)
        → IsGiving meaning t limit 0 0 0 capacity needed items
    started limit capacity needed items space first enough = record {
      state = record {
        all = root_items t;
        state =
            cond_both (length t.nodes == 0) [] (root_item t ∷ []) (IsSearching meaning t 0 0)
            (λ h. grind arith) (λ h. let some = nat_eq_false h in record {
              tree = sound;
              sound = grind arith;
              space = grind (arith, length_permutation, sum_by-cons, size_under);
              opening = root_course one_node some;
              asking = root_course its_children some;
            });
        rising = grind arith;
        follows = grind (arith, empty_answers, eqb-true, nat_eq_false, put_all-nil, answer_order, among-IsPermutation);
        enough = enough;
      };
      space = space;
      in_limit = grind arith;
      still = grind arith;
      stopped = λ e. subst (λ l. HasWorked meaning t l 0 0) (sym e) (record { in_nodes = refl; in_checks = refl });
    }
