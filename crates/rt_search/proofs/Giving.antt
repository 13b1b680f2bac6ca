-- A search gives its answers one after the other, up to its limit.
use Rattle.std.proofs.Common.{◌≡◌, ◌≢◌, ◌<◌, ◌≤◌, ◌+◌, ◌^◌, ℕ, zero, suc, Bool, false, List, [], ◌∷◌, length, take, drop}
use Rattle.std.proofs.Common.{Option, Some, None, refl, sym, ◌∙◌, ap, arith, rules, add-one}
use Rattle.std.proofs.lemmas.List.{drop_all, length-drop, length-map, length-take}
use Rattle.std.proofs.lemmas.Option.{slice_get_past}
use Rattle.std.proofs.lemmas.List.{Sums.{count_by-le-length, length-filter}}
use Rattle.std.proofs.lemmas.List.Sorted.{length_permutation}
use Rattle.std.specs.Prelude.{IfSome, slice_get}
use Rattle.rt_geo.specs.Laws.{Meaning}
use Rattle.rt_geo.specs.{declared.{entry.Entry.{Entry}}}
use Rattle.rt_tree.specs.{Packed.{IsSound, Packed}, Sorting.{limited}, declared.tree.Node.{Node}}
use Rattle.rt_tree.proofs.SortingLemmas.{IsPermutation-sorted}
use Rattle.rt_search.specs.{Answers.{Answer, answer_cmp, answers, scored}, Items.{Gathered, Limited}, Limits.{one_less}}
use Rattle.rt_search.specs.Progress.{HasEnded, IsFound, IsGiven, IsGiving, IsGoing, IsInLimit, IsOver}
use Rattle.rt_search.specs.Work.{HasWorked, is_reached, search_work, reached_from_root}

-- ---- lists that are given one by one

pub drop_step : {X : Type 0} (xs : List X) (g : ℕ) (x : X) (rest : List X) → drop g xs ≡ x ∷ rest
    → (slice_get xs g ≡ Some x) × (drop (suc g) xs ≡ rest)
drop_step [] zero x rest h = cc
drop_step [] (suc g) x rest h = cc
drop_step (y ∷ xs) zero x rest h = (cc, cc)
drop_step (y ∷ xs) (suc g) x rest h = drop_step xs g x rest h

take_step : {X : Type 0} (k g : ℕ) (xs : List X) (x : X) (rest : List X) → g < k → drop g xs ≡ x ∷ rest
    → drop g (take k xs) ≡ x ∷ drop (suc g) (take k xs)
take_step zero g xs x rest lt h = absurd (omega arith)
take_step (suc k) zero xs x rest lt h = grind arith
take_step (suc k) (suc g) [] x rest lt h = cc
take_step (suc k) (suc g) (y ∷ xs) x rest lt h = take_step k g xs x rest (omega arith) h

past_end : {X : Type 0} (xs : List X) (g k : ℕ) → drop g xs ≡ [] → g ≤ k → slice_get xs k ≡ None
past_end xs g k h le = slice_get_past xs k (omega (arith, length-drop g xs, ap length h))

limited_step : {X : Type 0} (limit : Option ℕ) (g : ℕ) (xs : List X) (x : X) (rest : List X) → IsInLimit limit g
    → limit ≢ Some g → drop g xs ≡ x ∷ rest → drop g (limited limit xs) ≡ x ∷ drop (suc g) (limited limit xs)
limited_step None g xs x rest le n h = h ∙ ap (λ l. x ∷ l) (sym (drop_step xs g x rest h).1)
limited_step (Some k) g xs x rest le n h = search (rules, take_step)

limited_end : {X : Type 0} (limit : Option ℕ) (g : ℕ) (xs : List X) → drop g xs ≡ [] → drop g (limited limit xs) ≡ []
limited_end None g xs h = h
limited_end (Some k) g xs h = drop_all g (take k xs) (omega (arith, length-take k xs, length-drop g xs, ap length h))

pub next_in_limit : (limit : Option ℕ) (g : ℕ) → IsInLimit limit g → limit ≢ Some g → IsInLimit limit (suc g)
next_in_limit limit g le n = grind arith

-- ---- how many are still needed

next_still : (needed limit : Option ℕ) (g : ℕ) → limit ≢ Some g → IfSome needed (λ n. limit ≡ Some (g + n))
    → IfSome (one_less needed) (λ n. limit ≡ Some (suc g + n))
next_still None limit g more h = tt
next_still (Some zero) limit g more h = absurd (more (h ∙ ap Some (omega arith)))
next_still (Some (suc n)) limit g more h = h ∙ ap Some (omega arith)

module _ (meaning : Meaning) where
  pub length-scored : (es : List Entry) → length (scored es meaning) ≤ length es
  length-scored es = search (rules, length-map, length-filter, count_by-le-length)

module _ (meaning : Meaning) (t : Packed) where
  abbrev all : List Answer
  all = answers t.entries meaning None

  -- ---- the work after so many answers

  work_after : (cost : Node → ℕ) (g : ℕ) (a : Answer) (rest : List Answer) → drop g all ≡ a ∷ rest
      → reached_from_root (is_reached (Some a.1)) cost meaning t ≡ search_work cost meaning t (Some (suc g))
  work_after cost g a rest h = search (rules, drop_step)

  work_in_all : (cost : Node → ℕ) (limit : Option ℕ) (g : ℕ) → IsInLimit limit g → limit ≢ Some g → drop g all ≡ []
      → reached_from_root (is_reached None) cost meaning t ≡ search_work cost meaning t limit
  work_in_all cost None g le n h = refl
  work_in_all cost (Some zero) g le n h = grind arith
  work_in_all cost (Some (suc k)) g le n h = search (rules, past_end)

-- ---- the steps

limited_le : {X : Type 0} (limit : Option ℕ) (xs : List X) → length (limited limit xs) ≤ length xs
limited_le None xs = omega arith
limited_le (Some k) xs = omega (arith, length-take k xs)

-- while an answer is to come, few were given
pub few_given : (meaning : Meaning) (t : Packed) → IsSound t → (limit : Option ℕ) (given : ℕ) (a : Answer)
    (rest : List Answer) → drop given (answers t.entries meaning limit) ≡ a ∷ rest → given + 1 ≤ 2 ^ 32
few_given meaning t sound limit given a rest first =
    omega (
      arith,
      sound.table.few,
      ap length first,
      length-drop given (answers t.entries meaning limit),
      limited_le limit (answers t.entries meaning None),
      length_permutation _ _ (IsPermutation-sorted answer_cmp (scored t.entries meaning)),
      length-scored meaning t.entries,
    )

module _ {gathers : Bool} {meaning : Meaning} {t : Packed} {limit : Option ℕ} {given opened asked : ℕ}
    {old_queue : Limited} {old_hits : Gathered} (going : IsGoing gathers meaning t limit given opened asked old_queue old_hits)
    (more : limit ≢ Some given) {opened' asked' : ℕ} {queue : Limited} {hits : Gathered} where
  -- ---- with a queue

  module _ (queued : gathers ≡ false) (same : hits.capacity ≡ queue.capacity)
      (space : queue.capacity ≡ old_queue.capacity) where
    pub give : {a : Answer} → queue.needed ≡ one_less old_queue.needed → IsFound meaning t opened' asked' queue.needed
        (drop given (answers t.entries meaning None)) a queue.items
        → IsGiven gathers meaning t limit given opened' asked' a queue hits
    give {a} less found =
        let was = going.giving queued in
        let worked : HasWorked meaning t (Some (suc given)) opened' asked' = search (rules, work_after) in
        let few = few_given meaning t found.state.state.tree None given a found.rest found.first in
        let now : IsGiving meaning t limit (suc given) opened' asked' queue.capacity queue.needed queue.items =
        search (rules, drop_step, next_in_limit, next_still) in
        record {
          going = record { same_capacity = same; giving = λ _. rw (add-one given) now; gathering = λ h. absurd (grind arith) };
          answer = rw (add-one given) (search (rules, limited_step));
          worked = rw (add-one given) worked;
          few = few;
        }

    pub end : queue.needed ≡ old_queue.needed → IsOver meaning t opened' asked' queue.needed
        (drop given (answers t.entries meaning None)) queue.items
        → HasEnded gathers meaning t limit given opened' asked' queue hits
    end same_needed over =
        let was = going.giving queued in
        search (rules, work_in_all, limited_end)
