-- A search that finds all answers at once gives them one after the other, up to its limit.
use Rattle.std.proofs.Common.{◌≡◌, ◌≢◌, ◌≤◌, ◌-◌, ℕ, zero, suc, Bool, true, false, List, [], ◌∷◌, length, drop, take, Option}
use Rattle.std.proofs.Common.{Some, None, refl, sym, ◌∙◌, ap, arith, add-one}
use Rattle.std.specs.Prelude.{MatchOption}
use Rattle.rt_geo.specs.Laws.{IsLawful, IsUnscored, Meaning, estimate_of}
use Rattle.rt_tree.specs.{Packed.{IsSound, Packed}, Sorting.{limited}}
use Rattle.rt_search.specs.{Answers.{Answer, answers}, Items.{Gathered, Limited}, Kept.{AllEntries, IsTakenOut}}
use Rattle.rt_search.specs.{Kept.{taken_entry}, Progress.{HasEnded, HasGathered, IsGiven, IsGoing, IsInLimit}}
use Rattle.rt_search.specs.{Joining.{join_answers}, Progress.{left}, Remaining.{remaining}, Work.{HasWorked, its_children, one_node}}
use Rattle.rt_search.specs.{Walking.{answers_in_tree}, declared.item.Item.{Item}}
use Rattle.rt_search.proofs.{Answering.{given}, Giving.{drop_step, few_given, next_in_limit}, Joined.{answers_joined}}
use Rattle.rt_search.proofs.{UnderWay.{few_wait}, Unscored.{work}, WalkWhole.{tree_answers}}

-- ---- lists that are given one by one

next_of_all : {X : Type 0} (limit : Option ℕ) (g : ℕ) → IsInLimit limit g → limit ≢ Some g → (xs : List X) (x : X)
    (rest : List X) → drop g xs ≡ limited (left limit g) (x ∷ rest)
    → (drop g xs ≡ x ∷ drop (suc g) xs) × (drop (suc g) xs ≡ limited (left limit (suc g)) rest)
next_of_all None g le more xs x rest h =
    let next = drop_step xs g x rest h in (h ∙ ap (λ l. x ∷ l) (sym next.1), next.1)
next_of_all (Some k) g le more xs x rest h =
    let some : k - g ≡ suc (k - suc g) = grind arith in
    let here = rw some at h in
    let next = drop_step xs g x _ here in
    (here ∙ ap (λ l. x ∷ l) (sym next.1), next.1)

take_none : {X : Type 0} (n : ℕ) (xs : List X) → xs ≡ [] → take n xs ≡ []
take_none zero xs h = refl
take_none (suc n) [] h = refl
take_none (suc n) (x ∷ xs) h = cc

end_of_all : {X : Type 0} (limit : Option ℕ) (g : ℕ) (xs : List X) → xs ≡ [] → limited (left limit g) xs ≡ []
end_of_all None g xs h = h
end_of_all (Some k) g xs h = take_none (k - g) xs h

-- ---- the steps

-- where nodes have no scores, what was done is the work of a search for any answers
work_is : {meaning : Meaning} {t : Packed} {limit : Option ℕ} {given opened asked : ℕ} {found : List Item}
    → IsUnscored (estimate_of meaning) → HasGathered meaning t limit given opened asked found
    → (next : Option ℕ) → next ≢ Some 0 → HasWorked meaning t next opened asked
work_is {meaning} {t} unscored all next some =
    let is = work meaning t all.tree unscored next some in
    record { in_nodes = all.reached.nodes ∙ sym (is one_node); in_checks = all.reached.checks ∙ sym (is its_children) }

-- a search that finds all at once, whose hits are these now
pub record IsHit (gathers : Bool) (meaning : Meaning) (t : Packed) (limit : Option ℕ) (given opened asked : ℕ)
    (queue : Limited) (hits : Gathered) (found : List Item) : Type 0 where
  pub gathered : gathers ≡ true
  pub unscored : IsUnscored (estimate_of meaning)
  pub some : limit ≢ Some 0
  pub space : length t.entries ≤ hits.capacity
  pub same : hits.capacity ≡ queue.capacity
  pub none : queue.items ≡ []
  pub is_sorted : hits.is_sorted ≡ true
  pub all : HasGathered meaning t limit given opened asked found

module _ {gathers : Bool} {meaning : Meaning} {t : Packed} {limit : Option ℕ} {so_far opened asked : ℕ}
    {queue : Limited} {hits : Gathered} {found : List Item}
    (now : IsHit gathers meaning t limit so_far opened asked queue hits found) where
  still : (next : ℕ) → HasGathered meaning t limit next opened asked hits.items
      → IsGoing gathers meaning t limit next opened asked queue hits
  still next new =
      let gathered = now.gathered in
      let sorted = now.is_sorted in
      record {
        same_capacity = now.same;
        giving = λ h. absurd (grind arith);
        gathering = λ _. record { unscored = now.unscored; some = now.some; space = now.space; none_waits = now.none; before = λ h. absurd (grind arith); after = λ _. new };
      }

  -- a hit was taken out, or none was left
  pub hit : limit ≢ Some so_far → (out : Option Answer) → AllEntries found → IsTakenOut (taken_entry out) found hits.items
      → MatchOption out (HasEnded gathers meaning t limit so_far opened asked queue hits)
      (λ a. IsGiven gathers meaning t limit so_far opened asked a queue hits)
  hit more None entries out =
      let all = now.all in
      let over = given meaning t None found hits.items entries out in
      let same = ap (λ l. limited (left limit so_far) (remaining t meaning l)) (out.0 ∙ sym out.1) in
      record {
        going = still so_far (record { tree = all.tree; in_limit = all.in_limit; to_come = all.to_come ∙ same; reached = all.reached });
        answer = all.to_come ∙ end_of_all limit so_far _ over;
        worked = work_is now.unscored all limit now.some;
      }
  hit more (Some a) entries out =
      let all = now.all in
      let first = given meaning t (Some a) found hits.items entries out in
      let next = next_of_all limit so_far all.in_limit more (answers t.entries meaning limit) a (remaining t meaning hits.items)
      (all.to_come ∙ ap (limited (left limit so_far)) first) in
      let in_limit = next_in_limit limit so_far all.in_limit more in
      record {
        going = rw (add-one so_far) (still (suc so_far)
            (record { tree = all.tree; in_limit = in_limit; to_come = next.1; reached = all.reached }));
        answer = rw (add-one so_far) next.0;
        worked = rw (add-one so_far) (work_is now.unscored all (Some (suc so_far)) (λ is. absurd (grind arith)));
        few = few_given meaning t all.tree limit so_far a _ next.0;
      }

-- ---- all are found

-- where the entries of all answers joined no others, they are the answers to come
pub all_found : {meaning : Meaning} (law : IsLawful meaning) (t : Packed) → IsSound t → (items : List Item)
    → items ≡ join_answers (answers_in_tree t meaning) [] → remaining t meaning items ≡ answers t.entries meaning None
all_found {meaning} law t sound items joined =
    ap (remaining t meaning) joined ∙ answers_joined law t (answers_in_tree t meaning) [] ∙ tree_answers meaning t sound

-- ---- between answers

module _ {gathers : Bool} {meaning : Meaning} {t : Packed} {limit : Option ℕ} {so_far opened asked : ℕ}
    {queue : Limited} {hits : Gathered} (going : IsGoing gathers meaning t limit so_far opened asked queue hits) where
  -- at the limit all work is done
  stopped_by : (gathered sorted : Bool) → gathers ≡ gathered → hits.is_sorted ≡ sorted → limit ≡ Some so_far
      → HasWorked meaning t limit opened asked
  stopped_by false sorted queued is at = (going.giving queued).stopped at
  stopped_by true false gathered is at =
      let gathering = going.gathering gathered in
      absurd (gathering.some (at ∙ ap Some (gathering.before is).none_given))
  stopped_by true true gathered is at =
      let gathering = going.gathering gathered in
      work_is gathering.unscored (gathering.after is) limit gathering.some

  pub stopped : limit ≡ Some so_far → HasWorked meaning t limit opened asked
  stopped = stopped_by gathers hits.is_sorted refl refl

  -- no more waits than there are entries
  few_by : (gathered : Bool) → gathers ≡ gathered → length queue.items ≤ length t.entries
  few_by false queued = few_wait meaning t (going.giving queued).state
  few_by true gathered = omega (arith, ap length (going.gathering gathered).none_waits)

  pub few : length queue.items ≤ length t.entries
  few = few_by gathers refl
