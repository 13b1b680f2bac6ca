-- What a walk finds under a node, child by child.
use Rattle.std.proofs.Common.{◌≡◌, ◌<◌, ◌≤◌, ◌+◌, ◌-◌, ◌^◌, ◌∙◌, ℕ, zero, suc, Bool, true, false, not, if◌then◌else◌, inl, inr}
use Rattle.std.proofs.Common.{List, [], ◌∷◌, ◌++◌, length, take, IsPermutation, append_assoc, append-nil}
use Rattle.std.proofs.{Common.{get_or, refl, sym, ap, subst, arith, rules, add-one, length-append}, lemmas.List.{length-take}}
use Rattle.std.proofs.lemmas.{Bool.{cases_eq}, List.{take_all, Sums.{sum_by-take-drop}}}
use Rattle.std.proofs.lemmas.List.Sorted.{IsPermutation-append, IsPermutation-append_comm, IsPermutation-append_left}
use Rattle.std.proofs.lemmas.List.Sorted.{IsPermutation-append_right, IsPermutation-refl, IsPermutation-trans}
use Rattle.std.proofs.lemmas.List.Sorted.{length_permutation}
use Rattle.std.specs.List.{AllByRecursion, sum_by}
use Rattle.rt_geo.specs.Laws.{AllAccepted, Extent, IsLawful, IsQuestion, extent_of, extent_of_entry, Meaning}
use Rattle.rt_geo.specs.declared.{entry.Entry.{Entry}, geometry.{Info.{Info}, Verdict.{Verdict}}}
use Rattle.rt_tree.specs.Packed.{Packed, IsLeafNode, IsSound, IsSubtree, child_entries, child_nodes, extent_of_node}
use Rattle.rt_tree.specs.{Packed.{node_at}, declared.{nodes.PlainNode.{PlainNode}, tree.Node.{Node}}}
use Rattle.rt_search.specs.{Answers.{Answer}, Joining.{info_of_child, no_entry}, Remaining.{IsBelow, IsOpenable}}
use Rattle.rt_search.specs.{Remaining.{height_at}, Walking.{work_at_child, work_of_child, work_under, HasTaken}}
use Rattle.rt_search.specs.Walking.{HasTakenAll, IsFilling, IsKnown, answer_if, answers_among, answers_under}
use Rattle.rt_search.specs.{Pending.{Waiting}, Walking.{answers_where, verdict_of_child}}
use Rattle.rt_search.specs.Work.{info_of_node, is_kept, its_children, one_node}
use Rattle.rt_search.proofs.Answering.{IsEntryInside, all_inside, among, among-append, among_accepted, among_none}
use Rattle.rt_search.proofs.{Answering.{take_more_at}, Children.{IsChecked, all_children, child, entry_question}}
use Rattle.rt_search.proofs.Children.{height_suc, inner_at, leaf_at, leaf_node, node_question, part_length}
use Rattle.rt_search.proofs.{Giving.{length-scored}, Joined.{answers_upto, kept_not, upto_all, upto_more}, Sizes.{size_under}}
use Rattle.rt_search.proofs.{Pendings.{IsNext}, Working.{sum_more}}

-- ---- answers that are taken

pub taken-append : {S : Type 0} (takes : S → Answer → S → Type 0) (a b c : S) (xs ys : List Answer)
    → HasTaken takes a xs b → HasTaken takes b ys c → HasTaken takes a (xs ++ ys) c
taken-append takes a b c [] ys h k = subst (λ s. HasTaken takes s ys c) h k
taken-append takes a b c (x ∷ xs) ys h k = (h.0, (h.1.0, taken-append takes h.0 b c xs ys h.1.1 k))

-- they fill no more than their places
pub taken_space : {S : Type 0} (takes : S → Answer → S → Type 0) (space : S → ℕ) → IsFilling takes space
    → (old new : S) (xs : List Answer) → HasTaken takes old xs new → space old ≤ space new + length xs
taken_space takes space fills old new [] h = rw h (omega arith)
taken_space takes space fills old new (x ∷ xs) h = grind (arith, taken_space takes space fills h.0 new xs h.1.1)

-- answers that are taken in some order
pub all_taken : {S : Type 0} (takes : S → Answer → S → Type 0) (a b : S) (xs : List Answer)
    → HasTaken takes a xs b → HasTakenAll takes a xs b
all_taken takes a b xs h = (xs, (IsPermutation-refl xs, h))

pub all_taken-append : {S : Type 0} (takes : S → Answer → S → Type 0) (a b c : S) (xs ys : List Answer)
    → HasTakenAll takes a xs b → HasTakenAll takes b ys c → HasTakenAll takes a (xs ++ ys) c
all_taken-append takes a b c xs ys h k =
    (h.0 ++ k.0, (IsPermutation-append _ _ _ _ h.1.0 k.1.0, taken-append takes a b c h.0 k.0 h.1.1 k.1.1))

pub all_taken-moved : {S : Type 0} (takes : S → Answer → S → Type 0) (a b : S) (xs ys : List Answer)
    → IsPermutation xs ys → HasTakenAll takes a xs b → HasTakenAll takes a ys b
all_taken-moved takes a b xs ys same h = (h.0, (IsPermutation-trans _ _ _ h.1.0 same, h.1.1))

pub all_taken_space : {S : Type 0} (takes : S → Answer → S → Type 0) (space : S → ℕ) → IsFilling takes space
    → (old new : S) (xs : List Answer) → HasTakenAll takes old xs new → space old ≤ space new + length xs
all_taken_space takes space fills old new xs h =
    omega (arith, taken_space takes space fills old new h.0 h.1.1, length_permutation h.0 xs h.1.0)

-- ---- two lists in turn

-- one more list goes behind one of two
parted_more : {X : Type 0} (xs ys zs : List X) (b : Bool) (us : List X) → IsPermutation (xs ++ ys) zs
    → IsPermutation ((xs ++ (if not b then us else [])) ++ (ys ++ (if b then us else []))) (zs ++ us)
parted_more xs ys zs true us h =
    rw (append-nil xs, ← append_assoc xs ys us) (IsPermutation-append_left us _ _ h)
parted_more xs ys zs false us h =
    rw (append-nil ys, append_assoc xs us ys) (IsPermutation-trans _ _ _ (IsPermutation-append_right xs _ _
    (IsPermutation-append_comm us ys)) (rw (← append_assoc xs ys us) (IsPermutation-append_left us _ _ h)))

shorter_more : {X : Type 0} (b : Bool) (xs us : List X) → length (xs ++ (if b then us else [])) ≤ length xs + length us
shorter_more true xs us = omega (arith, length-append xs us)
shorter_more false xs us = omega (arith, length-append xs [])

turned : {X : Type 0} (b : Bool) (us : List X) → (if b then [] else us) ≡ (if not b then us else [])
turned true us = refl
turned false us = refl

none_before : (i : ℕ) → i ≤ 0 → i ≡ 0
none_before i le = omega arith

-- ---- what a walk costs

-- a child that is opened
pub at_child : (opens : Verdict → Bool) (cost : Node → ℕ) (meaning : Meaning) (t : Packed) (w : Verdict) (k : ℕ)
    → opens w ≡ true → work_at_child opens cost meaning t w k ≡ work_under opens cost meaning t w k
at_child opens cost meaning t w k h = rw h refl

module _ (meaning : Meaning) (t : Packed) where
  -- ---- a node of level 1

  pub answers_all : (number : ℕ) → IsSubtree t (height_at t number) (node_at t number) → (node_at t number).level ≡ 1
      → answers_among t meaning (node_at t number) (node_at t number).count ≡ answers_under t meaning number
  answers_all number tree low = grind (arith, leaf_node, part_length, among, take_all)

  -- no more are accepted than there are
  pub few_under : (k : ℕ) → IsSubtree t (height_at t k) (node_at t k)
      → length (answers_under t meaning k) ≤ (node_at t k).size
  few_under k tree = grind (arith, length-scored, size_under)

  -- so many entries have no more answers
  pub few_entries : (n : Node) (i : ℕ) → length (answers_among t meaning n i) ≤ i
  few_entries n i = grind (arith, length-scored, length-take)

  all_among : (c : Extent) → AllAccepted meaning.accepts c → (es : List Entry) → AllByRecursion (IsEntryInside c) es
      → length (among meaning es) ≡ length es
  all_among c full [] a = refl
  all_among c full (e ∷ es) a = grind (arith, among_accepted, all_among c full es a.1)

module _ {meaning : Meaning} (law : IsLawful meaning) where
  -- ---- an entry that was asked about

  entry_answer : (e : Entry) (info : Info) → extent_of info ≡ extent_of_entry e → info.level ≡ 0
      → IsQuestion meaning.accepts info
      → answer_if (is_kept (meaning.verdict info).within) e.id (meaning.verdict info).score ≡ among meaning (e ∷ [])
  entry_answer e info at low question = search (rules, kept_not)

  module _ {t : Packed} (sound : IsSound t) where
    -- ---- one more entry

    pub one_entry : {v : Verdict} → v.score < 2 ^ 128 → {n : Node} → IsLeafNode t n
        → IsBelow meaning (extent_of_node n) v → (i : ℕ) → i < n.count
        → let e = get_or (child_entries t n) i no_entry in let w = meaning.verdict (info_of_child t v e) in
        answers_among t meaning n i ++ answer_if (is_kept w.within) e.id w.score ≡ answers_among t meaning n (i + 1)
    one_entry {v} small {n} leaf below i lt =
        let e = get_or (child_entries t n) i no_entry in
        let at = leaf_at t n i sound.table leaf lt in
        let one = entry_answer e (info_of_child t v e) refl refl
        (entry_question meaning t sound v small n e i below at) in
        rw (one, take_more_at (child_entries t n) i e at.place at.is, among-append) refl

    -- ---- the children of a higher node

    module _ {v : Verdict} (small : v.score < 2 ^ 128) {number : ℕ} (opened : IsOpenable t meaning number v)
        (high : 2 ≤ (node_at t number).level) where
      -- ---- their work

      -- that of the first so many
      abbrev pub work_upto : (opens : Verdict → Bool) (cost : Node → ℕ) → ℕ → ℕ
      work_upto opens cost i = sum_by (work_of_child opens cost meaning t v (height_at t number - 1))
          (take i (child_nodes t (node_at t number)))

      pub work_more : (opens : Verdict → Bool) (cost : Node → ℕ) (i : ℕ) → i < (node_at t number).count
          → let k = (node_at t number).first + i in work_upto opens cost (i + 1)
          ≡ work_upto opens cost i + work_at_child opens cost meaning t (meaning.verdict (info_of_node t v (node_at t k))) k
      work_more opens cost i lt = grind (arith, add-one, sum_more, child, opened.tree)

      pub work_all : (opens : Verdict → Bool) (cost : Node → ℕ) → work_under opens cost meaning t v number
          ≡ cost (node_at t number) + work_upto opens cost (node_at t number).count
      work_all opens cost = grind (arith, height_suc, all_children)

      -- ---- their answers

      few_upto : (i : ℕ) → i ≤ (node_at t number).count
          → length (answers_upto opened high i) ≤ sum_by (λ k. k.size) (take i (child_nodes t (node_at t number)))
      few_upto zero le = omega arith
      few_upto (suc i) le =
          let k = (node_at t number).first + i in
          let more = rw (add-one i) at (ap length (upto_more opened high i (omega arith))) in
          grind (arith, length-append, sum_more, few_under meaning t k, child, few_upto i (omega arith))

      -- ---- a child that was checked

      pub known : {i k : ℕ} {x : PlainNode} {info : Info} → IsChecked t number i k x v info
          → IsKnown (meaning.verdict info).within (node_at t k).size (answers_under t meaning k)
      known {i} {k} is =
          let inside = all_inside t (height_at t k) (node_at t k) is.child.tree in
          let asks = node_question meaning t sound v small (node_at t number) (height_at t number - 1) i k opened.low
          opened.below is.child in
          let extent = extent_of_node (node_at t k) in
          let info = info_of_node t v (node_at t k) in
          rw is.info_is (record {
            none = λ reported. among_none meaning extent (law.faithful.pruning info asks is.child.level reported) _ inside;
            all = λ reported. all_among meaning t extent (law.faithful.fullness info asks is.child.level reported) _ inside
                ∙ sym (size_under t (height_at t k) (node_at t k) is.child.tree);
          })

      -- what opening it requires
      pub openable : {i k : ℕ} {w : Verdict} → i < (node_at t number).count → k ≡ (node_at t number).first + i
          → w ≡ verdict_of_child meaning t v (node_at t number) i → IsOpenable t meaning k w
      openable {i} {k} lt at is =
          let child_is = child t number opened.tree high i lt in
          let info = info_of_node t v (node_at t ((node_at t number).first + i)) in
          let asks = node_question meaning t sound v small (node_at t number) (height_at t number - 1) i
          ((node_at t number).first + i) opened.low opened.below child_is in
          rw (at, is) (record {
            inside = child_is.number;
            tree = child_is.tree;
            low = omega (arith, child_is.lower, opened.low);
            below = record { full = law.faithful.fullness info asks child_is.level; least = law.admissibility info asks child_is.level };
          })

      -- ---- those that are opened, and the others

      module _ (opens : Verdict → Bool) where
        abbrev verdict : ℕ → Verdict
        verdict = verdict_of_child meaning t v (node_at t number)

        abbrev pub open_upto : ℕ → List Answer
        open_upto = answers_where opens meaning t v (node_at t number)

        abbrev pub closed_upto : ℕ → List Answer
        closed_upto = answers_where (λ v. not (opens v)) meaning t v (node_at t number)

        abbrev size_upto : ℕ → ℕ
        size_upto i = sum_by (λ k. k.size) (take i (child_nodes t (node_at t number)))

        -- together they are all
        pub parted : (i : ℕ) → i ≤ (node_at t number).count
            → IsPermutation (closed_upto i ++ open_upto i) (answers_upto opened high i)
        parted zero le = IsPermutation-refl []
        parted (suc i) le =
            let those = answers_under t meaning ((node_at t number).first + i) in
            let more = rw (add-one i) at (upto_more opened high i (omega arith)) in
            rw (← more) (parted_more (closed_upto i) (open_upto i) (answers_upto opened high i) (opens (verdict i)) those (parted i (omega arith)))

        few_parted : (i : ℕ) → i ≤ (node_at t number).count
            → length (closed_upto i) + length (open_upto i) ≤ size_upto i
        few_parted i le =
            omega (arith, few_upto i le, length-append (closed_upto i) (open_upto i), length_permutation _ _ (parted i le))

        -- the closed among more of them have no more answers than these have entries
        closed_few : (i j : ℕ) → i ≤ j → j ≤ (node_at t number).count
            → length (closed_upto j) + size_upto i ≤ length (closed_upto i) + size_upto j
        closed_few i zero le few = rw (none_before i le) (omega arith)
        closed_few i (suc j) le few =
            elim (cases_eq i (suc j)) [
              | inl same ↦ rw same (omega arith)
              | inr other ↦
                  let before = closed_few i j (omega (arith, other)) (omega arith) in
                  let k = (node_at t number).first + j in
                  let tree = (child t number opened.tree high j (omega arith)).tree in
                  let step = shorter_more (not (opens (verdict j))) (closed_upto j) (answers_under t meaning k) in
                  omega (arith, before, step, few_under meaning t k tree, sum_more meaning t v number opened.tree high (λ k. k.size) j (omega arith))
            ]

        -- one that is closed fits
        pub child_fits : (i : ℕ) → i < (node_at t number).count → (space space' : ℕ) → (node_at t number).size ≤ space
            → space ≤ space' + length (closed_upto i) → (node_at t ((node_at t number).first + i)).size ≤ space'
        child_fits i lt space space' fits taken =
            let sizes = sum_more meaning t v number opened.tree high (λ k. k.size) i lt in
            let size = (inner_at t (height_at t number) (node_at t number) opened.tree high).1.size in
            let part = sum_by-take-drop (λ (k : Node). k.size) (child_nodes t (node_at t number)) (suc i) in
            omega (arith, few_parted i (omega (arith, lt)))

        -- one more
        pub closed_more : (i : ℕ) → closed_upto i ++ (if opens (verdict i) then []
            else answers_under t meaning ((node_at t number).first + i)) ≡ closed_upto (i + 1)
        closed_more i = rw add-one (ap (λ l. closed_upto i ++ l) (turned (opens (verdict i)) _))

        -- ---- up to the next that is opened

        pub open_skips : (i d : ℕ) → i + d ≤ (node_at t number).count
            → ((j : ℕ) → i ≤ j → j < i + d → opens (verdict j) ≡ false) → open_upto (i + d) ≡ open_upto i
        open_skips i zero le none = let same : i + 0 ≡ i = omega arith in ap open_upto same
        open_skips i (suc d) le none =
            let here : opens (verdict (i + d)) ≡ false = none (i + d) (omega arith) (omega arith) in
            let before = open_skips i d (omega arith) (λ j low lt. none j low (omega arith)) in
            let more : i + suc d ≡ suc (i + d) = omega arith in
            ap open_upto more ∙ rw here (append-nil (open_upto (i + d))) ∙ before

        pub work_skips : (cost : Node → ℕ) (i d : ℕ) → i + d ≤ (node_at t number).count
            → ((j : ℕ) → i ≤ j → j < i + d → opens (verdict j) ≡ false) → work_upto opens cost (i + d) ≡ work_upto opens cost i
        work_skips cost i zero le none = let same : i + 0 ≡ i = omega arith in ap (work_upto opens cost) same
        work_skips cost i (suc d) le none =
            let here : opens (verdict (i + d)) ≡ false = none (i + d) (omega arith) (omega arith) in
            let before = work_skips cost i d (omega arith) (λ j low lt. none j low (omega arith)) in
            let more = work_more opens cost (i + d) (omega arith) in
            let one : i + suc d ≡ i + d + 1 = omega arith in
            ap (work_upto opens cost) one ∙ more ∙ rw here (omega (arith, before))

        -- ---- the next one is opened

        -- one more is part of the whole
        within : (cost : Node → ℕ) (i : ℕ) → i < (node_at t number).count
            → cost (node_at t number) + work_upto opens cost (i + 1) ≤ work_under opens cost meaning t v number
        within cost i lt = grind (arith, sum_by-take-drop, height_suc)

        -- what it requires, and what it leads to
        pub record CanOpen (begun asked space from place k : ℕ) (w : Verdict) : Type 0 where
          pub node : IsOpenable t meaning k w
          pub space_is : (node_at t k).size ≤ space
          pub opened_few : begun + work_under opens one_node meaning t w k ≤ 2 ^ 32
          pub asked_few : asked + work_under opens its_children meaning t w k ≤ 2 ^ 32
          pub lower : (node_at t k).level < (node_at t number).level
          pub work : (cost : Node → ℕ) → work_upto opens cost (place + 1)
              ≡ work_upto opens cost from + work_under opens cost meaning t w k
          pub found : open_upto (place + 1) ≡ open_upto from ++ answers_under t meaning k

        pub can_open : {has : Bool} {from place k : ℕ} {w : Verdict} {new : Waiting}
            → IsNext has opens verdict from (node_at t number).count place w new → k ≡ (node_at t number).first + place
            → (space space' space'' : ℕ) → (node_at t number).size ≤ space
            → space ≤ space' + length (closed_upto (node_at t number).count)
            → space' ≤ space'' + length (open_upto from)
            → (begun begun' asked asked' : ℕ) → begun' ≡ begun + 1 + work_upto opens one_node from
            → asked' ≡ asked + (node_at t number).count + work_upto opens its_children from
            → begun + work_under opens one_node meaning t v number ≤ 2 ^ 32
            → asked + work_under opens its_children meaning t v number ≤ 2 ^ 32
            → CanOpen begun' asked' space'' from place k w
        can_open {from = from} {place} {k} {w} next at space space' space'' fits closed taken begun begun' asked asked' b a begun_fits asked_fits =
            let n = node_at t number in
            let lt = next.high in
            let on : from + (place - from) ≡ place = omega (arith, next.low) in
            let none : (j : ℕ) → from ≤ j → j < from + (place - from) → opens (verdict j) ≡ false =
            λ j low less. next.closed j low (omega (arith, on)) in
            let skips : (cost : Node → ℕ) → work_upto opens cost place ≡ work_upto opens cost from =
            λ cost. rw on at (work_skips cost from (place - from) (omega (arith, on, lt)) none) in
            let same : open_upto place ≡ open_upto from = rw on at (open_skips from (place - from) (omega (arith, on, lt)) none) in
            let child_is = child t number opened.tree high place lt in
            let work : (cost : Node → ℕ) → work_upto opens cost (place + 1)
            ≡ work_upto opens cost from + work_under opens cost meaning t w k =
            λ cost. rw (at, next.reported) (work_more opens cost place lt ∙ omega (
              arith,
              skips cost,
              at_child opens cost meaning t
                  (verdict place) (n.first + place) next.opened,
            )) in
            record {
              node = openable lt at next.reported;
              space_is =
                  let some = closed_few (suc place) n.count (omega (arith, lt)) (omega arith) in
                  let none_more : closed_upto (suc place) ≡ closed_upto place = rw next.opened (append-nil (closed_upto place)) in
                  let parts = few_parted place (omega (arith, lt)) in
                  let sizes = sum_more meaning t v number opened.tree high (λ k. k.size) place lt in
                  let all = all_children t number opened.tree high n.count (omega arith) in
                  let size = (inner_at t (height_at t number) n opened.tree high).1.size in
                  rw at (omega (arith, some, parts, ap length none_more, ap length same, sizes, ap (sum_by (λ (k : Node). k.size)) all, size));
              opened_few = omega (arith, within one_node place lt, work one_node);
              asked_few = omega (arith, within its_children place lt, work its_children);
              lower = rw at child_is.lower;
              work = work;
              found = rw (at, add-one place, next.opened) (ap (λ l. l ++ answers_under t meaning (n.first + place)) same);
            }

        -- ---- none is left

        module _ {from : ℕ} (few : from ≤ (node_at t number).count)
            (none : (i : ℕ) → from ≤ i → i < (node_at t number).count → opens (verdict i) ≡ false) where
          on : from + ((node_at t number).count - from) ≡ (node_at t number).count
          on = omega (arith, few)

          none_more : (j : ℕ) → from ≤ j → j < from + ((node_at t number).count - from) → opens (verdict j) ≡ false
          none_more j low less = none j low (omega (arith, on))

          -- what was done is then all
          pub done_work : (cost : Node → ℕ)
              → work_under opens cost meaning t v number ≡ cost (node_at t number) + work_upto opens cost from
          done_work cost =
              let skips = work_skips cost from ((node_at t number).count - from) (omega (arith, on)) none_more in
              omega (arith, work_all opens cost, rw on at skips)

          pub done_taken : {S : Type 0} (takes : S → Answer → S → Type 0) (old between new : S)
              → HasTaken takes old (closed_upto (node_at t number).count) between
              → HasTakenAll takes between (open_upto from) new → HasTakenAll takes old (answers_under t meaning number) new
          done_taken takes old between new closed found =
              let count = (node_at t number).count in
              let same : open_upto count ≡ open_upto from =
              rw on at (open_skips from (count - from) (omega (arith, on)) none_more) in
              let all = all_taken-append takes old between new (closed_upto count) (open_upto count)
              (all_taken takes old between (closed_upto count) closed) (rw same found) in
              rw (← upto_all opened high) (all_taken-moved takes old new _ _ (parted count (omega arith)) all)
