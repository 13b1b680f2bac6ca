-- The answers among entries, and those that items stand for.
use Rattle.std.proofs.Common.{◌≡◌, ◌<◌, ◌≤◌, ◌+◌, ℕ, ℤ, zero, suc, true, false, List, [], ◌∷◌, ◌++◌, Option, Some, None}
use Rattle.std.proofs.{Common.{length, take, get_or, refl, sym, ◌∙◌, ap, arith, rules, IsPermutation}, lemmas.Bool.{cond_both}}
use Rattle.std.proofs.lemmas.{Bool.Decides.{nat_tests}, Grind.{flat_map-append}, List.{map-append, take_more}}
use Rattle.std.proofs.lemmas.List.{Elements.{filter-append}, Sorted.{IsPermutation-cons, IsPermutation-map}}
use Rattle.std.proofs.lemmas.List.Sorted.{IsPermutation-middle, IsPermutation-refl, IsPermutation-trans}
use Rattle.std.specs.{List.{AllByRecursion, flat_map}, Ordering.{is_gt}, Prelude.{MatchOption}}
use Rattle.rt_geo.specs.Laws.{Extent, IsBoxInside, IsPart, NoneAccepted, extent_of_entry, Meaning}
use Rattle.rt_geo.specs.{Lemmas.Laws.{IsBoxInside-part}, declared.entry.Entry.{Entry}}
use Rattle.rt_tree.specs.Packed.{Packed, IsSubtree, child_nodes, entries_under, extent_of_node, node_at}
use Rattle.rt_tree.specs.{Sorting.{put, sorted}, declared.tree.Node.{Node}}
use Rattle.rt_tree.proofs.Permutations.{along_permutation}
use Rattle.rt_search.specs.{Answers.{Answer, accepted, answer_cmp, answer_of, scored}, Items.{item_at, item_cmp}}
use Rattle.rt_search.specs.{Kept.{AllEntries, IsTakenOut, taken_entry}, Remaining.{AllSound, IsSoundAt, answers_at}}
use Rattle.rt_search.specs.{Remaining.{height_at, put_all, remaining}, declared.item.{Item.{Item}, Place.{Place}}}
use Rattle.rt_search.proofs.{Elements.{all-append, all_map}, OrderedLists.{put-all, put_all-all, put_all-put_all}}
use Rattle.rt_search.proofs.{OrderedLists.{put_cases, put_least}, Orders.{answer_order, item_order}}
use Rattle.rt_search.specs.declared.item.Place.TheVariants as place

pub take_more_at : {X : Type 0} (xs : List X) (i : ℕ) (x : X) → i < length xs → x ≡ get_or xs i x → take (i + 1) xs
    ≡ take i xs ++ (x ∷ [])
take_more_at xs i x lt is = take_more xs i x lt ∙ ap (λ y. take i xs ++ (y ∷ [])) (sym is)

-- ---- entries inside a node

-- the entry is a box inside the extent
abbrev pub IsEntryInside : Extent → Entry → Type 0
IsEntryInside extent e = IsBoxInside (extent_of_entry e) extent

each_inside : (t : Packed) (h : ℕ) (c : Extent)
    → ((k : Node) → IsSubtree t h k → AllByRecursion (IsEntryInside (extent_of_node k)) (entries_under t h k))
    → (ks : List Node) → AllByRecursion (IsSubtree t h) ks → AllByRecursion (λ k. IsPart (extent_of_node k) c) ks
    → AllByRecursion (IsEntryInside c) (flat_map (entries_under t h) ks)
each_inside t h c each [] a b = tt
each_inside t h c each (k ∷ ks) a b =
    all-append (IsEntryInside c) (entries_under t h k) (flat_map (entries_under t h) ks)
    (all_map (IsEntryInside (extent_of_node k)) (IsEntryInside c)
    (λ e i. IsBoxInside-part (extent_of_entry e) (extent_of_node k) c b.0 i) (entries_under t h k) (each k a.0))
    (each_inside t h c each ks a.1 b.1)

-- each entry under a node is a box inside its bounds
pub all_inside : (t : Packed) (h : ℕ) (n : Node) → IsSubtree t h n
    → AllByRecursion (IsEntryInside (extent_of_node n)) (entries_under t h n)
all_inside t zero n s = s.within
all_inside t (suc h) n s = each_inside t h (extent_of_node n) (λ k. all_inside t h k) (child_nodes t n) s.below s.within

-- ---- the answers among entries

module _ (meaning : Meaning) where
  abbrev pub among : List Entry → List Answer
  among es = scored es meaning

  pub among-append : (es fs : List Entry) → among (es ++ fs) ≡ among es ++ among fs
  among-append es fs = grind (arith, filter-append, map-append)

  pub among_accepted : (e : Entry) (es : List Entry) → meaning.accepts (extent_of_entry e) ≡ true → among (e ∷ es)
      ≡ (e.id, meaning.score (extent_of_entry e)) ∷ among es
  among_accepted e es h = rw h refl

  -- a bound on the scores of boxes inside is one on the answers
  pub among_above : (c : Extent) (s : ℕ) → ((b : Extent) → IsBoxInside b c → meaning.accepts b ≡ true → s ≤ meaning.score b)
      → (es : List Entry) → AllByRecursion (IsEntryInside c) es → AllByRecursion (λ a. s ≤ a.1) (among es)
  among_above c s low [] a = tt
  among_above c s low (e ∷ es) a = grind (arith, cond_both, among_above c s low es a.1)

  -- where no box inside is accepted there is no answer
  pub among_none : (c : Extent) → NoneAccepted meaning.accepts c → (es : List Entry) → AllByRecursion (IsEntryInside c) es
      → among es ≡ []
  among_none c never [] a = refl
  among_none c never (e ∷ es) a = search (rules, among_none c never es a.1)

  -- ---- the order of the entries doesn't matter

  abbrev kept : List Entry → List Entry
  kept es = accepted es meaning

  turn : (d e : Entry) (es : List Entry) → IsPermutation (kept (d ∷ e ∷ es)) (kept (e ∷ d ∷ es))
  turn d e es = grind (arith, IsPermutation-middle (d ∷ []) e (kept es), IsPermutation-refl)

  pub accepted-IsPermutation : (es fs : List Entry) → IsPermutation es fs
      → IsPermutation (accepted es meaning) (accepted fs meaning)
  accepted-IsPermutation =
      along_permutation (λ es fs. IsPermutation (kept es) (kept fs)) (λ es. IsPermutation-refl (kept es))
      (λ e es fs h. grind (arith, cond_both, IsPermutation-cons)) turn (λ es fs gs h k. IsPermutation-trans _ _ _ h k)

  pub among-IsPermutation : (es fs : List Entry) → IsPermutation es fs
      → sorted answer_cmp (among es) ≡ sorted answer_cmp (among fs)
  among-IsPermutation es fs h = answer_order.rearranged (among es) (among fs)
      (IsPermutation-map (answer_of meaning) (kept es) (kept fs) (accepted-IsPermutation es fs h))

  -- ---- the answers that items stand for

  module _ (t : Packed) where
    pub at_above : (s : ℕ) (p : Place) → IsSoundAt t meaning s p
        → AllByRecursion (λ a. s ≤ a.1) (answers_at t meaning s p)
    at_above s (place.Node n) h =
        let k = n.number.number in
        among_above (extent_of_node (node_at t k)) s h.below.least (entries_under t (height_at t k) (node_at t k))
        (all_inside t (height_at t k) (node_at t k) h.tree)
    at_above s (place.Entry i) h = (omega arith, tt)

    pub remaining-put : (x : Item) (xs : List Item) → remaining t meaning (put item_cmp x xs)
        ≡ put_all answer_cmp (answers_at t meaning x.score x.place) (remaining t meaning xs)
    remaining-put x [] = refl
    remaining-put x (y ∷ ys) = grind (arith, put_cases, put_all-put_all, answer_order, remaining-put x ys)

    pub AllSound-put : (x : Item) (xs : List Item) → IsSoundAt t meaning x.score x.place
        → AllSound t meaning xs → AllSound t meaning (put item_cmp x xs)
    AllSound-put x xs h a = put-all item_cmp item_order (λ y. IsSoundAt t meaning y.score y.place) x xs h a

    -- ---- an entry that is taken out

    least_at : (i : ℤ) (s r : ℕ) (p : Place) → is_gt (item_cmp (item_at s (place.Entry i)) (item_at r p)) ≡ false
        → IsSoundAt t meaning r p → AllByRecursion (λ q. is_gt (answer_cmp (i, s) q) ≡ false) (answers_at t meaning r p)
    least_at i s r (place.Entry j) h k = (h, tt)
    least_at i s r (place.Node n) h k =
        all_map _ _ (λ q b. grind (arith, nat_tests)) (answers_at t meaning r (place.Node n)) (at_above r (place.Node n) k)

    all_least : (i : ℤ) (s : ℕ) (xs : List Item)
        → AllByRecursion (λ y. is_gt (item_cmp (item_at s (place.Entry i)) y) ≡ false) xs → AllSound t meaning xs
        → AllByRecursion (λ q. is_gt (answer_cmp (i, s) q) ≡ false) (remaining t meaning xs)
    all_least i s [] a b = tt
    all_least i s (y ∷ ys) a b = grind (arith, put_all-all, answer_order, least_at, all_least i s ys a.1 b.1)

    -- an entry that comes after none of the items that wait is the next answer
    pub take_entry : (i : ℤ) (s : ℕ) (xs : List Item)
        → AllByRecursion (λ y. is_gt (item_cmp (item_at s (place.Entry i)) y) ≡ false) xs
        → AllSound t meaning xs → remaining t meaning (item_at s (place.Entry i) ∷ xs) ≡ (i, s) ∷ remaining t meaning xs
    take_entry i s xs a b = grind (arith, put_least, answer_order, all_least)

    -- ---- and where entries alone wait

    -- what is taken out is given, or nothing is left
    pub given : (out : Option Answer) (items new : List Item) → AllEntries items → IsTakenOut (taken_entry out) items new
        → MatchOption out (remaining t meaning items ≡ [])
        (λ a. remaining t meaning items ≡ a ∷ remaining t meaning new)
    given None items new all out = ap (remaining t meaning) out.0
    given (Some a) items new all out = grind (arith, take_entry, all_map)

    -- ---- a node that joins

    -- what the nodes of a list bring
    abbrev pub under_all : ℕ → List Node → List Answer
    under_all h ks = among (flat_map (entries_under t h) ks)

    pub under_all-append : (h : ℕ) (ks ls : List Node) → under_all h (ks ++ ls) ≡ under_all h ks ++ under_all h ls
    under_all-append h ks ls = grind (arith, flat_map-append, among-append)
