-- What a collector becomes with answers.
use Rattle.std.proofs.{Common.{◌≡◌, ◌+◌, ◌∷◌, ◌∙◌, [], ℕ, List, length, map, ap, arith, rules, IsPermutation}}
use Rattle.std.proofs.lemmas.List.Sorted.{IsPermutation-map, length_permutation}
use Rattle.rt_tree.specs.Sorting.{put}
use Rattle.rt_search.specs.{Answers.{Answer}, Items.{Gathered, Limited, item_cmp, item_of}, Joining.{KeepsHit}}
use Rattle.rt_search.specs.{Joining.{join_answers}, Limits.{IsPut, KeepsEnough}, Walking.{HasTaken, HasTakenAll}}
use Rattle.rt_search.specs.declared.{counting.Tally.{Tally}, item.Item.{Item}}
use Rattle.rt_search.proofs.{Limits.{enough_itself, enough_put_all, enough_trans}}
use Rattle.rt_search.proofs.{OrderedLists.{put_all-IsPermutation, put_all-put}, Orders.{item_order}}

-- ---- a tally: so many more

pub counts : {S : Type 0} (count : S → ℕ) (old new : S) (xs : List Answer)
    → HasTaken (λ old a new. count new ≡ count old + 1) old xs new → count new ≡ count old + length xs
counts count old new [] h = omega (arith, ap count h)
counts count old new (x ∷ xs) h = omega (arith, counts count h.0 new xs h.1.1)

pub counts_all : {S : Type 0} (count : S → ℕ) (old new : S) (xs : List Answer)
    → HasTakenAll (λ old a new. count new ≡ count old + 1) old xs new → count new ≡ count old + length xs
counts_all count old new xs h = omega (arith, counts count old new h.0 h.1.1, length_permutation h.0 xs h.1.0)

pub tally_counted : (old new : Tally) (xs : List Answer) → new.0 ≡ old.0 + length xs
    → HasTaken (λ (old : Tally) a (new : Tally). new.0 ≡ old.0 + 1) old xs new
tally_counted old new [] h = ap (λ (n : ℕ). record { 0 = n }) (omega arith)
tally_counted old new (x ∷ xs) h = grind (arith, tally_counted (record { 0 = old.0 + 1 }) new xs (omega arith))

-- ---- the hits, and what waits: the entries of the answers join

joined_alike : (xs ys : List Answer) → IsPermutation xs ys → (items : List Item)
    → join_answers xs items ≡ join_answers ys items
joined_alike xs ys same items =
    put_all-IsPermutation item_cmp item_order items _ _ (IsPermutation-map item_of xs ys same)

pub hits_join : (old new : Gathered) (xs : List Answer) → HasTaken KeepsHit old xs new
    → (new.items ≡ join_answers xs old.items) × (new.capacity ≡ old.capacity)
hits_join old new [] h = (ap (λ w. w.items) h, ap (λ w. w.capacity) h)
hits_join old new (a ∷ xs) h = search (rules, put_all-put, item_order, hits_join h.0 new xs h.1.1)

pub hits_join_all : (old new : Gathered) (xs : List Answer) → HasTakenAll KeepsHit old xs new
    → (new.items ≡ join_answers xs old.items) × (new.capacity ≡ old.capacity)
hits_join_all old new xs h =
    let joined = hits_join old new h.0 h.1.1 in
    (joined.0 ∙ joined_alike h.0 xs h.1.0 old.items, joined.1)

pub entries_join : (old new : Limited) (xs : List Answer)
    → HasTaken (λ old a new. IsPut (item_of a) old new) old xs new
    → KeepsEnough (join_answers xs old.items) old new
entries_join old new [] h = grind (arith, enough_itself)
entries_join old new (a ∷ xs) h =
    let rest = entries_join h.0 new xs h.1.1 in
    let one = enough_put_all old.needed (map item_of xs) h.0.items (put item_cmp (item_of a) old.items) h.1.0.items in
    grind (arith, put_all-put, item_order, enough_trans)

pub entries_join_all : (old new : Limited) (xs : List Answer)
    → HasTakenAll (λ old a new. IsPut (item_of a) old new) old xs new
    → KeepsEnough (join_answers xs old.items) old new
entries_join_all old new xs h =
    rw (← joined_alike h.0 xs h.1.0 old.items) (entries_join old new h.0 h.1.1)
