-- Keys, those that are near and those that are far.
use Rattle.std.proofs.Common.{ap, sym, inl, ◌≡◌, ◌<◌, ◌≤◌, ◌-◌, ◌/◌, ◌^◌, inr, ℕ, nat_lt, Option, Some, List, [], ◌∷◌}
use Rattle.std.proofs.{Common.{◌++◌, length, take, drop, set, get_or, arith, IsPermutation}, Math.Nat.{mod-lt}}
use Rattle.std.proofs.lemmas.{Bool.Decides.{nat_tests}, Nat.{div-add-mod'}, List.{append_assoc, length-set}}
use Rattle.std.proofs.lemmas.List.{length-take-le, take-append-drop, take-append-le, take-set}
use Rattle.std.proofs.lemmas.{List.Sorted.{IsPermutation-to_front, IsPermutation-sym}, Bool.{ltb-false, ltb-true}}
use Rattle.std.specs.{declared.cmp.Reverse.{Reverse}, Prelude.{MatchOption}, List.{AllByRecursion, swap_remove}}
use Rattle.rt_search.specs.{Kept.{lesser}, Pooling.{HasLeastScore, HasScore, IsFar, IsLowest, score_in}}
use Rattle.rt_search.proofs.Elements.{all-append, all_map, all_moved}

-- ---- lists

-- what is put at the end of the second of two lists
pub put_right : {X : Type 0} (x : X) (xs zs : List X) → IsPermutation (x ∷ xs ++ zs) (xs ++ (zs ++ x ∷ []))
put_right x xs zs = grind (arith, append_assoc, IsPermutation-sym, IsPermutation-to_front)

-- what stands before the one that is taken out stays
pub take-swap_remove : {X : Type 0} (xs : List X) (i : ℕ) (d : X) → i < length xs
    → take i (swap_remove xs i d) ≡ take i xs
take-swap_remove xs i d h =
    let n = length xs - 1 in
    let ys = set xs i (get_or xs n d) in
    let cut = length-take-le n ys (omega (arith, length-set xs i (get_or xs n d))) in
    grind (arith, take-append-le i (take n ys) (drop n ys), take-append-drop n ys, take-set)

-- ---- keys by their scores

-- none that is far is lower than one that is near
pub far_after : (e k : ℕ) (js : List (Reverse ℕ)) → k / 2 ^ 64 ≤ e → AllByRecursion (λ j. e < score_in j) js
    → IsLowest k js
far_after e k js h a = grind (arith, all_map, nat_tests, mod-lt, div-add-mod')

lowest_scores : (k : ℕ) (js : List (Reverse ℕ)) → IsLowest k js → AllByRecursion (λ j. k / 2 ^ 64 ≤ score_in j) js
lowest_scores k js a = grind (arith, all_map, nat_tests, mod-lt, div-add-mod')

-- ---- the first of those near is the least of all

pub least_score : (e : ℕ) (top : Reverse ℕ) (near far : List (Reverse ℕ)) → 0 < length near → top ≡ get_or near 0 top
    → IsLowest top.0 near → AllByRecursion (λ k. score_in k ≤ e) near → AllByRecursion (λ k. e < score_in k) far
    → HasLeastScore (top.0 / 2 ^ 64) (near ++ far)
least_score e top [] far some h a low high = absurd (omega arith)
least_score e top (k ∷ near) far some h a low high =
    (inl (ap score_in (sym h)), grind (arith, all-append, lowest_scores, all_map))

-- ---- the least score of those far

has_left : (s : ℕ) (ks js : List (Reverse ℕ)) → HasScore s ks → HasScore s (ks ++ js)
has_left s [] js h = absurd h
has_left s (k ∷ ks) js h = grind (arith, has_left s ks js)

has_right : (s : ℕ) (ks js : List (Reverse ℕ)) → HasScore s js → HasScore s (ks ++ js)
has_right s [] js h = h
has_right s (k ∷ ks) js h = inr (has_right s ks js h)

-- after one more
least_more : (r : Option ℕ) (ks : List (Reverse ℕ)) (k : Reverse ℕ) → MatchOption r (ks ≡ []) (λ s. HasLeastScore s ks)
    → HasLeastScore (lesser r (score_in k)) (ks ++ k ∷ [])
least_more r ks k h = grind (arith, nat_lt, ltb-true, has_right, all-append, all_map, ltb-false, has_left)

pub far_more : (e : ℕ) (r : Option ℕ) (ks : List (Reverse ℕ)) (k : Reverse ℕ) → IsFar ks e r → e < score_in k
    → IsFar (ks ++ k ∷ []) e (Some (lesser r (score_in k)))
far_more e r ks k h m = grind (arith, all-append, least_more)

-- a score up to the edge isn't far
not_far : (s e : ℕ) (ks : List (Reverse ℕ)) → HasScore s ks → s ≤ e → AllByRecursion (λ k. e < score_in k) ks → ⊥
not_far s e [] h le a = h
not_far s e (k ∷ ks) h le a = grind (arith, not_far s e ks)

-- once the edge has passed the least score some are near
pub some_near : (s e : ℕ) (near far ks js : List (Reverse ℕ)) → HasScore s far → s ≤ e
    → IsPermutation (near ++ far) (ks ++ js) → AllByRecursion (λ k. e < score_in k) js → ks ≡ [] → js ≡ []
some_near s e near far ks js h le p a none =
    let all = all_moved (λ k. e < score_in k) js (near ++ far) in grind (arith, not_far, has_right, IsPermutation-sym)
