-- What is put into arrays, one list behind the other.
use Rattle.std.proofs.Common.{◌≡◌, ◌∙◌, ◌+◌, ◌-◌, ◌<◌, ◌≤◌, ◌++◌, ◌∷◌, [], ℕ, zero, suc, List, length, take, drop, map, refl, sym, ap, arith}
use Rattle.std.proofs.Math.{ListN.{set}, Seq.{take-add}}
use Rattle.std.proofs.lemmas.List.{append_assoc, drop-drop, length-append, length-map, length-set, length-take-le, map-append, take_all, take_more_set, take-append-le}
use Rattle.rt_embed.specs.Findings.{Begins}

-- one item more is put where the array has a place for it
pub begins_put : {X : Type 0} (array : List X) (place : ℕ) (x : X) (before : List X) → place < length array → length before ≡ place
    → Begins array before → Begins (set array place x) (before ++ x ∷ [])
begins_put array place x before inside len begins =
    let front : take place array ≡ before =
    ap (λ n. take n array) (sym len) ∙ begins ∙ take_all (length array) before (omega (arith, inside, len)) in
    let size : length (before ++ x ∷ []) ≡ place + 1 = length-append before (x ∷ []) ∙ ap (λ n. n + 1) len in
    ap (λ n. take n (set array place x)) size ∙ take_more_set array place x inside ∙ ap (λ f. f ++ x ∷ []) front
    ∙ sym (take_all (length (set array place x)) (before ++ x ∷ []) (omega (arith, inside, size, length-set array place x)))

-- and where it has none, it is as it was
pub begins_full : {X : Type 0} (array : List X) (x : X) (before : List X) → length array ≤ length before
    → Begins array before → Begins array (before ++ x ∷ [])
begins_full array x before full begins =
    take_all (length (before ++ x ∷ [])) array (omega (arith, full, length-append before (x ∷ [])))
    ∙ sym (take_all (length before) array full) ∙ begins ∙ sym (take-append-le (length array) before (x ∷ []) full)

-- what is left of two lists without the first items of both
pub drop-append : {X : Type 0} (n : ℕ) (xs ys : List X) → drop n (xs ++ ys) ≡ drop n xs ++ drop (n - length xs) ys
drop-append zero xs ys = let none : 0 - length xs ≡ 0 = omega arith in rw none refl
drop-append (suc n) [] ys = let all : suc n - 0 ≡ suc n = omega arith in rw all refl
drop-append (suc n) (x ∷ xs) ys =
    let less : suc n - suc (length xs) ≡ n - length xs = omega arith in rw less (drop-append n xs ys)

-- one item more of a list is taken
take_next : {X : Type 0} (k : ℕ) (list : List X) (x : X) (rest : List X) → drop k list ≡ x ∷ rest
    → take (k + 1) list ≡ take k list ++ x ∷ []
take_next k list x rest is = take-add k 1 list ∙ ap (λ r. take k list ++ take 1 r) is

-- what is put behind a list, as something of each of its items, with one more of what comes
pub map_next : {X Y : Type 0} (f : X → Y) (before list : List X) (from end : ℕ) (x : X) (rest : List X) → from ≤ end
    → drop (end - from) list ≡ x ∷ rest
    → map f (before ++ take (end - from) list) ++ f x ∷ [] ≡ map f (before ++ take (end + 1 - from) list)
map_next f before list from end x rest behind is =
    let more : end + 1 - from ≡ (end - from) + 1 = omega (arith, behind) in
    sym (rw (more, take_next (end - from) list x rest is)
    (ap (map f) (sym (append_assoc before (take (end - from) list) (x ∷ []))) ∙ map-append f (before ++ take (end - from) list) (x ∷ [])))

-- and the list comes on without it
pub drop_next : {X : Type 0} (list : List X) (from end : ℕ) (x : X) (rest : List X) → from ≤ end → drop (end - from) list ≡ x ∷ rest
    → rest ≡ drop (end + 1 - from) list
drop_next list from end x rest behind is =
    let more : end + 1 - from ≡ (end - from) + 1 = omega (arith, behind) in
    rw more (ap (drop 1) (sym is) ∙ drop-drop 1 (end - from) list)

-- where it ends
pub put_len : {X Y : Type 0} (f : X → Y) (before list : List X) (from end left : ℕ) → length before ≡ from → from ≤ end
    → end + left ≡ from + length list → length (map f (before ++ take (end - from) list)) ≡ end
put_len f before list from end left len behind all =
    length-map (before ++ take (end - from) list) f ∙ length-append before (take (end - from) list)
    ∙ omega (arith, len, behind, length-take-le (end - from) list (omega (arith, behind, all)))
