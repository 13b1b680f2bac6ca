-- Lists cut into chunks.
use Rattle.std.proofs.Common.{◌≡◌, ◌<◌, ◌≤◌, ◌+◌, ◌-◌, ◌*◌, ℕ, zero, suc, List, [], ◌∷◌, ◌++◌, length, map, take, drop, min}
use Rattle.std.proofs.{Common.{refl, sym, ◌∙◌, ap, subst, arith, add-one, inl, inr, ◌⊎◌}, lemmas.Bool.{cases_lt}}
use Rattle.std.proofs.Math.{Nat.{zero-div, zero-mod, mul-le-mul_right}}
use Rattle.std.proofs.lemmas.{Grind.{div_ceil_times}, List.{append-nil, take-map, Elements.{All-drop, All-take}}}
use Rattle.std.proofs.lemmas.List.{drop_at, drop_min, take_at, take_min, length-take, take-append-drop, take-append-le}
use Rattle.std.proofs.lemmas.List.{drop-append-le, drop-map, drop_all, length-append, length-drop, length-map}
use Rattle.std.specs.{Int.{div_ceil}, List.{All, AllByRecursion, flat_map}, Simd.{first_chunks}}
use native.Mathlib.Nat.{add-mul}
use Rattle.rt_tree.specs.Packing.{chunks, joined}

-- ---- how many there are

not_above : (d e n len : ℕ) → len ≤ d * n → e * n < len + n → d < e → ⊥
not_above d e n len low high above = omega (arith, mul-le-mul_right n above)

-- the one number that rounds a quotient up
ceil_unique : (d e n len : ℕ) → len ≤ d * n → d * n < len + n → len ≤ e * n → e * n < len + n → d ≡ e
ceil_unique d e n len low high low' high' =
    let not_less : d < e → ⊥ = not_above d e n len low high' in
    let not_more : e < d → ⊥ = not_above e d n len low' high in
    omega arith

one_more : (d e n len : ℕ) → len ≤ d * n → d * n < len + n → len - n ≤ e * n → e * n < len - n + n → 0 < len → d ≡ e + 1
one_more d e n len low high low' high' there =
    let times = add-mul e 1 n in
    elim (cases_lt len n) [
      | inr h ↦ ceil_unique d (e + 1) n len low high (omega arith) (omega arith)
      | inl h ↦ let none : e ≡ 0 = ceil_unique e 0 n 0 (omega arith) (omega arith) (omega arith) (omega arith) in
          let nothing = ap (λ k. k * n) none in ceil_unique d (e + 1) n len low high (omega arith) (omega arith)
    ]

pub div_ceil-step : (len n : ℕ) → 0 < n → 0 < len → div_ceil len n ≡ suc (div_ceil (len - n) n)
div_ceil-step len n some there =
    let whole = div_ceil_times len n some in
    let rest = div_ceil_times (len - n) n some in
    one_more (div_ceil len n) (div_ceil (len - n) n) n len whole.0 whole.1 rest.0 rest.1 there
    ∙ add-one (div_ceil (len - n) n)

pub div_ceil-zero : (n : ℕ) → div_ceil 0 n ≡ 0
div_ceil-zero n = rw (zero-div n, zero-mod n) refl

-- ---- one chunk after the other

pub chunks-nil : {X : Type 0} (n : ℕ) → chunks {X = X} n [] ≡ []
chunks-nil n = ap (λ k. first_chunks n k []) (div_ceil-zero n)

pub chunks-step : {X : Type 0} (n : ℕ) (xs : List X) → 0 < n → 0 < length xs
    → chunks n xs ≡ take n xs ∷ chunks n (drop n xs)
chunks-step n xs some more =
    ap (λ k. first_chunks n k xs) (div_ceil-step (length xs) n some more)
    ∙ ap (λ len. take n xs ∷ first_chunks n (div_ceil len n) (drop n xs)) (sym (length-drop n xs))

-- no elements have the same chunks of any size
pub chunks-alike : {X : Type 0} (m n : ℕ) (xs : List X) → (0 < length xs → m ≡ n) → chunks m xs ≡ chunks n xs
chunks-alike m n [] same = chunks-nil m ∙ sym (chunks-nil n)
chunks-alike m n (x ∷ xs) same = ap (λ k. chunks k (x ∷ xs)) (same (omega arith))

-- what holds of no elements, and of some where it holds of those behind the first chunk, holds of all lists
chunk_by_chunk : {X : Type 0} (n : ℕ) (P : List X → Type 0) → P []
    → ((xs : List X) → 0 < n → 0 < length xs → P (drop n xs) → P xs) → (xs : List X) → (0 < length xs → 0 < n) → P xs
chunk_by_chunk {X} n P none more xs = within (length xs) xs (omega arith)
  where
    within : (most : ℕ) (xs : List X) → length xs ≤ most → (0 < length xs → 0 < n) → P xs
    within most [] few some = none
    within zero (x ∷ xs) few some = absurd (omega arith)
    within (suc most) (x ∷ xs) few some = let size = some (omega arith) in more (x ∷ xs) size (omega arith)
        (within most (drop n (x ∷ xs)) (omega (arith, length-drop n (x ∷ xs))) (λ _. size))

-- the chunk in front, which is as long as it may be
pub chunks-front : {X : Type 0} (n : ℕ) (front behind : List X) → 0 < n → 0 < length front
    → length front ≡ min n (length (front ++ behind)) → chunks n (front ++ behind) ≡ front ∷ chunks n behind
chunks-front n front behind some there long =
    let whole = front ++ behind in
    let size = min n (length whole) in
    chunks-step n whole some (omega (arith, length-append front behind))
    ∙ ap (λ l. l ∷ chunks n (drop n whole)) (sym (take_min n whole) ∙ take_at front behind size long)
    ∙ ap (λ l. front ∷ chunks n l) (sym (drop_min n whole) ∙ drop_at front behind size long)

length-first_chunks : {X : Type 0} (n k : ℕ) (xs : List X) → length (first_chunks n k xs) ≡ k
length-first_chunks n zero xs = refl
length-first_chunks n (suc k) xs = ap (λ l. suc l) (length-first_chunks n k (drop n xs))

pub length-chunks : {X : Type 0} (n : ℕ) (xs : List X) → length (chunks n xs) ≡ div_ceil (length xs) n
length-chunks n xs = length-first_chunks n (div_ceil (length xs) n) xs

-- ---- what the chunks hold

-- all of the list, in its order
pub joined-chunks : {X : Type 0} (n : ℕ) (xs : List X) → (0 < length xs → 0 < n) → joined (chunks n xs) ≡ xs
joined-chunks n = chunk_by_chunk n (λ ys. joined (chunks n ys) ≡ ys) (ap joined (chunks-nil n))
    (λ ys size there rest. ap joined (chunks-step n ys size there) ∙ ap (λ l. take n ys ++ l) rest
    ∙ take-append-drop n ys)

-- a chunk has an element, and no more than the size
pub chunks-size : {X : Type 0} (n : ℕ) (xs : List X) → 0 < n
    → AllByRecursion (λ chunk. (0 < length chunk) × (length chunk ≤ n)) (chunks n xs)
chunks-size {X} n xs some =
    let Fits = λ (chunk : List X). (0 < length chunk) × (length chunk ≤ n) in
    chunk_by_chunk n (λ ys. AllByRecursion Fits (chunks n ys)) (subst (AllByRecursion Fits) (sym (chunks-nil n)) tt)
    (λ ys size there rest. subst (AllByRecursion Fits) (sym (chunks-step n ys size there)) (
      let long = length-take n ys in
          (omega arith, omega arith),
      rest,
    )) xs (λ _. some)

map-first_chunks : {X Y : Type 0} (f : X → Y) (n k : ℕ) (xs : List X)
    → first_chunks n k (map f xs) ≡ map (map f) (first_chunks n k xs)
map-first_chunks f n zero xs = refl
map-first_chunks f n (suc k) xs = rw (take-map f n xs, drop-map f n xs, map-first_chunks f n k (drop n xs)) refl

pub map-chunks : {X Y : Type 0} (f : X → Y) (n : ℕ) (xs : List X) → chunks n (map f xs) ≡ map (map f) (chunks n xs)
map-chunks f n xs = ap (λ len. first_chunks n (div_ceil len n) (map f xs)) (length-map xs f)
    ∙ map-first_chunks f n (div_ceil (length xs) n) xs

-- what holds of each element holds of each element of each chunk
first_chunks-All : {X : Type 0} (P : X → Type 0) (n k : ℕ) (xs : List X) → All P xs
    → AllByRecursion (All P) (first_chunks n k xs)
first_chunks-All P n zero xs a = tt
first_chunks-All P n (suc k) xs a = (All-take P n xs a, first_chunks-All P n k (drop n xs) (All-drop P n xs a))

pub chunks-All : {X : Type 0} (P : X → Type 0) (n : ℕ) (xs : List X) → All P xs → AllByRecursion (All P) (chunks n xs)
chunks-All P n xs = first_chunks-All P n (div_ceil (length xs) n) xs

-- ---- the chunks of lists that stand behind one another

-- behind full chunks others begin anew
pub chunks-append : {X : Type 0} (n k : ℕ) (xs ys : List X) → 0 < n → length xs ≡ k * n
    → chunks n (xs ++ ys) ≡ chunks n xs ++ chunks n ys
chunks-append n zero [] ys some full = ap (λ l. l ++ chunks n ys) (sym (chunks-nil n))
chunks-append n zero (x ∷ xs) ys some full = absurd (omega arith)
chunks-append n (suc k) xs ys some full =
    let long = length-append xs ys in
    chunks-step n (xs ++ ys) some (omega arith)
    ∙ rw (take-append-le n xs ys (omega arith), drop-append-le n xs ys (omega arith))
    (ap (λ l. take n xs ∷ l) (chunks-append n k (drop n xs) ys some (omega (arith, length-drop n xs))))
    ∙ ap (λ l. l ++ chunks n ys) (sym (chunks-step n xs some (omega arith)))

-- chunks of chunks whose size is a multiple are chunks of the whole, the elements of each being put into some order
-- first
module _ {X : Type 0} (h : List X → List X) (keeps : (s : List X)
    → length (h s) ≡ length s) (side n : ℕ) (some : 0 < n) where
  -- the chunks of the slices, and the slices as one list
  abbrev of_slices : List X → List (List X)
  of_slices xs = flat_map (λ s. chunks n (h s)) (chunks (side * n) xs)

  abbrev of_all : List X → List X
  of_all xs = flat_map h (chunks (side * n) xs)

  one_more_slice : (ys : List X) → (length ys < side * n) ⊎ (side * n ≤ length ys)
      → of_slices (drop (side * n) ys) ≡ chunks n (of_all (drop (side * n) ys))
      → chunks n (h (take (side * n) ys)) ++ of_slices (drop (side * n) ys)
      ≡ chunks n (h (take (side * n) ys) ++ of_all (drop (side * n) ys))
  one_more_slice ys (inr wide) rest =
      let slice = h (take (side * n) ys) in
      let full : length slice ≡ side * n = omega (arith, keeps (take (side * n) ys), length-take (side * n) ys) in
      ap (λ l. chunks n slice ++ l) rest ∙ sym (chunks-append n side slice (of_all (drop (side * n) ys)) some full)
  one_more_slice ys (inl narrow) rest = rw (drop_all (side * n) ys (omega arith), chunks-nil {X = X} (side * n))
      (append-nil (chunks n (h (take (side * n) ys))) ∙ ap (chunks n) (sym (append-nil (h (take (side * n) ys)))))

  pub chunks_of-chunks : (xs : List X) → (0 < length xs → 0 < side * n) → of_slices xs ≡ chunks n (of_all xs)
  chunks_of-chunks = chunk_by_chunk (side * n) (λ ys. of_slices ys ≡ chunks n (of_all ys))
      (rw (chunks-nil {X = X} (side * n)) (sym (chunks-nil n)))
      (λ ys size there rest. rw (chunks-step (side * n) ys size there)
      (one_more_slice ys (cases_lt (length ys) (side * n)) rest))
