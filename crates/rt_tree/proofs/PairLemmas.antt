-- Two lists side by side, and the list that they make.
use Rattle.std.proofs.Common.{◌≡◌, ◌<◌, ◌+◌, ◌-◌, ℕ, zero, suc, List, [], ◌∷◌, ◌++◌, length, map, take, drop, get_or, slice_get}
use Rattle.std.proofs.{Common.{Some, refl, sym, ◌∙◌, ap, arith}, lemmas.List.{drop-map, length-map, take-map}}
use Rattle.std.specs.List.{zip}

-- what each element of the one list makes with that beside it, as far as both go
abbrev pub paired : {X Y Z : Type 0} → (join : X → Y → Z) → List X → List Y → List Z
paired join xs ys = map (λ p. join p.0 p.1) (zip xs ys)

-- what two elements make, and the two elements of that
module _ {X Y Z : Type 0} (join : X → Y → Z) (left : Z → X) (right : Z → Y)
    (left_is : (x : X) (y : Y) → left (join x y) ≡ x) (right_is : (x : X) (y : Y) → right (join x y) ≡ y) where
  -- what two lists make has them both
  pub left-alone : (xs : List X) (ys : List Y) → length xs ≡ length ys → map left (paired join xs ys) ≡ xs
  left-alone [] ys long = refl
  left-alone (x ∷ xs) [] long = absurd (omega arith)
  left-alone (x ∷ xs) (y ∷ ys) long = rw (left_is x y, left-alone xs ys (omega arith)) refl

  pub right-alone : (xs : List X) (ys : List Y) → length xs ≡ length ys → map right (paired join xs ys) ≡ ys
  right-alone [] [] long = refl
  right-alone [] (y ∷ ys) long = absurd (omega arith)
  right-alone (x ∷ xs) [] long = absurd (omega arith)
  right-alone (x ∷ xs) (y ∷ ys) long = rw (right_is x y, right-alone xs ys (omega arith)) refl

  pub length-paired : (xs : List X) (ys : List Y) → length xs ≡ length ys → length (paired join xs ys) ≡ length xs
  length-paired xs ys long = sym (length-map (paired join xs ys) left) ∙ ap length (left-alone xs ys long)

module _ {X Y Z : Type 0} (join : X → Y → Z) where
  -- one more at the end of both lists
  pub paired-more : (xs : List X) (ys : List Y) (x : X) (y : Y) → length xs ≡ length ys
      → paired join (xs ++ x ∷ []) (ys ++ y ∷ []) ≡ paired join xs ys ++ join x y ∷ []
  paired-more [] [] x y long = refl
  paired-more [] (z ∷ ys) x y long = absurd (omega arith)
  paired-more (z ∷ xs) [] x y long = absurd (omega arith)
  paired-more (a ∷ xs) (b ∷ ys) x y long = ap (λ l. join a b ∷ l) (paired-more xs ys x y (omega arith))

  -- as many of both lists
  pub paired-take : (n : ℕ) (xs : List X) (ys : List Y) → paired join (take n xs) (take n ys) ≡ take n (paired join xs ys)
  paired-take zero xs ys = refl
  paired-take (suc n) [] ys = refl
  paired-take (suc n) (x ∷ xs) [] = refl
  paired-take (suc n) (x ∷ xs) (y ∷ ys) = ap (λ l. join x y ∷ l) (paired-take n xs ys)

  -- one that is there in both lists
  pub paired-at : (xs : List X) (ys : List Y) (place : ℕ) (x : X) (y : Y) → length xs ≡ length ys → place < length xs
      → x ≡ get_or xs place x → y ≡ get_or ys place y → slice_get (paired join xs ys) place ≡ Some (join x y)
  paired-at [] ys place x y long there is of = absurd (omega arith)
  paired-at (a ∷ xs) [] place x y long there is of = absurd (omega arith)
  paired-at (a ∷ xs) (b ∷ ys) zero x y long there is of = rw (is, of) refl
  paired-at (a ∷ xs) (b ∷ ys) (suc place) x y long there is of =
      paired-at xs ys place x y (omega arith) (omega arith) is of

-- some that stand side by side in one of the two lists, as a slice lends them
pub lent_part : {X Y : Type 0} (f : X → Y) (first count : ℕ) (lent : List Y) (xs : List X) → lent ≡ map f xs
    → take (first + count - first) (drop first lent) ≡ map f (take count (drop first xs))
lent_part f first count lent xs is =
    let same : first + count - first ≡ count = omega arith in
    rw (is, same, drop-map f first xs) (take-map f count (drop first xs))
