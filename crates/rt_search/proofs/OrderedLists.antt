-- Lists that are kept in an order which tells all elements apart.
use Rattle.std.proofs.Common.{◌≡◌, ◌+◌, true, false, List, [], ◌∷◌, ◌++◌, ℕ, length, refl, ◌∙◌, ap, arith}
use Rattle.std.proofs.{Common.{Ordering, IsPermutation}, lemmas.{Bool.{cond_both}, Cmp.{upto}}}
use Rattle.std.proofs.lemmas.{List.Sums.{sum_by-cons}, Map.Lookups.{CmpEqualImpliesEq}}
use Rattle.std.specs.{Cmp.{IsTotalOrder}, List.{AllByRecursion, sum_by}, Ordering.{is_gt, is_lt}}
use Rattle.rt_tree.specs.Sorting.{put, sorted}
use Rattle.rt_tree.proofs.{Permutations.{along_permutation}, SortingLemmas.{sorted-IsPermutation}}
use Rattle.rt_search.specs.Remaining.{put_all}

-- an order, by the test whether one comes after another; a list and its rearrangement, in order, are one
pub record IsOrder {X : Type 0} (cmp : X → X → Ordering) : Type 0 where
  pub one_way : (x y : X) → is_gt (cmp x y) ≡ true → is_gt (cmp y x) ≡ false
  pub tie : (x y : X) → is_gt (cmp x y) ≡ false → is_gt (cmp y x) ≡ false → x ≡ y
  pub trans : (x y z : X) → is_gt (cmp x y) ≡ false → is_gt (cmp y z) ≡ false → is_gt (cmp x z) ≡ false
  pub turned : (x y : X) → is_lt (cmp y x) ≡ is_gt (cmp x y)
  pub rearranged : (xs ys : List X) → IsPermutation xs ys → sorted cmp xs ≡ sorted cmp ys

-- a total order that tells all elements apart
pub order_of : {X : Type 0} (cmp : X → X → Ordering) → IsTotalOrder cmp → CmpEqualImpliesEq cmp → IsOrder cmp
order_of cmp total apart = grind (arith, upto, sorted-IsPermutation)

-- what holds wherever x is put
pub put_cases : {X : Type 0} (cmp : X → X → Ordering) (P : List X → Type 0) (x y : X) (ys : List X)
    → (is_gt (cmp x y) ≡ true → P (y ∷ put cmp x ys)) → (is_gt (cmp x y) ≡ false → P (x ∷ y ∷ ys))
    → P (put cmp x (y ∷ ys))
put_cases cmp P x y ys = cond_both (is_gt (cmp x y)) (y ∷ put cmp x ys) (x ∷ y ∷ ys) P

module _ {X : Type 0} (cmp : X → X → Ordering) (o : IsOrder cmp) where
  -- two elements may be put in either order
  pub put-put : (x y : X) (zs : List X) → put cmp x (put cmp y zs) ≡ put cmp y (put cmp x zs)
  put-put x y [] = grind (arith, o.one_way, o.tie)
  put-put x y (z ∷ zs) = grind (arith, o.one_way, o.tie, o.trans, put-put x y zs)

  pub put_all-put : (xs : List X) (y : X) (zs : List X) → put_all cmp xs (put cmp y zs) ≡ put cmp y (put_all cmp xs zs)
  put_all-put [] y zs = refl
  put_all-put (x ∷ xs) y zs = ap (put cmp x) (put_all-put xs y zs) ∙ put-put x y (put_all cmp xs zs)

  pub put_all-append : (xs ys zs : List X) → put_all cmp (xs ++ ys) zs ≡ put_all cmp xs (put_all cmp ys zs)
  put_all-append [] ys zs = refl
  put_all-append (x ∷ xs) ys zs = ap (put cmp x) (put_all-append xs ys zs)

  pub put_all-put_all : (xs ys zs : List X) → put_all cmp xs (put_all cmp ys zs) ≡ put_all cmp ys (put_all cmp xs zs)
  put_all-put_all [] ys zs = refl
  put_all-put_all (x ∷ xs) ys zs = grind (arith, put_all-put, put_all-put_all xs ys zs)

  -- elements may be put in any order
  pub put_all-IsPermutation : (zs xs ys : List X) → IsPermutation xs ys → put_all cmp xs zs ≡ put_all cmp ys zs
  put_all-IsPermutation zs =
      along_permutation (λ xs ys. put_all cmp xs zs ≡ put_all cmp ys zs) (λ xs. refl) (λ x xs ys h. ap (put cmp x) h)
      (λ x y xs. put-put x y (put_all cmp xs zs)) (λ xs ys us h k. h ∙ k)

  pub put_all-nil : (xs : List X) → put_all cmp xs [] ≡ sorted cmp xs
  put_all-nil [] = refl
  put_all-nil (x ∷ xs) = ap (put cmp x) (put_all-nil xs)

  -- ---- what holds of each

  pub put-all : (P : X → Type 0) (x : X) (ys : List X) → P x → AllByRecursion P ys → AllByRecursion P (put cmp x ys)
  put-all P x [] p a = (p, tt)
  put-all P x (y ∷ ys) p a = grind (arith, put_cases, put-all P x ys p a.1)

  pub put_all-all : (P : X → Type 0) (xs ys : List X) → AllByRecursion P xs → AllByRecursion P ys
      → AllByRecursion P (put_all cmp xs ys)
  put_all-all P [] ys a b = b
  put_all-all P (x ∷ xs) ys a b = put-all P x (put_all cmp xs ys) a.0 (put_all-all P xs ys a.1 b)

  -- an element that comes after none of the others is put first
  pub put_least : (x : X) (ys : List X) → AllByRecursion (λ y. is_gt (cmp x y) ≡ false) ys → put cmp x ys ≡ x ∷ ys
  put_least x [] a = refl
  put_least x (y ∷ ys) a = rw a.0 refl

  -- ---- lengths and sums

  pub length-put : (x : X) (ys : List X) → length (put cmp x ys) ≡ length ys + 1
  length-put x [] = refl
  length-put x (y ∷ ys) = grind (arith, put_cases, length-put x ys)

  pub length-put_all : (xs ys : List X) → length (put_all cmp xs ys) ≡ length xs + length ys
  length-put_all [] ys = omega arith
  length-put_all (x ∷ xs) ys = omega (arith, length-put x (put_all cmp xs ys), length-put_all xs ys)

  pub sum_by-put : (f : X → ℕ) (x : X) (ys : List X) → sum_by f (put cmp x ys) ≡ f x + sum_by f ys
  sum_by-put f x [] = omega arith
  sum_by-put f x (y ∷ ys) =
      put_cases cmp (λ l. sum_by f l ≡ f x + sum_by f (y ∷ ys)) x y ys
      (λ e. omega (arith, sum_by-put f x ys, sum_by-cons f y (put cmp x ys), sum_by-cons f y ys))
      (λ e. sum_by-cons f x (y ∷ ys))
