-- What holds of each element of a list.
use Rattle.std.proofs.Common.{List, [], ◌∷◌, ◌++◌, IsPermutation}
use Rattle.std.proofs.lemmas.List.{Elements.{All-from_recursion, recursion_from_All}, Sorted.{All-permutation}}
use Rattle.std.specs.List.{AllByRecursion}

module _ {X : Type 0} where
  pub all_each : (P : X → Type 0) → ((x : X) → P x) → (xs : List X) → AllByRecursion P xs
  all_each P f [] = tt
  all_each P f (x ∷ xs) = (f x, all_each P f xs)

  -- what follows from it holds too
  pub all_map : (P Q : X → Type 0) → ((x : X) → P x → Q x) → (xs : List X) → AllByRecursion P xs → AllByRecursion Q xs
  all_map P Q f [] a = tt
  all_map P Q f (x ∷ xs) a = (f x a.0, all_map P Q f xs a.1)

  pub all_both : (P Q R : X → Type 0) → ((x : X) → P x → Q x → R x) → (xs : List X) → AllByRecursion P xs
      → AllByRecursion Q xs → AllByRecursion R xs
  all_both P Q R f [] a b = tt
  all_both P Q R f (x ∷ xs) a b = (f x a.0 b.0, all_both P Q R f xs a.1 b.1)

  pub all-append : (P : X → Type 0) (xs ys : List X) → AllByRecursion P xs → AllByRecursion P ys
      → AllByRecursion P (xs ++ ys)
  all-append P [] ys a b = b
  all-append P (x ∷ xs) ys a b = (a.0, all-append P xs ys a.1 b)

  -- in another order
  pub all_moved : (P : X → Type 0) (xs ys : List X) → IsPermutation xs ys → AllByRecursion P xs → AllByRecursion P ys
  all_moved P xs ys h a = recursion_from_All P ys (All-permutation P xs ys h (All-from_recursion P xs a))

  -- the last one, and those before it
  pub all-last : (P : X → Type 0) (xs : List X) (x : X) → AllByRecursion P (xs ++ x ∷ []) → AllByRecursion P xs × P x
  all-last P [] x h = (tt, h.0)
  all-last P (y ∷ xs) x h = let k = all-last P xs x h.1 in ((h.0, k.0), k.1)
