-- Lists in the order of another list, or by another comparison.
use Rattle.std.proofs.Common.{◌≡◌, Ordering, List, [], ◌∷◌, ◌++◌, map, inl, inr, refl, sym, ◌∙◌, ap}
use Rattle.std.proofs.{Common.{append_assoc, IsPermutation}, lemmas.{Bool.{cases_Bool}, List.{map-append}}}
use Rattle.std.proofs.lemmas.{List.Elements.{All-append, All-from_recursion, All-nil, recursion_from_All}}
use Rattle.std.proofs.lemmas.List.Sorted.{All-permutation, IsPermutation-append_comm, IsPermutation-append_left}
use Rattle.std.proofs.lemmas.List.Sorted.{IsPermutation-append_right, IsPermutation-refl, IsPermutation-trans}
use Rattle.std.specs.{List.{All, AllByRecursion, flat_map}, Ordering.{is_gt}}
use Rattle.rt_tree.specs.Sorting.{put, sorted}
use Rattle.rt_tree.proofs.{Permutations.{along_permutation}, SortingLemmas.{IsPermutation-sorted}}

pub all_moved : {X : Type 0} (P : X → Type 0) (xs ys : List X) → IsPermutation xs ys → AllByRecursion P xs
    → AllByRecursion P ys
all_moved P xs ys h a = recursion_from_All P ys (All-permutation P xs ys h (All-from_recursion P xs a))

-- ---- by what a function gives
module _ {X Y : Type 0} (cmp : Y → Y → Ordering) (f : X → Y) where
  put-map : (x : X) (xs : List X) → put cmp (f x) (map f xs) ≡ map f (put (λ a b. cmp (f a) (f b)) x xs)
  put-map x [] = refl
  put-map x (y ∷ ys) = elim (cases_Bool (is_gt (cmp (f x) (f y)))) [
    | inl h ↦ rw h (ap (λ l. f y ∷ l) (put-map x ys))
    | inr h ↦ rw h refl
  ]

  pub sorted-map : (xs : List X) → sorted cmp (map f xs) ≡ map f (sorted (λ a b. cmp (f a) (f b)) xs)
  sorted-map [] = refl
  sorted-map (x ∷ xs) = ap (put cmp (f x)) (sorted-map xs) ∙ put-map x (sorted (λ a b. cmp (f a) (f b)) xs)

-- ---- by another comparison that says the same of these elements
module _ {X : Type 0} (cmp other : X → X → Ordering) (P : X → Type 0) (same : (x y : X) → P x → P y
    → cmp x y ≡ other x y) where
  put-same : (x : X) (ys : List X) → P x → AllByRecursion P ys → put cmp x ys ≡ put other x ys
  put-same x [] p a = refl
  put-same x (y ∷ ys) p a = rw (same x y p a.0, put-same x ys p a.1) refl

  pub sorted-same : (xs : List X) → AllByRecursion P xs → sorted cmp xs ≡ sorted other xs
  sorted-same [] a = refl
  sorted-same (x ∷ xs) a = ap (put cmp x) (sorted-same xs a.1) ∙ put-same x (sorted other xs) a.0
      (all_moved P xs (sorted other xs) (IsPermutation-sorted other xs) a.1)

-- ---- lists of lists

pub flat_map-same : {X Y : Type 0} (f g : X → List Y) (P : X → Type 0) → ((x : X) → P x → f x ≡ g x)
    → (xs : List X) → AllByRecursion P xs → flat_map f xs ≡ flat_map g xs
flat_map-same f g P same [] a = refl
flat_map-same f g P same (x ∷ xs) a = rw (same x a.0, flat_map-same f g P same xs a.1) refl

pub map-flat_map : {X Y Z : Type 0} (f : Y → Z) (g : X → List Y) (xs : List X)
    → flat_map (λ x. map f (g x)) xs ≡ map f (flat_map g xs)
map-flat_map f g [] = refl
map-flat_map f g (x ∷ xs) = ap (λ l. map f (g x) ++ l) (map-flat_map f g xs) ∙ sym (map-append f (g x) (flat_map g xs))

pub all_append : {X : Type 0} (P : X → Type 0) (xs ys : List X) → AllByRecursion P xs → AllByRecursion P ys
    → AllByRecursion P (xs ++ ys)
all_append P [] ys a b = b
all_append P (x ∷ xs) ys a b = (a.0, all_append P xs ys a.1 b)

pub all_flat_map : {X Y : Type 0} (P : Y → Type 0) {Q : X → Type 0} (f : X → List Y) → ((x : X) → Q x → All P (f x))
    → (xs : List X) → AllByRecursion Q xs → All P (flat_map f xs)
all_flat_map P f holds [] a = All-nil P
all_flat_map P f holds (x ∷ xs) a = All-append P (f x) (flat_map f xs) (holds x a.0) (all_flat_map P f holds xs a.1)

exchanged : {Y : Type 0} (a b c : List Y) → IsPermutation (a ++ (b ++ c)) (b ++ (a ++ c))
exchanged a b c = rw (← append_assoc a b c, ← append_assoc b a c)
    (IsPermutation-append_left c (a ++ b) (b ++ a) (IsPermutation-append_comm a b))

-- what stands under elements is moved with them
pub flat_map-IsPermutation : {X Y : Type 0} (f : X → List Y) (xs ys : List X) → IsPermutation xs ys
    → IsPermutation (flat_map f xs) (flat_map f ys)
flat_map-IsPermutation f =
    along_permutation (λ xs ys. IsPermutation (flat_map f xs) (flat_map f ys)) (λ xs. IsPermutation-refl
    (flat_map f xs))
    (λ x xs ys h. IsPermutation-append_right (f x) (flat_map f xs) (flat_map f ys) h) (λ x y xs. exchanged (f x)
    (f y) (flat_map f xs)) (λ xs ys zs h k. IsPermutation-trans _ _ _ h k)
