-- How the least of many keys are kept at hand. Nothing that a public call promises speaks of this.
use Rattle.std.specs.Prelude.{◌≡◌, ◌<◌, ◌≤◌, ◌++◌, ◌/◌, ◌^◌, ◌⊎◌, ℕ, false, Option, List, [], ◌∷◌, MatchOption, length}
use Rattle.std.specs.Prelude.{vec_capacity}
use Rattle.std.specs.BinaryHeap.{IsHeap, heap_capacity, heap_items, heap_len}
use Rattle.std.specs.List.{AllByRecursion}
use Rattle.std.specs.Ordering.{is_lt, nat_cmp}
use Rattle.std.specs.declared.cmp.Ordering.{Ordering}
use Rattle.std.specs.declared.cmp.Reverse.{Reverse}
use Rattle.std.specs.declared.collections.binary_heap.BinaryHeap.{BinaryHeap}
use Rattle.std.specs.declared.vec.Vec.{Vec}

-- a pool: the keys that are near and those that are far, each in any order, and how many fit
pub record Pooled : Type 0 where
  pub near : List (Reverse ℕ)
  pub far : List (Reverse ℕ)
  pub capacity : ℕ

abbrev pub keys_in : Pooled → List (Reverse ℕ)
keys_in p = p.near ++ p.far

abbrev pub score_in : Reverse ℕ → ℕ
score_in k = k.0 / 2 ^ 64

-- none of them is lower
abbrev pub IsLowest : ℕ → List (Reverse ℕ) → Type 0
IsLowest k = AllByRecursion (λ j. is_lt (nat_cmp j.0 k) ≡ false)

-- one of them has this score
abbrev pub HasScore : ℕ → List (Reverse ℕ) → Type 0
HasScore s [] = ⊥
HasScore s (k ∷ ks) = (score_in k ≡ s) ⊎ HasScore s ks

-- and none a lower one
abbrev pub HasLeastScore : ℕ → List (Reverse ℕ) → Type 0
HasLeastScore s ks = HasScore s ks × AllByRecursion (λ k. s ≤ score_in k) ks

-- the lowest key is on top of a heap
abbrev pub key_cmp : Reverse ℕ → Reverse ℕ → Ordering
key_cmp k j = nat_cmp j.0 k.0

-- a heap of keys, whose scores are at most the edge
pub record IsNear {A : Type 0} (near : BinaryHeap (Reverse ℕ) A) (edge : ℕ) : Type 0 where
  pub ordered : IsHeap key_cmp (heap_items near)
  pub counted : heap_len near ≡ length (heap_items near)
  pub low : AllByRecursion (λ k. score_in k ≤ edge) (heap_items near)

-- keys of higher scores, the least of which is known
pub record IsFar (far : List (Reverse ℕ)) (edge : ℕ) (least : Option ℕ) : Type 0 where
  pub high : AllByRecursion (λ k. edge < score_in k) far
  pub known : MatchOption least (far ≡ []) (λ s. HasLeastScore s far)

-- both tiers have the capacity, and together they hold at most that many keys
pub record IsPool {A B : Type 0} (near : BinaryHeap (Reverse ℕ) A) (far : Vec (Reverse ℕ) B) (edge : ℕ)
    (least : Option ℕ) (capacity : ℕ) : Type 0 where
  pub inside : IsNear near edge
  pub outside : IsFar far.items edge least
  pub near_capacity : capacity ≤ heap_capacity near
  pub far_capacity : capacity ≤ vec_capacity far
  pub few : length (heap_items near ++ far.items) ≤ capacity
