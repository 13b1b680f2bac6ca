-- What has to wait where a limit is known. Nothing that a public call promises speaks of this.
use Rattle.std.specs.Prelude.{◌≡◌, ◌-◌, ◌<◌, ◌≤◌, ◌^◌, ℕ, zero, suc, Option, Some, None, List, [], ◌∷◌}
use Rattle.std.specs.Prelude.{IfSome, drop, length, take, vec_capacity}
use Rattle.std.specs.List.{AllByRecursion}
use Rattle.std.specs.declared.cmp.Reverse.{Reverse}
use Rattle.std.specs.declared.vec.Vec.{Vec}
use Rattle.rt_tree.specs.Sorting.{put}
use Rattle.rt_search.specs.Items.{Limited, Waiting, item_cmp}
use Rattle.rt_search.specs.Kept.{IsTakenOut}
use Rattle.rt_search.specs.Pooling.{Pooled, keys_in}
use Rattle.rt_search.specs.declared.item.Item.{Item}
use Rattle.rt_search.specs.declared.item.Place.{Place}
use Rattle.rt_search.specs.declared.item.Place.TheVariants.{Node, Entry}

-- how many entries an item is
abbrev pub entries_at : Place → ℕ
entries_at (Node n) = 0
entries_at (Entry id) = 1

-- the items up to the entry of this number
abbrev pub front : List Item → (entries : ℕ) → List Item
front [] n = []
front (x ∷ xs) zero = []
front (x ∷ xs) (suc n) = x ∷ front xs (suc n - entries_at x.place)

-- those up to the last entry that is needed: all where no number is known
abbrev pub front_of : (needed : Option ℕ) → List Item → List Item
front_of None items = items
front_of (Some n) items = front items n

-- the same as all, as far as is needed, and not longer than all
pub record IsEnough (needed : Option ℕ) (items all : List Item) : Type 0 where
  pub same : front_of needed items ≡ front_of needed all
  pub few : length items ≤ length all

-- enough of these items wait, and nothing else has changed
pub record KeepsEnough (all : List Item) (old new : Limited) : Type 0 where
  pub items : IsEnough old.needed new.items all
  pub needed : new.needed ≡ old.needed
  pub capacity : new.capacity ≡ old.capacity

-- an item joined
abbrev pub IsPut : Item → (old new : Limited) → Type 0
IsPut x old new = KeepsEnough (put item_cmp x old.items) old new

-- how many are needed once an entry was taken out
abbrev pub one_less : (needed : Option ℕ) → Option ℕ
one_less None = None
one_less (Some n) = Some (n - 1)

abbrev pub less_at : Place → (needed : Option ℕ) → Option ℕ
less_at (Node n) needed = needed
less_at (Entry id) needed = one_less needed

-- and once an item was, or none
abbrev pub needed_after : Option Item → (needed : Option ℕ) → Option ℕ
needed_after None needed = needed
needed_after (Some x) needed = less_at x.place needed

-- nothing waits, for a search up to a limit, if there is one: where it is known how many are needed, it is the limit, and
-- with a limit of at most 128 it is known
pub record IsCleared (limit : Option ℕ) (old new : Limited) : Type 0 where
  pub items : new.items ≡ []
  pub needed : IfSome new.needed (λ n. limit ≡ Some n)
  pub known : IfSome limit (λ n. n ≤ 128 → new.needed ≡ Some n)
  pub capacity : new.capacity ≡ old.capacity

-- what stood first was taken out, if anything was there
pub record IsTakenFrom (old new : Limited) (x : Option Item) : Type 0 where
  pub taken : IsTakenOut x old.items new.items
  pub needed : new.needed ≡ needed_after x old.needed
  pub capacity : new.capacity ≡ old.capacity

-- ---- the entries that come first among those found

-- each key is at most those behind it
abbrev pub IsClimbing : List (Reverse ℕ) → Type 0
IsClimbing [] = Unit {0}
IsClimbing (k ∷ ks) = AllByRecursion (λ j. k.0 ≤ j.0) ks × IsClimbing ks

abbrev pub but_last : List (Reverse ℕ) → List (Reverse ℕ)
but_last ks = take (length ks - 1) ks

-- those that weren't taken out climb, and all are no more than were needed, of which there are few; none is above the
-- bound, which bounds nothing while more are needed
pub record IsChosen {A : Type 0} (keys : Vec (Reverse ℕ) A) (taken bound limit : ℕ) : Type 0 where
  pub climbing : IsClimbing (drop taken keys.items)
  pub bounded : AllByRecursion (λ k. k.0 ≤ bound) (drop taken keys.items)
  pub unbounded : length keys.items < limit → bound ≡ 2 ^ 128 - 1
  pub past : taken ≤ length keys.items
  pub few : length keys.items ≤ limit
  pub low : limit ≤ 128

-- ---- in one of two ways

-- the keys that wait: those that weren't taken out, where few are needed, or else all in the pool
abbrev pub waiting_keys : (limit : Option ℕ) → (taken : ℕ) → (keys pooled : List (Reverse ℕ)) → List (Reverse ℕ)
waiting_keys None taken keys pooled = pooled
waiting_keys (Some limit) taken keys pooled = drop taken keys

-- the keys have capacity for as many as can be needed, the pool has the whole capacity, and what is kept fits
pub record HasEntries {A : Type 0} (keys : Vec (Reverse ℕ) A) (taken bound : ℕ) (limit : Option ℕ)
    (pool : Pooled) (capacity : ℕ) : Type 0 where
  pub chosen : IfSome limit (IsChosen keys taken bound)
  pub space : 128 ≤ vec_capacity keys
  pub pool_capacity : pool.capacity ≡ capacity
  pub few : length (waiting_keys limit taken keys.items (keys_in pool)) ≤ capacity

-- without the limit
abbrev pub unlimited : Limited → Waiting
unlimited l = record { items = l.items; capacity = l.capacity }
