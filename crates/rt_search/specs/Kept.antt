-- How a queue keeps its items, and a search without one its hits. Nothing that a public call promises speaks of this.
use Rattle.std.specs.Prelude.{◌≡◌, ◌<◌, ◌≤◌, ◌/◌, ◌%◌, ◌^◌, ◌-ℤ◌, ℕ, ℤ, pos, nat_lt, Bool, true, false, if◌then◌else◌}
use Rattle.std.specs.Prelude.{◌⊎◌, not, filter, Option, Some, None, List, [], ◌∷◌, ◌++◌, length, map, vec_capacity}
use Rattle.std.specs.BinaryHeap.{IsHeap, heap_capacity, heap_items, heap_len}
use Rattle.std.specs.List.{AllByRecursion}
use Rattle.std.specs.List.Sorted.{IsPermutation, IsSorted}
use Rattle.std.specs.Ordering.{int_cmp, is_gt}
use Rattle.std.specs.declared.cmp.Ordering.{Ordering}
use Rattle.std.specs.declared.cmp.Reverse.{Reverse}
use Rattle.std.specs.declared.collections.binary_heap.BinaryHeap.{BinaryHeap}
use Rattle.std.specs.declared.vec.Vec.{Vec}
use Rattle.rt_tree.specs.Sorting.{put, sorted}
use Rattle.rt_search.specs.Answers.{Answer}
use Rattle.rt_search.specs.Items.{Waiting, item_at, item_cmp, item_of}
use Rattle.rt_search.specs.Pooling.{Pooled, key_cmp, keys_in}
use Rattle.rt_search.specs.Remaining.{put_all}
use Rattle.rt_search.specs.declared.item.Item.{Item}
use Rattle.rt_search.specs.declared.item.Place.{Place}
use Rattle.rt_search.specs.declared.item.Place.TheVariants.{Node, Entry}
use Rattle.rt_search.specs.declared.item.ScoredNode.{ScoredNode}
use Rattle.rt_search.specs.declared.item.WaitingNode.{WaitingNode}

-- the node of a tail: its number, and below it whether it is full
abbrev pub tail_node : ℕ → WaitingNode
tail_node tail = record { number = record { number = tail / 2 ^ 32 }; is_full = nat_lt 0 (tail % 2 ^ 32) }

-- items by their keys, which have the score and below it a tail: a node, or how far the id of an entry is above the least
abbrev pub node_item : Reverse ℕ → Item
node_item r = item_at (r.0 / 2 ^ 64) (Node (tail_node (r.0 % 2 ^ 64)))

abbrev pub entry_item : Reverse ℕ → Item
entry_item r = item_at (r.0 / 2 ^ 64) (Entry (pos (r.0 % 2 ^ 64) -ℤ pos (2 ^ 63)))

-- an item of the heap of wide ones
abbrev pub wide_item : Reverse Item → Item
wide_item r = r.0

-- an entry of score 0, by its id, as an item
abbrev pub zero_item : Reverse ℤ → Item
zero_item r = item_at 0 (Entry r.0)

-- what was taken out, as an item: the node if there is one, otherwise the other
abbrev pub node_or : Option ScoredNode → Option Item → Option Item
node_or None other = other
node_or (Some n) other = Some (item_at n.score (Node n.node))

abbrev pub taken_entry : Option Answer → Option Item
taken_entry None = None
taken_entry (Some a) = Some (item_of a)

abbrev pub taken_item : Option ScoredNode × Option Answer → Option Item
taken_item taken = node_or taken.0 (taken_entry taken.1)

-- what is kept, as items in order
abbrev pub in_order : {X : Type 0} → (X → Item) → List X → List Item
in_order item xs = sorted item_cmp (map item xs)

abbrev pub IsNode : Place → Type 0
IsNode (Node n) = Unit {0}
IsNode (Entry id) = ⊥

abbrev pub IsEntry : Place → Type 0
IsEntry (Node n) = ⊥
IsEntry (Entry id) = Unit {0}

-- no node is among them
abbrev pub AllEntries : List Item → Type 0
AllEntries = AllByRecursion (λ x. IsEntry x.place)

-- an item joins, where it is needed
abbrev pub offered : (is_accepted : Bool) → Item → List Item → List Item
offered is_accepted x items = if is_accepted then put item_cmp x items else items

-- none of them comes after x
abbrev pub IsLast : {X : Type 0} → (X → Item) → X → List X → Type 0
IsLast item x = AllByRecursion (λ y. is_gt (item_cmp (item y) (item x)) ≡ false)

-- x comes after none of them
abbrev pub IsLeast : Item → List Item → Type 0
IsLeast x = AllByRecursion (λ y. is_gt (item_cmp x y) ≡ false)

-- what was taken out stood first, if anything was there, and comes after none of what is left
abbrev pub IsTakenOut : Option Item → (old new : List Item) → Type 0
IsTakenOut None old new = (old ≡ []) × (new ≡ [])
IsTakenOut (Some x) old new = (old ≡ x ∷ new) × IsLeast x new

-- the first has this score, and none a lower one
abbrev pub IsFirstScore : ℕ → List Item → Type 0
IsFirstScore s [] = ⊥
IsFirstScore s (x ∷ xs) = (s ≡ x.score) × AllByRecursion (λ y. s ≤ y.score) xs

-- each comes after none of those behind it
abbrev pub IsRising : List Item → Type 0
IsRising [] = Unit {0}
IsRising (x ∷ xs) = IsLeast x xs × IsRising xs

-- the first of xs comes after none of ys
abbrev pub IsAhead : List Item → List Item → Type 0
IsAhead [] ys = ys ≡ []
IsAhead (x ∷ xs) ys = IsLeast x ys

-- the lesser of a score and the first score, if there is one
abbrev pub lesser : (first : Option ℕ) → (score : ℕ) → ℕ
lesser None score = score
lesser (Some first) score = if nat_lt score first then score else first

-- ---- a priority queue

-- keys of nodes that wait, and entries
abbrev pub narrow : (nodes : List (Reverse ℕ)) → (entries : List Item) → List Item
narrow nodes entries = put_all item_cmp (in_order node_item nodes) entries

-- and the wide
abbrev pub queued : (nodes : List (Reverse ℕ)) → (entries wide : List Item) → List Item
queued nodes entries wide = put_all item_cmp wide (narrow nodes entries)

-- each part has the capacity, and together they hold at most that many
pub record IsQueue (nodes : Pooled) (entries wide : Waiting) (capacity : ℕ) : Type 0 where
  pub nodes_capacity : nodes.capacity ≡ capacity
  pub entries_capacity : entries.capacity ≡ capacity
  pub wide_capacity : wide.capacity ≡ capacity
  pub few : length (queued (keys_in nodes) entries.items wide.items) ≤ capacity
  pub low : capacity < 2 ^ 32
  pub high : AllByRecursion (λ x. 2 ^ 64 ≤ x.score) wide.items

-- ---- in a heap

-- it is a heap with this capacity, and holds at most that many items
pub record IsKept {X A : Type 0} (cmp : X → X → Ordering) (heap : BinaryHeap X A) (capacity : ℕ) : Type 0 where
  pub ordered : IsHeap cmp (heap_items heap)
  pub space : capacity ≤ heap_capacity heap
  pub counted : heap_len heap ≡ length (heap_items heap)
  pub few : length (heap_items heap) ≤ capacity

-- ---- what a search without a queue finds

-- ids of entries of score 0, keys of those of other scores of one word, and the wide
abbrev pub hits_in : (ids : List (Reverse ℤ)) → (keys : List (Reverse ℕ)) → (wide : List Item) → List Item
hits_in ids keys wide = put_all item_cmp (in_order zero_item ids) (put_all item_cmp (in_order entry_item keys) wide)

-- the lowest id is the last of a sorted list
abbrev pub id_cmp : Reverse ℤ → Reverse ℤ → Ordering
id_cmp i j = int_cmp j.0 i.0

-- ys are the first `count` of xs or more, in any order: none of the others comes before one of them
pub record AreFirst {X : Type 0} (item : X → Item) (count : ℕ) (xs ys : List X) : Type 0 where
  pub others : List X
  pub same : IsPermutation xs (ys ++ others)
  pub behind : AllByRecursion (λ z. IsLast item z ys) others
  pub many : (others ≡ []) ⊎ (count ≤ length ys)

-- an element up to a bound
abbrev pub is_upto : {X : Type 0} → (X → X → Ordering) → (bound : X) → Reverse X → Bool
is_upto cmp bound x = not (is_gt (cmp x.0 bound))

-- all of xs, or those up to a bound, which are `count` or more
abbrev pub IsCut : {X : Type 0} → (X → X → Ordering) → (count : ℕ) → (xs ys : List (Reverse X)) → Type 0
IsCut {X} cmp count xs ys = (ys ≡ xs) ⊎ ((bound : X) × ((ys ≡ filter (is_upto cmp bound) xs) × (count ≤ length ys)))

-- the same elements, in order
pub record IsPutInOrder {X A : Type 0} (cmp : X → X → Ordering) (old new : Vec X A) : Type 0 where
  pub sorted : IsSorted cmp new.items
  pub same : IsPermutation old.items new.items
  pub capacity : vec_capacity new ≡ vec_capacity old

-- sorted or not; each part has the capacity, and together they hold at most that many
pub record HasHits {A B : Type 0} (ids : Vec (Reverse ℤ) A) (keys : Vec (Reverse ℕ) B) (wide : Waiting)
    (is_sorted : Bool) (capacity : ℕ) : Type 0 where
  pub ids_sorted : is_sorted ≡ true → IsSorted id_cmp ids.items
  pub keys_sorted : is_sorted ≡ true → IsSorted key_cmp keys.items
  pub ids_capacity : capacity ≤ vec_capacity ids
  pub keys_capacity : capacity ≤ vec_capacity keys
  pub wide_capacity : wide.capacity ≡ capacity
  pub few : length (hits_in ids.items keys.items wide.items) ≤ capacity
  pub above : AllByRecursion (λ x. 0 < x.score) (in_order entry_item keys.items)
  pub high : AllByRecursion (λ x. 2 ^ 64 ≤ x.score) wide.items
  pub entries : AllEntries wide.items
