-- How large the numbers of a search and of a count are.
use Rattle.std.proofs.Common.{◌≡◌, ◌<◌, ◌≤◌, ◌+◌, ◌*◌, ◌^◌, ℕ, zero, suc, Bool, true, cond, List, [], ◌∷◌, length, refl}
use Rattle.std.proofs.{Common.{◌∙◌, ap, arith, length-append}, lemmas.Bool.Decides.{nat_tests}}
use Rattle.std.proofs.lemmas.{List.{Sorted.{length_permutation}, Sums.{sum_by-cons}}, Nat.{mul-le}}
use Rattle.std.specs.List.{AllByRecursion, flat_map, sum_by}
use Rattle.rt_geo.specs.{Laws.{Meaning}, declared.geometry.Verdict.{Verdict}}
use Rattle.rt_tree.specs.Packed.{Packed, IsSound, IsSubtree, child_nodes, entries_under, node_at}
use Rattle.rt_tree.specs.declared.tree.Node.{Node}
use Rattle.rt_search.specs.{Items.{item_at}, Progress.{held, size_at, work_at, work_left}, Remaining.{AllSound}}
use Rattle.rt_search.specs.{Remaining.{height_at, verdict_on}, Work.{info_of_node, its_children, one_node}}
use Rattle.rt_search.specs.{Work.{reached_from_root, reached}, declared.item.{Item.{Item}, WaitingNode.{WaitingNode}}}
use Rattle.rt_search.proofs.{Children.{part_length}, Elements.{all_map}}
use Rattle.rt_search.specs.declared.item.Place.TheVariants as place

-- ---- sizes

positive_sum : (ks : List Node) → AllByRecursion (λ k. 0 < k.size) ks → length ks ≤ sum_by (λ k. k.size) ks
positive_sum [] a = omega arith
positive_sum (k ∷ ks) a = omega (arith, sum_by-cons (λ (k : Node). k.size) k ks, positive_sum ks a.1)

-- a node has an entry under it, and no fewer than it has children
pub size_counts : (t : Packed) (h : ℕ) (n : Node) → IsSubtree t h n → (0 < n.size) × (n.count ≤ n.size)
size_counts t zero n s = grind arith
size_counts t (suc h) n s =
    let sum = positive_sum (child_nodes t n)
    (all_map (IsSubtree t h) (λ k. 0 < k.size) (λ k b. (size_counts t h k b).0) (child_nodes t n) s.below) in
    grind (arith, part_length)

sizes_under : (t : Packed) (h : ℕ) → ((k : Node) → IsSubtree t h k → k.size ≡ length (entries_under t h k))
    → (ks : List Node) → AllByRecursion (IsSubtree t h) ks → sum_by (λ k. k.size) ks
    ≡ length (flat_map (entries_under t h) ks)
sizes_under t h f [] a = refl
sizes_under t h f (k ∷ ks) a =
    let long = length-append (entries_under t h k) (flat_map (entries_under t h) ks) in
    omega (arith, sum_by-cons (λ (k : Node). k.size) k ks, f k a.0, sizes_under t h f ks a.1)

-- a node's size is the number of entries under it
pub size_under : (t : Packed) (h : ℕ) (n : Node) → IsSubtree t h n → n.size ≡ length (entries_under t h n)
size_under t zero n s = grind (arith, part_length)
size_under t (suc h) n s = s.size ∙ sizes_under t h (λ k. size_under t h k) (child_nodes t n) s.below

-- ---- work

-- a node costs no more than its size
abbrev IsFair : Packed → (cost : Node → ℕ) → Type 0
IsFair t cost = (h : ℕ) (n : Node) → IsSubtree t h n → cost n ≤ n.size

pub one_is_fair : (t : Packed) → IsFair t one_node
one_is_fair t h n s = let p = (size_counts t h n s).0 in omega arith

pub count_is_fair : (t : Packed) → IsFair t its_children
count_is_fair t h n s = (size_counts t h n s).1

pub work_cons : (opens : Verdict → Bool) (cost : Node → ℕ) (meaning : Meaning) (t : Packed) (x : Item)
    (xs : List Item) → work_left opens cost meaning t (x ∷ xs)
    ≡ work_at opens cost meaning t x.score x.place + work_left opens cost meaning t xs
work_cons opens cost meaning t x xs = sum_by-cons (λ (y : Item). work_at opens cost meaning t y.score y.place) x xs

module _ (opens : Verdict → Bool) (cost : Node → ℕ) (meaning : Meaning) (t : Packed) (fair : IsFair t cost) where
  each_le : (h : ℕ) → ((k : Node) (v : Verdict) → IsSubtree t h k
      → reached opens cost meaning t h v k ≤ (h + 1) * k.size) → (v : Verdict) (ks : List Node)
      → AllByRecursion (IsSubtree t h) ks
      → sum_by (λ k. let w = meaning.verdict (info_of_node t v k) in cond (opens w) (reached opens cost meaning t h w k) 0)
      ks ≤ (h + 1) * sum_by (λ k. k.size) ks
  each_le h f v [] a = omega arith
  each_le h f v (k ∷ ks) a =
      let w = meaning.verdict (info_of_node t v k) in
      let here = f k w a.0 in
      let sizes = ap (λ n. (h + 1) * n) (sum_by-cons (λ (k : Node). k.size) k ks) in
      let split : cond (opens w) (reached opens cost meaning t h w k) 0 ≤ (h + 1) * k.size = grind arith in
      omega (arith, sum_by-cons {X = Node}, each_le h f v ks a.1)

  work_from_le : (h : ℕ) (n : Node) (v : Verdict) → IsSubtree t h n
      → reached opens cost meaning t h v n ≤ (h + 1) * n.size
  work_from_le zero n v sub = omega (arith, fair zero n sub)
  work_from_le (suc h) n v sub =
      let sizes = ap (λ m. (h + 1) * m) sub.size in
      omega (arith, fair (suc h) n sub, each_le h (λ k w. work_from_le h k w) v (child_nodes t n) sub.below)

  pub work_le : IsSound t → reached_from_root opens cost meaning t ≤ 2 ^ 32
  work_le sound = grind (arith, nat_tests, length_permutation, size_under, mul-le, work_from_le)

  -- opening a node that waits is part of the work
  pub done_upto : (done s : ℕ) (n : WaitingNode) (xs : List Item) → opens (verdict_on s n) ≡ true
      → done + work_left opens cost meaning t (item_at s (place.Node n) ∷ xs) ≡ reached_from_root opens cost meaning t
      → done + cost (node_at t n.number.number) ≤ reached_from_root opens cost meaning t
  done_upto done s n xs open' course =
      let k = node_at t n.number.number in
      let least : cost k ≤ reached opens cost meaning t (height_at t n.number.number) (verdict_on s n) k = grind arith in
      let whole = work_cons opens cost meaning t (item_at s (place.Node n)) xs in
      grind (arith, open')

-- ---- capacity

module _ (meaning : Meaning) (t : Packed) where
  pub held_cons : (x : Item) (xs : List Item) → held t (x ∷ xs) ≡ size_at t x.place + held t xs
  held_cons x xs = sum_by-cons (λ (y : Item). size_at t y.place) x xs

  -- each item stands for an entry of its own
  pub length_le_held : (xs : List Item) → AllSound t meaning xs → length xs ≤ held t xs
  length_le_held [] a = omega arith
  length_le_held (x ∷ xs) a = grind (arith, held_cons, size_counts, length_le_held xs a.1)
