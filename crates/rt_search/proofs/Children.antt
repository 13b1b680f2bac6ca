-- The children of a node, one at a time, and what may be asked about them.
use Rattle.std.proofs.Common.{◌≡◌, ◌<◌, ◌≤◌, ◌+◌, ◌-◌, ◌^◌, ℕ, zero, suc, true, List, length, map, slice_get, Some}
use Rattle.std.proofs.{Common.{take, drop, get_or, refl, sym, ◌∙◌, ap, arith, rules}, lemmas.List.{get_or-map}}
use Rattle.std.proofs.lemmas.List.{get_or-take, get_or-drop, get_or_default, length-map, length-take, length-drop}
use Rattle.std.proofs.lemmas.{List.{take_all, Elements.{All-from_recursion}}, Option.{slice_get-get_or}}
use Rattle.rt_geo.specs.{Boxes.{IsRect, inside, plane}, Entries.{HasBox, HasLayer}, Laws.{Meaning, Extent, IsHonest}}
use Rattle.rt_geo.specs.{Laws.{IsPart, IsQuestion, extent_of, extent_of_entry}, Layers.{HasSome}}
use Rattle.rt_geo.specs.Lemmas.{Laws.{AllAccepted-part, IsPart-box}}
use Rattle.rt_geo.specs.declared.{entry.Entry.{Entry}, geometry.{Info.{Info}, Verdict.{Verdict}}}
use Rattle.rt_tree.specs.{Entries.{IsTable}, Leaves.{without_layer}, Packed.{Packed, IsInnerNode, IsLeafNode, IsSound}}
use Rattle.rt_tree.specs.Packed.{IsSubtree, child_entries, child_nodes, extent_of_node, node_at, root_of}
use Rattle.rt_tree.specs.{PlainNodes.{without_layers}, declared.entries.LeafEntry.{LeafEntry}}
use Rattle.rt_tree.specs.declared.{nodes.PlainNode.{PlainNode}, tree.Node.{Node}}
use Rattle.rt_search.specs.{Joining.{info_of_child, no_entry}, Remaining.{IsBelow, IsOpenable, height_at}}
use Rattle.rt_search.specs.Work.{info_of_node, info_under}
use Rattle.rt_search.proofs.Answering.{IsEntryInside}

-- ---- a part of a list

pub part_length : {X : Type 0} (xs : List X) (first count : ℕ) → first + count ≤ length xs
    → length (take count (drop first xs)) ≡ count
part_length xs first count h = simp (length-take, length-drop) (omega arith)

pub part_at : {X : Type 0} (xs : List X) (first count i : ℕ) (d : X) → i < count
    → get_or (take count (drop first xs)) i d ≡ get_or xs (first + i) d
part_at xs first count i d h = get_or-take count (drop first xs) i d h ∙ get_or-drop first xs i d

-- ---- an entry under a node of level 1

pub record IsLeafAt (t : Packed) (n : Node) (i : ℕ) (e : Entry) : Type 0 where
  pub place : i < length (child_entries t n)
  pub is : e ≡ get_or (child_entries t n) i e
  pub within : IsPart (extent_of_entry e) (extent_of_node n)
  pub box : HasBox e
  pub few : HasLayer e
  pub found : slice_get t.entries (n.first + i) ≡ Some e

pub leaf_at : (t : Packed) (n : Node) (i : ℕ) → IsTable t.entries → IsLeafNode t n → i < n.count
    → IsLeafAt t n i (get_or (child_entries t n) i no_entry)
leaf_at t n i table s lt =
    let e = get_or (child_entries t n) i no_entry in
    let here : i < length (child_entries t n) = search (rules, part_length) in
    let inside : n.first + i < length t.entries = omega arith in
    let read : get_or t.entries (n.first + i) e ≡ e = grind (arith, part_at, get_or_default) in
    let within = All-from_recursion (IsEntryInside (extent_of_node n)) (child_entries t n) s.within i no_entry here in
    search (rules, IsPart-box, get_or_default, slice_get-get_or)

-- how many entries are lent
pub entries_count : (t : Packed) (n : Node) (lent : List LeafEntry) → IsLeafNode t n
    → lent ≡ map without_layer (child_entries t n) → length lent ≡ n.count
entries_count t n lent s entries = grind (arith, length-map, part_length)

-- an entry that is read among them
pub record IsLeafRead (t : Packed) (n : Node) (i : ℕ) (x : LeafEntry) (e : Entry) : Type 0 where
  pub at : IsLeafAt t n i e
  pub is : x ≡ without_layer e

pub leaf_read : (t : Packed) (n : Node) (i : ℕ) (x : LeafEntry) (lent : List LeafEntry) → IsTable t.entries
    → IsLeafNode t n → lent ≡ map without_layer (child_entries t n) → i < length lent → x ≡ get_or lent i x
    → IsLeafRead t n i x (get_or (child_entries t n) i no_entry)
leaf_read t n i x lent table s entries lt read =
    let at = leaf_at t n i table s (search (rules, entries_count)) in
    record { at = at; is = search (rules, get_or-map) }

-- ---- a child of a higher node

pub subtree_level : (t : Packed) (h : ℕ) (n : Node) → IsSubtree t h n → n.level ≡ suc h
subtree_level t zero n s = s.level
subtree_level t (suc h) n s = s.level

subtree_box : (t : Packed) (h : ℕ) (n : Node) → IsSubtree t h n
    → IsRect n.bounds × (inside n.bounds plane ≡ true) × HasSome n.layers
subtree_box t h n s = grind arith

-- a node above level 1
pub inner_at : (t : Packed) (h : ℕ) (n : Node) → IsSubtree t h n → 2 ≤ n.level → h ≡ suc (h - 1)
    × IsInnerNode t (h - 1) (IsSubtree t (h - 1)) n
inner_at t zero n s level = absurd (omega arith)
inner_at t (suc h) n s level = let same : suc h - 1 ≡ h = omega arith in rw same (refl, s)

-- a node of level 1
pub leaf_node : (t : Packed) (h : ℕ) (n : Node) → IsSubtree t h n → n.level ≡ 1 → (h ≡ 0) × IsLeafNode t n
leaf_node t zero n s e = (refl, s)
leaf_node t (suc h) n s e = absurd (omega arith)

-- the child whose number is k
pub record IsChild (t : Packed) (n : Node) (h i k : ℕ) : Type 0 where
  pub place : i < length (child_nodes t n)
  pub number : k < length t.nodes
  pub is : node_at t k ≡ get_or (child_nodes t n) i (node_at t k)
  pub tree : IsSubtree t (height_at t k) (node_at t k)
  pub within : IsPart (extent_of_node (node_at t k)) (extent_of_node n)
  pub height : height_at t k ≡ h
  pub level : 0 < (node_at t k).level
  pub lower : (node_at t k).level < n.level

pub child : (t : Packed) (number : ℕ) → IsSubtree t (height_at t number) (node_at t number)
    → 2 ≤ (node_at t number).level → (i : ℕ) → i < (node_at t number).count
    → IsChild t (node_at t number) (height_at t number - 1) i ((node_at t number).first + i)
child t number sub level i lt =
    let n = node_at t number in
    let h = height_at t number - 1 in
    let s = (inner_at t (height_at t number) n sub level).1 in
    let k = node_at t (n.first + i) in
    let here : i < length (child_nodes t n) = search (rules, part_length) in
    let is : get_or (child_nodes t n) i k ≡ k = search (rules, part_at, get_or_default) in
    let IsWithin = λ (m : Node). IsPart (extent_of_node m) (extent_of_node n) in
    let tree = rw is at (All-from_recursion (IsSubtree t h) (child_nodes t n) s.below i k here) in
    let within = rw is at (All-from_recursion IsWithin (child_nodes t n) s.within i k here) in
    search (rules, subtree_level, subtree_box)

-- a child that was read and is asked about
pub record IsChecked (t : Packed) (number i k : ℕ) (x : PlainNode) (v : Verdict) (info : Info) : Type 0 where
  pub few : i < (node_at t number).count
  pub at : k ≡ (node_at t number).first + i
  pub child : IsChild t (node_at t number) (height_at t number - 1) i k
  pub is : x ≡ without_layers (node_at t k)
  pub info_is : info ≡ info_of_node t v (node_at t k)

-- a node above level 1 that was read, with its children
pub record HasChildren (t : Packed) (number : ℕ) (n : Node) (children : List PlainNode) : Type 0 where
  pub tree : IsSubtree t (height_at t number) (node_at t number)
  pub is : n ≡ node_at t number
  pub high : 2 ≤ (node_at t number).level
  pub lent : children ≡ map without_layers (child_nodes t (node_at t number))
  pub count : length children ≡ (node_at t number).count
  pub inside : n.first + length children ≤ length t.nodes

module _ {t : Packed} {meaning : Meaning} {number : ℕ} {v : Verdict}
    (opened : IsOpenable t meaning number v) {n : Node} (is : n ≡ node_at t number) (above : n.level ≡ 1 → ⊥) where
  pub children_inside : n.first + n.count ≤ length t.nodes
  children_inside = search (rules, subtree_level)

  pub is_high : 2 ≤ (node_at t number).level
  is_high = search (rules, subtree_level)

  pub children_of : {children : List PlainNode} → children ≡ map without_layers (child_nodes t n)
      → HasChildren t number n children
  children_of lent = search (rules, subtree_level, length-map, part_length)

-- a node above level 1 isn't of that level
pub not_low : {n m : Node} → n ≡ m → 2 ≤ m.level → n.level ≡ 1 → ⊥
not_low is high low = omega (arith, ap (λ n. n.level) is)

pub asked : {t : Packed} {number : ℕ} {n : Node} {children : List PlainNode} → HasChildren t number n children → (i : ℕ)
    (v : Verdict) {k : ℕ} {x : PlainNode} {whole : Node} {info : Info} → i < length children
    → x ≡ get_or children i x → k ≡ n.first + i → whole ≡ node_at t k
    → info ≡ info_under (root_of t).level v (record { bounds = x.bounds; layers = whole.layers }) (n.level - 1)
    → IsChecked t number i k x v info
asked here i v lt read number_is whole_is info_is = search (rules, child, get_or-map)

-- all children of a node
pub all_children : (t : Packed) (number : ℕ) → IsSubtree t (height_at t number) (node_at t number)
    → 2 ≤ (node_at t number).level → (i : ℕ) → (node_at t number).count ≤ i
    → take i (child_nodes t (node_at t number)) ≡ child_nodes t (node_at t number)
all_children t number s level i le = grind (arith, part_length, inner_at, take_all)

pub height_suc : (t : Packed) (number : ℕ) → IsSubtree t (height_at t number) (node_at t number)
    → 2 ≤ (node_at t number).level → height_at t number ≡ suc (height_at t number - 1)
height_suc t number s level = (inner_at t (height_at t number) (node_at t number) s level).0

-- ---- what may be asked

-- what is part of a node may be asked about under the node's verdict
pub honest_child : (meaning : Meaning) (whole : Extent) (info : Info) (v : Verdict)
    → IsBelow meaning whole v → info.parent_within ≡ v.within → IsPart (extent_of info) whole
    → IsHonest meaning.accepts info
honest_child meaning whole info v below reported part = λ full.
    AllAccepted-part meaning.accepts (extent_of info) whole part (below.full (sym reported ∙ full))

module _ (meaning : Meaning) (t : Packed) (sound : IsSound t) (v : Verdict) (small : v.score < 2 ^ 128) where
  pub entry_question : (n : Node) (e : Entry) (i : ℕ) → IsBelow meaning (extent_of_node n) v → IsLeafAt t n i e
      → IsQuestion meaning.accepts (info_of_child t v e)
  entry_question n e i below at = search (rules, honest_child)

  pub node_question : (n : Node) (h i k : ℕ) → n.level ≤ 24 → IsBelow meaning (extent_of_node n) v
      → IsChild t n h i k → IsQuestion meaning.accepts (info_of_node t v (node_at t k))
  node_question n h i k low below at =
      record {
        well_formed = search (rules, subtree_box);
        honest = honest_child meaning (extent_of_node n) (info_of_node t v (node_at t k)) v below refl at.within;
      }
