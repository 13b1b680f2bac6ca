-- The loops that put items behind those that are packed, and make the nodes over them.
use Rattle.std.proofs.Common.{◌≡◌, ◌<◌, ◌≤◌, ◌+◌, ◌^◌, ℕ, suc, Ordering, Some, List, [], ◌∷◌, ◌++◌, length, map, take, drop}
use Rattle.std.proofs.Common.{ℤ, get_or, slice_get, min, refl, sym, ◌∙◌, ap, subst, arith, append_assoc, inl, inr}
use Rattle.std.proofs.lemmas.{Int.{ints}, List.{drop_at, take_at}, Option.{slice_get_cases}}
use Rattle.std.proofs.lemmas.List.{append-nil, length-append, take-append-drop, take_all, take_more}
use Rattle.std.proofs.lemmas.List.Elements.{All-drop, All-take, filter_map-append}
use Rattle.std.proofs.lemmas.List.Sorted.{IsPermutation-trans, length_permutation, sum_by-IsPermutation}
use Rattle.std.proofs.lemmas.List.Sums.{fold_push, sum_by-append, sum_by_from, sum_by_push}
use Rattle.std.specs.{Int.{int_min}, List.{All, fold, sum_by}}
use Rattle.rt_tree.proofs.{ChunkLemmas.{chunks-front, chunks-nil}, Soundness.{sum_by-ones}}
use Rattle.rt_tree.proofs.TileLemmas.{groups-chunks, groups-moved}
use Rattle.rt_geo.specs.{Boxes.{Rect, hull}, Laws.{Extent}, Layers.{no_layers, union}, declared.layers.Layers.{Layers}}
use Rattle.rt_tree.specs.{Packed.{union_of}, Packing.{chunks, groups, joined, node_over, nodes_over}, declared.tree.Node.{Node}}
use Rattle.rt_tree.specs.SortKeys.{ArePackable, box_of, place_of, items_at, with_child}

-- ---- the items that keys tell

module _ {X : Type 0} (items : List X) where
  -- a key tells an item
  abbrev pub Tells : ℕ → Type 0
  Tells key = place_of key < length items

  pub items_at-append : (keys more : List ℕ) → items_at items (keys ++ more) ≡ items_at items keys ++ items_at items more
  items_at-append keys more = filter_map-append (λ key. slice_get items (place_of key)) keys more

  -- as many as keys
  pub length-items_at : (keys : List ℕ) → All Tells keys → length (items_at items keys) ≡ length keys
  length-items_at [] tell = refl
  length-items_at (key ∷ keys) tell = elim (slice_get_cases items (place_of key)).1 [
    | inl h ↦ rw h.2 (ap (λ n. suc n) (length-items_at keys (λ k d h. tell (suc k) d (omega arith))))
    | inr h ↦ absurd (omega (arith, h.0, tell 0 0 (omega arith)))
  ]

  -- with one key more
  pub items_at_next : (keys : List ℕ) (i : ℕ) (x : X) → i < length keys → slice_get items (place_of (get_or keys i 0)) ≡ Some x
      → items_at items (take (i + 1) keys) ≡ items_at items (take i keys) ++ x ∷ []
  items_at_next keys i x there is = ap (items_at items) (take_more keys i 0 there) ∙ items_at-append (take i keys) (get_or keys i 0 ∷ [])
      ∙ rw is refl

  -- what the first of them weigh with the next
  pub items_at-weight : (size : X → ℕ) (keys : List ℕ) (i : ℕ) (x : X) → i < length keys
      → slice_get items (place_of (get_or keys i 0)) ≡ Some x
      → sum_by size (items_at items (take i keys)) + size x ≤ sum_by size (items_at items keys)
  items_at-weight size keys i x there is =
      let front = take (i + 1) keys in
      let whole : sum_by size (items_at items keys) ≡ sum_by size (items_at items front) + sum_by size
      (items_at items (drop (i + 1) keys)) = ap (λ ks. sum_by size (items_at items ks)) (sym (take-append-drop (i + 1) keys))
      ∙ ap (sum_by size) (items_at-append front (drop (i + 1) keys))
      ∙ sum_by-append size (items_at items front) (items_at items (drop (i + 1) keys)) in
      let next : sum_by size (items_at items front) ≡ sum_by size (items_at items (take i keys)) + size x =
      ap (sum_by size) (items_at_next keys i x there is) ∙ sum_by_push size (items_at items (take i keys)) x in
      omega arith

-- ---- the node over the items of a tile

same_hull : (a : Rect) → hull a a ≡ a
same_hull a =
    let same : (z : ℤ) → int_min z z ≡ z = λ z. grind (arith, ints) in
    simp same

module _ {X : Type 0} (extent : X → Extent) (size : X → ℕ) where
  -- a node with items behind its children
  abbrev pub with_children : Node → List X → Node
  with_children = fold (with_child extent size)

  with_children-is : (node : Node) (xs : List X) → with_children node xs ≡ record node {
    layers = fold union node.layers (map (λ x. (extent x).layers) xs);
    bounds = fold hull node.bounds (map (λ x. (extent x).bounds) xs);
    size = fold (λ n x. n + size x) node.size xs;
    count = fold (λ n _. n + 1) node.count xs;
  }
  with_children-is node [] = refl
  with_children-is node (x ∷ xs) = with_children-is (with_child extent size node x) xs

  -- what the first of some items weigh with the next
  pub next_fits : (items : List X) (keys : List ℕ) (i : ℕ) (x : X) (start node : Node) → i < length keys
      → slice_get items (place_of (get_or keys i 0)) ≡ Some x → start.size ≡ 0
      → node ≡ with_children start (items_at items (take i keys)) → node.size + size x ≤ sum_by size (items_at items keys)
  next_fits items keys i x start node there at empty is = omega (
    arith,
    items_at-weight items size keys i x there at,
    ap (λ n. n.size) is,
    ap (λ n. n.size) (with_children-is start (items_at items (take i keys))),
    sum_by_from size start.size (items_at items (take i keys)),
  )

  -- one more of them is packed, and is a child of the node
  pub tile_more : (items : List X) (keys : List ℕ) (i : ℕ) (x : X) (start node : Node) (before packed : List X)
      → i < length keys → slice_get items (place_of (get_or keys i 0)) ≡ Some x
      → node ≡ with_children start (items_at items (take i keys)) → packed ≡ before ++ items_at items (take i keys)
      → (with_child extent size node x ≡ with_children start (items_at items (take (i + 1) keys)))
      × (packed ++ x ∷ [] ≡ before ++ items_at items (take (i + 1) keys))
  tile_more items keys i x start node before packed there at is packed_is =
      rw (items_at_next items keys i x there at, is, packed_is) (
        sym (fold_push (with_child extent size) start (items_at items (take i keys)) x),
        append_assoc before (items_at items (take i keys)) (x ∷ []),
      )

  -- a node without children, with those of a tile
  pub over_tile : (items : List X) (keys : List ℕ) (i level first number : ℕ) (x : X) (empty : Layers) (box : Rect)
      → 0 < length keys → length keys ≤ i → slice_get items (place_of (get_or keys 0 0)) ≡ Some x
      → empty ≡ no_layers → box ≡ box_of extent x → first ≡ number
      → with_children (record { layers = empty; bounds = box; first = first; size = 0; count = 0; level = level })
      (items_at items (take i keys)) ≡ node_over extent size level number (items_at items keys)
  over_tile items [] i level first number x empty box some all at none around is = absurd (omega arith)
  over_tile items (key ∷ keys) i level first number x empty box some all at none around is =
      let others = items_at items keys in
      let over : Rect → ℕ → Node = λ b n. record {
        layers = union_of (map (λ y. (extent y).layers) (x ∷ others));
        bounds = fold hull b (map (λ y. (extent y).bounds) others);
        first = number;
        size = sum_by size (x ∷ others);
        count = n;
        level = level;
      } in
      rw (take_all i (key ∷ keys) all, at, none, around, is)
      (with_children-is (record {
        layers = no_layers;
        bounds = (extent x).bounds;
        first = number;
        size = 0;
        count = 0;
        level = level;
      }) (x ∷ others) ∙ ap (λ b. over b (sum_by (λ _. 1) (x ∷ others))) (same_hull (extent x).bounds)
      ∙ ap (over (extent x).bounds) (sum_by-ones (x ∷ others)))

-- ---- the loop over tiles

All-front : {X : Type 0} (P : X → Type 0) (front behind : List X) → All P (front ++ behind) → All P front
All-front P front behind all =
    subst (All P) (take_at front behind (length front) refl) (All-take P (length front) (front ++ behind) all)

All-behind : {X : Type 0} (P : X → Type 0) (front behind : List X) → All P (front ++ behind) → All P behind
All-behind P front behind all =
    subst (All P) (drop_at front behind (length front) refl) (All-drop P (length front) (front ++ behind) all)

module _ {X : Type 0} (items : List X) (extent : X → Extent) (size : X → ℕ) (level fanout : ℕ) where
  -- the items of the first keys are packed, and the nodes over them made: those of the later keys are still to come
  pub record IsLevelPart (all_packed : List X) (all_nodes : List Node) (packed : List X) (nodes : List Node)
      (later : List ℕ) : Type 0 where
    pub tell : All (Tells items) later
    pub weight : sum_by size (items_at items later) < 2 ^ 32
    pub numbers : length packed + length later < 2 ^ 32
    pub packed_are : packed ++ items_at items later ≡ all_packed
    pub nodes_are : nodes ++ nodes_over extent size level (length packed) (chunks fanout (items_at items later)) ≡ all_nodes

  -- before the first tile
  pub level_first : (box : X → Rect) (has_layers : X → Type 0) (order : ℕ → ℕ → Ordering) (in_order packed : List X)
      (keys : List ℕ) → ArePackable box has_layers size order in_order items → 2 ≤ fanout
      → items_at items keys ≡ joined (groups box fanout in_order) → All (Tells items) keys
      → length packed + length items < 2 ^ 32
      → IsLevelPart (packed ++ joined (groups box fanout in_order)) (nodes_over extent size level (length packed)
      (groups box fanout in_order)) packed [] keys
  level_first box has_layers order in_order packed keys packable several are tell numbers =
      let ordered = joined (groups box fanout in_order) in
      let moved = IsPermutation-trans _ _ _ packable.moved (groups-moved box in_order fanout several) in
      record {
        tell = tell;
        weight = omega (arith, ap (sum_by size) are, sum_by-IsPermutation size items ordered moved, packable.weight);
        numbers = omega (arith, ap length are, length-items_at items keys tell, length_permutation items ordered moved, numbers);
        packed_are = ap (λ l. packed ++ l) are;
        nodes_are = ap (nodes_over extent size level (length packed)) (ap (chunks fanout) are
            ∙ sym (groups-chunks box in_order fanout (omega arith)));
      }

  -- what is required of the next tile: what its keys tell, and what that weighs
  pub next_tile : (all_packed : List X) (all_nodes : List Node) (packed : List X) (nodes : List Node)
      (keys tile later : List ℕ) → IsLevelPart all_packed all_nodes packed nodes keys → keys ≡ tile ++ later
      → All (Tells items) tile × (sum_by size (items_at items tile) < 2 ^ 32)
  next_tile all_packed all_nodes packed nodes keys tile later part is = (
    All-front (Tells items) tile later (subst (All (Tells items)) is part.tell),
    omega (
      arith,
      part.weight,
      ap (λ ks. sum_by size (items_at items ks)) is,
      ap (sum_by size) (items_at-append items tile later),
      sum_by-append size (items_at items tile) (items_at items later),
    ),
  )

  pub level_more : (all_packed : List X) (all_nodes : List Node) (packed packed' : List X) (nodes nodes' : List Node)
      (keys tile later : List ℕ) (node : Node) → 0 < fanout → IsLevelPart all_packed all_nodes packed nodes keys
      → keys ≡ tile ++ later → length tile ≡ min fanout (length keys) → 0 < length keys
      → packed' ≡ packed ++ items_at items tile → node ≡ node_over extent size level (length packed) (items_at items tile)
      → nodes' ≡ nodes ++ node ∷ [] → IsLevelPart all_packed all_nodes packed' nodes' later
  level_more all_packed all_nodes packed packed' nodes nodes' keys tile later node some part is long there packed_is node_is
      nodes_is =
      let all = subst (All (Tells items)) is part.tell in
      let here = All-front (Tells items) tile later all in
      let behind = All-behind (Tells items) tile later all in
      let group = items_at items tile in
      let rest = items_at items later in
      let whole : items_at items keys ≡ group ++ rest = ap (items_at items) is ∙ items_at-append items tile later in
      let count = length-items_at items tile here in
      let count_all : length (group ++ rest) ≡ length keys = ap length (sym whole)
      ∙ length-items_at items keys part.tell in
      let cut : chunks fanout (items_at items keys) ≡ group ∷ chunks fanout rest = ap (chunks fanout) whole
      ∙ chunks-front fanout group rest some (omega arith)
      (count ∙ long ∙ ap (min fanout) (sym count_all)) in
      let next : length packed' ≡ length packed + length group = ap length packed_is ∙ length-append packed group in
      record {
        tell = behind;
        weight = omega (arith, part.weight, ap (sum_by size) whole, sum_by-append size group rest);
        numbers = omega (arith, part.numbers, ap length is, length-append tile later);
        packed_are = rw (packed_is, append_assoc packed group rest, ← whole) part.packed_are;
        nodes_are = rw (next, nodes_is, node_is)
            (append_assoc nodes (_ ∷ [])
            (nodes_over extent size level (length packed + length group) (chunks fanout rest))
            ∙ ap (λ gs. nodes ++ nodes_over extent size level (length packed) gs) (sym cut) ∙ part.nodes_are);
      }

  -- without later keys all nodes are made
  pub level_done : (all_packed : List X) (all_nodes : List Node) (packed : List X) (nodes : List Node) (later : List ℕ)
      → length later ≡ 0 → IsLevelPart all_packed all_nodes packed nodes later → nodes ≡ all_nodes
  level_done all_packed all_nodes packed nodes [] none part = sym (append-nil nodes)
      ∙ ap (λ gs. nodes ++ nodes_over extent size level (length packed) gs) (sym (chunks-nil fanout)) ∙ part.nodes_are
  level_done all_packed all_nodes packed nodes (key ∷ later) none part = absurd (omega arith)
