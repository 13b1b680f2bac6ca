-- The tree that is packed over a table is sound.
use Rattle.std.proofs.Common.{◌≡◌, ◌<◌, ◌≤◌, ◌+◌, ◌-◌, ℕ, zero, suc, List, [], ◌∷◌, ◌++◌, length, map, drop}
use Rattle.std.proofs.Common.{refl, sym, ◌∙◌, ap, subst, arith, length-append, IsPermutation, slice_get, Some}
use Rattle.std.proofs.lemmas.List.{append-nil, get_or_push, length-drop, Elements.{All-from_recursion}}
use Rattle.std.proofs.lemmas.List.Sorted.{All-permutation, IsPermutation-refl, IsPermutation-sym}
use Rattle.std.proofs.lemmas.{List.Sorted.{IsPermutation-trans, length_permutation}, Option.{get_or_from_slice_get}}
use Rattle.std.specs.{Int.{div_ceil}, List.{AllByRecursion, flat_map}, Ordering.{int_cmp, on}}
use Rattle.rt_geo.specs.{Entries.{HasBox, HasLayer}, Laws.{extent_of_entry}, declared.entry.Entry.{Entry}}
use Rattle.rt_tree.specs.{Entries.{IsTable}, Levels.{level_by_level, level_sizes}, Packed.{IsSubtree}, Sorting.{sorted}}
use Rattle.rt_tree.specs.Packed.{entries_under, extent_of_node, no_node, node_at, nodes_under, root_of, Packed}
use Rattle.rt_tree.specs.Packed.{IsSound, IsWhole}
use Rattle.rt_tree.specs.{Packing.{groups, joined, nodes_from, nodes_over, pack_of}, declared.tree.Node.{Node}}
use Rattle.rt_tree.proofs.Children.{AreOnce, AreSubtrees, nodes_once, once_first, once_more}
use Rattle.rt_tree.proofs.{EntryLemmas.{distinct-IsPermutation}, TileLemmas.{groups-chunks, groups-moved, groups-nil}}
use Rattle.rt_tree.proofs.LevelLemmas.{div_ceil-positive, sizes_from, sizes_from-step}
use Rattle.rt_tree.proofs.SortingLemmas.{IsPermutation-sorted}
use Rattle.rt_tree.proofs.LevelOrder.{nodes_from-levels, nodes_over-AreOn, sizes_from_first}
use Rattle.rt_tree.proofs.OrderLemmas.{all_append, all_moved, flat_map-IsPermutation}
use Rattle.rt_tree.proofs.PackCounts.{IsCounted, above, all_nodes, counted_more, course, cut, fewer, length-above}
use Rattle.rt_tree.proofs.PackCounts.{leaf_nodes-few, length-groups, nodes_from-last, some_above}
use Rattle.rt_tree.proofs.Soundness.{IsEntry, all_map, chunk_groups, all_under_more, inner-range, leaves_sound, leaves_under}
use Rattle.rt_tree.proofs.Soundness.{length-nodes_over, over_sound, over_under, subtree_more, tree}

level_of : (t : Packed) (h : ℕ) (n : Node) → IsSubtree t h n → n.level ≡ suc h
level_of t zero n s = s.level
level_of t (suc h) n s = s.level

at_its_level : (t : Packed) (h : ℕ) (n : Node) → IsSubtree t h n → IsSubtree t (n.level - 1) n
at_its_level t h n s = subst (λ k. IsSubtree t k n) (let e = level_of t h n s in omega arith) s

module _ (fanout : ℕ) (several : 2 ≤ fanout) (es : List Entry) where
  -- the nodes of the lower levels, numbered, and those of this level, as they were made
  pub record IsBuilt (h : ℕ) (numbered made : List Node) : Type 0 where
    pub nodes : AllByRecursion (IsSubtree (tree fanout es numbered) h) made
    pub every : IsPermutation (flat_map (entries_under (tree fanout es numbered) h) made) es
    pub lower : AreSubtrees (tree fanout es numbered) numbered
    pub once : AreOnce fanout es numbered made
    pub levels : suc h + length (sizes_from fanout (length made)) ≡ length (level_sizes (length es) fanout)

  -- nodes of one level stand behind those of the lower levels
  behind : (h : ℕ) (numbered more : List Node) → AreSubtrees (tree fanout es numbered) numbered
      → AllByRecursion (IsSubtree (tree fanout es numbered) h) more
      → AreSubtrees (tree fanout es numbered) (numbered ++ more)
  behind h numbered more lower here =
      let t = tree fanout es numbered in
      all_append (λ n. IsSubtree t (n.level - 1) n) numbered more lower
      (all_map (IsSubtree t h) (λ n. IsSubtree t (n.level - 1) n) (at_its_level t h) more here)

  -- they are the same in the tree that has them
  with_more : (numbered more ns : List Node) → AreSubtrees (tree fanout es numbered) ns
      → AreSubtrees (tree fanout es (numbered ++ more)) ns
  with_more numbered more = all_map (λ n. IsSubtree (tree fanout es numbered) (n.level - 1) n)
      (λ n. IsSubtree (tree fanout es (numbered ++ more)) (n.level - 1) n)
      (λ n. subtree_more fanout es numbered more (n.level - 1) n)

  -- one more level keeps that
  climb : (h : ℕ) (numbered made : List Node) → 1 < length made → IsBuilt h numbered made
      → IsBuilt (suc h) (numbered ++ joined (cut fanout several made)) (nodes_over extent_of_node (λ n. n.size)
      (suc (suc h)) (length numbered) (cut fanout several made))
  climb h numbered made more b =
      let gs = cut fanout several made in
      let ordered = joined gs in
      let old = tree fanout es numbered in
      let ns = numbered ++ ordered in
      let new = tree fanout es ns in
      let moved = groups-moved (λ (n : Node). n.bounds) made fanout several in
      let here = all_moved (IsSubtree old h) made ordered moved b.nodes in
      let sound = behind h numbered ordered b.lower here in
      let later = all_map (IsSubtree old h) (IsSubtree new h)
      (subtree_more fanout es numbered ordered h) ordered here in
      let same = over_under fanout es ns h gs numbered refl ∙ all_under_more fanout es numbered ordered h ordered
      here in
      record {
        nodes = over_sound fanout es ns h gs numbered refl (chunk_groups fanout (IsSubtree new h) gs (omega arith)
            (groups-chunks (λ (n : Node). n.bounds) made fanout (omega arith))
            (All-from_recursion (IsSubtree new h) ordered later));
        every = subst (λ l. IsPermutation l es) (sym same) (IsPermutation-trans _ _ _ (IsPermutation-sym _ _
            (flat_map-IsPermutation (entries_under old h) made ordered moved)) b.every);
        lower = with_more numbered ordered ns sound;
        once = once_more fanout es h numbered made gs moved sound b.once
            (nodes_over-AreOn extent_of_node (λ n. n.size) (suc (suc h)) (length numbered) gs);
        levels = omega (
          arith,
          b.levels,
          ap length (sizes_from-step fanout (length made) several more),
          ap (λ n. length (sizes_from fanout n)) (length-above fanout several (suc h) (length numbered) made
              (omega arith)),
        );
      }

  -- a tree of these nodes is sound, and whole, if they stand level by level
  abbrev IsFinished : List Node → Type 0
  IsFinished ns = map (λ n. n.level) ns ≡ level_by_level 1 (drop 1 (level_sizes (length es) fanout))
      → IsSound (tree fanout es ns) × IsWhole (tree fanout es ns)

  finished : IsTable es → 0 < length es → (h : ℕ) (numbered : List Node) (r : Node) → IsBuilt h numbered (r ∷ [])
      → IsCounted (suc h) numbered (r ∷ []) → IsFinished (numbered ++ r ∷ [])
  finished table there h numbered r b c levels =
      let ns = numbered ++ r ∷ [] in
      let old = tree fanout es numbered in
      let new = tree fanout es ns in
      let long = length-append numbered (r ∷ []) in
      let is_root : root_of new ≡ r = get_or_push numbered r no_node (length ns - 1) (omega arith) in
      let sound = behind h numbered (r ∷ []) b.lower b.nodes in
      let sub = subtree_more fanout es numbered (r ∷ []) h r b.nodes.0 in
      let level : r.level ≡ suc h = level_of old h r b.nodes.0 in
      let same : flat_map (entries_under old h) (r ∷ []) ≡ entries_under new h r = sym
      (all_under_more fanout es numbered (r ∷ []) h (r ∷ []) b.nodes) ∙ append-nil (entries_under new h r) in
      let whole : IsPermutation (entries_under new (r.level - 1) r) es =
      subst (λ k. IsPermutation (entries_under new k r) es) (omega arith) (subst
      (λ l. IsPermutation l es) same b.every) in
      let some : 0 < length ns = omega arith in (
        record {
          several = several;
          table = table;
          some = (λ _. there, λ _. some);
          root = λ _. subst (λ n. IsSubtree new (n.level - 1) n) (sym is_root) (at_its_level new h r sub);
          every = λ _. subst (λ n. IsPermutation (entries_under new (n.level - 1) n) es) (sym is_root) whole;
          nodes = All-from_recursion (λ n. IsSubtree new (n.level - 1) n) ns (with_more numbered (r ∷ []) ns sound);
          top = subst (λ n. n.level + 1 ≡ length (level_sizes (length es) fanout)) (sym is_root)
              (omega (arith, b.levels));
          few_levels = subst (λ n. n.level ≤ 24) (sym is_root) (omega (arith, c.few_levels));
          few_nodes = omega (arith, c.few_nodes, c.few_levels);
        },
        record {
          entries_once = b.once.entries;
          nodes_once = λ _. subst (λ n. IsPermutation (n ∷ flat_map (nodes_under new) ns) ns) (sym is_root)
              (nodes_once fanout es numbered r sound b.once);
          levels = levels;
        },
      )

  pub sound_from : IsTable es → 0 < length es → (fuel h : ℕ) (numbered made : List Node) → length made ≤ fuel → 0 < length made
      → IsBuilt h numbered made → IsCounted (suc h) numbered made
      → IsFinished (numbered ++ nodes_from fuel fanout (suc h) (length numbered) made)
  sound_from table held fuel h numbered [] few there b c = absurd (omega arith)
  sound_from table held fuel h numbered (r ∷ []) few there b c = subst (λ l. IsFinished (numbered ++ l)) (sym
      (nodes_from-last fanout several fuel (suc h) (length numbered) (r ∷ []) (omega arith)))
      (finished table held h numbered r b c)
  sound_from table held zero h numbered (r ∷ s ∷ made) few there b c = absurd (omega arith)
  sound_from table held (suc fuel) h numbered (r ∷ s ∷ made) few there b c =
      let all = r ∷ s ∷ made in
      let first = length numbered in
      subst IsFinished (course fanout several fuel (suc h) numbered all (omega arith))
      (sound_from table held fuel (suc h) (numbered ++ joined (cut fanout several all)) (above fanout several (suc h) first all)
      (fewer fanout several (suc h) first fuel all (omega arith) few) (some_above fanout several (suc h) first all there)
      (climb h numbered all (omega arith) b) (counted_more fanout several (suc h) numbered all c (omega arith)))

-- ---- the whole tree

-- its entries are the table's, in another order
pub entries-IsPermutation : (fanout : ℕ) (entries : List Entry) → 2 ≤ fanout
    → IsPermutation entries (pack_of fanout entries).entries
entries-IsPermutation fanout entries several =
    let by_id = on (λ (e : Entry). e.id) int_cmp in
    IsPermutation-trans _ _ _ (IsPermutation-sorted by_id entries) (groups-moved (λ (e : Entry). e.bounds)
    (sorted by_id entries) fanout several)

-- what a table's entries have, the same entries have in another order
pub IsTable-IsPermutation : (xs ys : List Entry) → IsPermutation xs ys → IsTable xs → IsTable ys
IsTable-IsPermutation xs ys moved t = record {
  distinct = distinct-IsPermutation xs ys moved t.distinct;
  boxes = All-permutation HasBox xs ys moved t.boxes;
  layers = All-permutation HasLayer xs ys moved t.layers;
  few = omega (arith, t.few, length_permutation xs ys moved);
}

-- a tree without nodes, and without entries
sound_empty : (fanout : ℕ) → 2 ≤ fanout → IsTable [] → IsSound (tree fanout [] []) × IsWhole (tree fanout [] [])
sound_empty fanout several table = (
  record {
    several = several;
    table = table;
    some = (λ h. h, λ h. h);
    root = λ h. absurd (omega arith);
    every = λ h. absurd (omega arith);
    nodes = λ k d h. absurd (omega arith);
    top = refl;
    few_levels = omega arith;
    few_nodes = omega arith;
  },
  record { entries_once = IsPermutation-refl []; nodes_once = λ h. absurd (omega arith); levels = refl },
)

module _ (fanout : ℕ) (several : 2 ≤ fanout) (in_order : List Entry) where
  -- the groups of the entries, the entries in their order, and the nodes of level 1
  abbrev gs : List (List Entry)
  gs = groups (λ e. e.bounds) fanout in_order

  abbrev es : List Entry
  es = joined gs

  abbrev made : List Node
  made = nodes_over extent_of_entry (λ _. 1) 1 0 gs

  moved : IsPermutation in_order es
  moved = groups-moved (λ (e : Entry). e.bounds) in_order fanout several

  packed-some : 0 < length in_order → IsTable es
      → IsSound (tree fanout es (all_nodes fanout made)) × IsWhole (tree fanout es (all_nodes fanout made))
  packed-some there table =
      let long = length_permutation in_order es moved in
      let few = leaf_nodes-few fanout several (λ e. e.bounds) in_order (omega (arith, long, table.few)) in
      let held : 0 < length es = omega (arith, long) in
      let count : length made ≡ div_ceil (length es) fanout =
      length-nodes_over extent_of_entry (λ _. 1) 1 0 gs
      ∙ length-groups (λ (e : Entry). e.bounds) fanout in_order several there
      ∙ ap (λ n. div_ceil n fanout) (sym long) in
      let some : 0 < length made = omega (arith, div_ceil-positive (length es) fanout several held) in
      let on = nodes_over-AreOn extent_of_entry (λ _. 1) 1 0 gs in
      let under = leaves_under fanout es [] gs [] refl in
      let sizes : drop 1 (level_sizes (length es) fanout) ≡ sizes_from fanout (length made) =
      sizes_from_first fanout (length es) several held ∙ ap (sizes_from fanout) (sym count) in
      sound_from fanout several es table held (length made) 0 [] made (omega arith) some
      (record {
        nodes = leaves_sound fanout es [] gs [] refl (chunk_groups fanout IsEntry gs (omega arith) (groups-chunks (λ
            (e : Entry). e.bounds) in_order fanout (omega arith)) (λ i d h. (table.boxes i d h, table.layers i d h)));
        every = subst (λ l. IsPermutation l es) (sym under) (IsPermutation-refl es);
        lower = tt;
        once = once_first fanout es made on under;
        levels = omega (arith, ap length sizes, length-drop 1 (level_sizes (length es) fanout));
      })
      (record {
        few_levels = omega arith;
        few = omega (arith, few.0);
        few_nodes = omega (arith, few.0);
        weight = few.1;
      })
      (nodes_from-levels fanout several (length made) 1 0 made (omega arith) some on
      ∙ ap (level_by_level 1) (sym sizes))

-- a packed tree is sound, and whole
pub pack_of-IsSound : (fanout : ℕ) (entries : List Entry) → 2 ≤ fanout → IsTable entries
    → IsSound (pack_of fanout entries) × IsWhole (pack_of fanout entries)
pack_of-IsSound fanout [] several table =
    rw (groups-nil (λ (e : Entry). e.bounds) fanout) (sound_empty fanout several table)
pack_of-IsSound fanout (e ∷ entries) several table =
    let all = e ∷ entries in
    let by_id = on (λ (e : Entry). e.id) int_cmp in
    packed-some fanout several (sorted by_id all)
    (omega (arith, length_permutation all (sorted by_id all) (IsPermutation-sorted by_id all)))
    (IsTable-IsPermutation all (pack_of fanout all).entries (entries-IsPermutation fanout all several) table)

-- ---- the children of a node

few_under : (t : Packed) (h : ℕ) (n : Node) → IsSubtree t h n → n.count ≤ t.fanout
few_under t zero n s = s.few
few_under t (suc h) n s = s.few

-- no node has more of them than the fanout
pub few_children : (t : Packed) (number : ℕ) (n : Node) → IsSound t → number < length t.nodes
    → slice_get t.nodes number ≡ Some n → n.count ≤ t.fanout
few_children t number n s there is =
    let found = get_or_from_slice_get t.nodes number n no_node is in
    omega (arith, ap (λ m. m.count) found, few_under t _ (node_at t number) (s.nodes number no_node there))

-- a child of a node above level 1 is a node of the tree
pub child_inside : (t : Packed) (number index : ℕ) (n : Node) → IsSound t → number < length t.nodes
    → slice_get t.nodes number ≡ Some n
    → 2 ≤ (node_at t number).level → index < (node_at t number).count → n.first + index < length t.nodes
child_inside t number index n s there is level count =
    let first : (node_at t number).first ≡ n.first = ap (λ m. m.first) (get_or_from_slice_get t.nodes number n no_node is) in
    omega (
      arith,
      inner-range t ((node_at t number).level - 1) (node_at t number) (s.nodes number no_node there) (omega (arith, level)),
    )
