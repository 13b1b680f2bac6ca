-- In a packed tree each node but the root is a child once, and so is each entry.
use Rattle.std.proofs.Common.{◌≡◌, ◌<◌, ◌-◌, ℕ, suc, List, [], ◌∷◌, ◌++◌}
use Rattle.std.proofs.{Common.{length, refl, sym, ◌∙◌, ap, subst, arith, IsPermutation}, lemmas.Grind.{flat_map-append}}
use Rattle.std.proofs.lemmas.{Bool.Decides.{nat_tests}, List.{append-nil}}
use Rattle.std.proofs.lemmas.List.Sorted.{IsPermutation-append, IsPermutation-append_right, IsPermutation-cons}
use Rattle.std.proofs.lemmas.List.Sorted.{IsPermutation-refl, IsPermutation-sym, IsPermutation-to_front, IsPermutation-trans}
use Rattle.std.specs.List.{AllByRecursion, flat_map}
use Rattle.rt_geo.specs.declared.entry.Entry.{Entry}
use Rattle.rt_tree.specs.Packed.{IsSubtree, Packed, child_entries, child_nodes, extent_of_node, nodes_under, right_under}
use Rattle.rt_tree.specs.Packing.{joined, nodes_over}
use Rattle.rt_tree.specs.declared.tree.Node.{Node}
use Rattle.rt_tree.proofs.{LevelOrder.{AreOn}, OrderLemmas.{flat_map-IsPermutation, flat_map-same}}
use Rattle.rt_tree.proofs.Soundness.{children_more, inner-range, over_flat, tree}

flat_map-none : {X Y : Type 0} (f : X → List Y) (P : X → Type 0) → ((x : X) → P x → f x ≡ []) → (xs : List X)
    → AllByRecursion P xs → flat_map f xs ≡ []
flat_map-none f P none [] a = refl
flat_map-none f P none (x ∷ xs) a = rw (none x a.0) (flat_map-none f P none xs a.1)

-- under each of these nodes is what its level asks for
abbrev pub AreSubtrees : Packed → List Node → Type 0
AreSubtrees t = AllByRecursion (λ n. IsSubtree t (n.level - 1) n)

module _ (fanout : ℕ) (es : List Entry) where
  -- more nodes behind change nothing of that
  under_more : (ns more : List Node) (n : Node) → IsSubtree (tree fanout es ns) (n.level - 1) n
      → nodes_under (tree fanout es (ns ++ more)) n ≡ nodes_under (tree fanout es ns) n
  under_more ns more n s =
      let same : 1 < n.level → child_nodes (tree fanout es (ns ++ more)) n ≡ child_nodes (tree fanout es ns) n =
      λ h. children_more fanout es ns more n (inner-range (tree fanout es ns) (n.level - 1) n s (omega arith)) in
      grind (arith, nat_tests, same)

  -- ---- one level after another

  -- the nodes under those that were made so far are those of the lower levels, and the entries are all entries
  pub record AreOnce (numbered made : List Node) : Type 0 where
    pub nodes : IsPermutation (flat_map (nodes_under (tree fanout es numbered)) (numbered ++ made)) numbered
    pub entries : IsPermutation (flat_map (right_under (tree fanout es numbered)) (numbered ++ made)) es

  -- the nodes of level 1
  pub once_first : (made : List Node) → AreOn 1 made → flat_map (child_entries (tree fanout es [])) made ≡ es
      → AreOnce [] made
  once_first made on all = record {
    nodes = subst (λ l. IsPermutation l []) (sym (flat_map-none (nodes_under (tree fanout es [])) (λ n. n.level ≡ 1)
        (λ n e. grind (arith, nat_tests)) made on)) (IsPermutation-refl []);
    entries = subst (λ l. IsPermutation l es) (sym (flat_map-same (right_under (tree fanout es [])) (child_entries
        (tree fanout es [])) (λ n. n.level ≡ 1) (λ n e. grind (arith, nat_tests)) made on ∙ all))
        (IsPermutation-refl es);
  }

  -- one more level
  pub once_more : (h : ℕ) (numbered made : List Node) (gs : List (List Node)) → IsPermutation made (joined gs)
      → AreSubtrees (tree fanout es numbered) (numbered ++ joined gs)
      → AreOnce numbered made
      → AreOn (suc (suc h)) (nodes_over extent_of_node (λ n. n.size) (suc (suc h)) (length numbered) gs)
      → AreOnce (numbered ++ joined gs) (nodes_over extent_of_node (λ n. n.size) (suc (suc h)) (length numbered) gs)
  once_more h numbered made gs moved sound once on =
      let ordered = joined gs in
      let old = tree fanout es numbered in
      let ns = numbered ++ ordered in
      let now = tree fanout es ns in
      let new = nodes_over extent_of_node (λ n. n.size) (suc (suc h)) (length numbered) gs in
      let later = IsPermutation-append_right numbered made ordered moved in
      let over : flat_map (nodes_under now) new ≡ ordered =
      flat_map-same (nodes_under now) (child_nodes now) (λ n. n.level ≡ suc (suc h))
      (λ n e. grind (arith, nat_tests)) new on
      ∙ over_flat extent_of_node (λ n. n.size) (suc (suc h)) ns (child_nodes now) (λ g. g) (λ first g here. here)
      gs numbered refl in
      let same : flat_map (nodes_under now) ns ≡ flat_map (nodes_under old) ns =
      flat_map-same (nodes_under now) (nodes_under old) (λ n. IsSubtree old (n.level - 1) n)
      (under_more numbered ordered) ns sound in
      let below : IsPermutation (flat_map (nodes_under now) ns) numbered =
      subst (λ l. IsPermutation l numbered) (sym same)
      (IsPermutation-trans _ _ _ (IsPermutation-sym _ _ (flat_map-IsPermutation (nodes_under old)
      (numbered ++ made) ns later)) once.nodes) in
      let held : IsPermutation (flat_map (right_under now) ns) es =
      IsPermutation-trans _ _ _ (IsPermutation-sym _ _ (flat_map-IsPermutation (right_under old)
      (numbered ++ made) ns later)) once.entries in
      record {
        nodes = subst (λ l. IsPermutation l ns) (sym (flat_map-append (nodes_under now) ns new
            ∙ ap (λ l. flat_map (nodes_under now) ns ++ l) over))
            (IsPermutation-append (flat_map (nodes_under now) ns) numbered ordered ordered below
            (IsPermutation-refl ordered));
        entries = subst (λ l. IsPermutation l es) (sym (flat_map-append (right_under now) ns new
            ∙ ap (λ l. flat_map (right_under now) ns ++ l) (flat_map-none (right_under now)
            (λ n. n.level ≡ suc (suc h)) (λ n e. grind (arith, nat_tests)) new on)
            ∙ append-nil (flat_map (right_under now) ns))) held;
      }

  -- the root is a child of none
  pub nodes_once : (numbered : List Node) (r : Node) → AreSubtrees (tree fanout es numbered) (numbered ++ r ∷ [])
      → AreOnce numbered (r ∷ [])
      → IsPermutation (r ∷ flat_map (nodes_under (tree fanout es (numbered ++ r ∷ []))) (numbered ++ r ∷ []))
      (numbered ++ r ∷ [])
  nodes_once numbered r sound once =
      let old = tree fanout es numbered in
      let ns = numbered ++ r ∷ [] in
      let now = tree fanout es ns in
      let same = flat_map-same (nodes_under now) (nodes_under old) (λ n. IsSubtree old (n.level - 1) n)
      (under_more numbered (r ∷ [])) ns sound in
      let below = subst (λ l. IsPermutation l numbered) (sym same) once.nodes in
      IsPermutation-trans _ _ _ (IsPermutation-cons r (flat_map (nodes_under now) ns) numbered below)
      (IsPermutation-sym _ _ (IsPermutation-to_front numbered r))
