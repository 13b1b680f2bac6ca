use Rattle.std.proofs.Common.{◌≡◌, ◌<◌, ◌≤◌, ◌+◌, ◌-◌, ◌++◌, ◌∷◌, ◌∙◌, [], List, Some, add-one, ap, arith, length, slice_get}
use Rattle.std.proofs.{Common.{subst, sym}, lemmas.{List.{append-nil, nil_from_length}, Option.{get_or_from_slice_get}}}
use Rattle.std.specs.List.{All}
use Rattle.rt_tree.specs.{Packed.{extent_of_node}, SortKeys.{IsInPlane}, declared.tree.Node.{Node}}
use Rattle.rt_tree.proofs.PackCounts.{counted_more, course_more, fewer, nodes_from-last, over_in_plane}
use Rattle.rt_tree.proofs.{SortKeyLemmas.{nodes_packable}, tree.all_nodes.Goals.{then-len-eq1+in_ok-push, else-len-eq1}}
use Rattle.rt_tree.proofs.tree.all_nodes.Goals as goal

-- a single node is the first one
one_node : (nodes : List Node) (n : Node) → length nodes ≡ 1 → slice_get nodes 0 ≡ Some n → nodes ≡ n ∷ []
one_node [] n long is = absurd (omega arith)
one_node (m ∷ []) n long is = ap (λ k. k ∷ []) (get_or_from_slice_get (m ∷ []) 0 n n is)
one_node (m ∷ k ∷ nodes) n long is = absurd (omega arith)

pub pack_level-requires-clause-packable : goal.pack_level-requires-clause-packable
pack_level-requires-clause-packable c =
    let counted = c.levels.invariant.counted in
    nodes_packable c.levels.made (omega (arith, counted.few_nodes, counted.few_levels)) (omega (arith, counted.weight))
    c.levels.invariant.boxes

pub levels-smaller : goal.levels-smaller
levels-smaller c =
    let made = c.levels.made in
    let more : 1 < length made = omega (arith, c.levels-test.true, c.len.ensures) in
    omega (
      arith,
      ap length (rw (add-one c.levels.level) at c.in_ok-made.ensures.nodes),
      fewer c.args.fanout c.requires.several c.levels.level (length c.levels.nodes) (length made - 1) made more
          (omega (arith, more)),
    )

pub levels-preserved : goal.levels-preserved
levels-preserved c =
    let several = c.requires.several in
    let level = c.levels.level in
    let nodes = c.levels.nodes in
    let made = c.levels.made in
    let more : 1 < length made = omega (arith, c.levels-test.true, c.len.ensures) in
    let boxes = over_in_plane extent_of_node (λ n. n.size) c.args.fanout (level + 1) (length nodes) made several
    c.levels.invariant.boxes in
    record {
      counted = rw (c.in_ok-made.ensures.packed, c.in_ok-made.ensures.nodes, add-one level)
          (counted_more c.args.fanout several level nodes made c.levels.invariant.counted more);
      boxes = subst (All (λ n. IsInPlane n.bounds)) (sym c.in_ok-made.ensures.nodes) boxes;
      course = rw (c.in_ok-made.ensures.packed, c.in_ok-made.ensures.nodes, add-one level)
          (course_more c.args.fanout several level nodes made _ more c.levels.invariant.course);
    }

pub returns : goal.returns
returns c =
    let made = c.levels.made in
    let done = λ (last : length made ≤ 1). ap (λ l. c.levels.nodes ++ l) (sym (nodes_from-last c.args.fanout
    c.requires.several (length made) c.levels.level (length c.levels.nodes) made last)) ∙ c.levels.invariant.course in
    elim c.if-len-eq1.branch [
      | then-len-eq1+in_ok-push w ↦
          w.nodes-is ∙ w.in_ok-push.ensures
          ∙ ap (λ l. c.levels.nodes ++ l) (sym (one_node made w.get.result (omega (arith, c.len-2.ensures, w.if-len-eq1.true))
          w.get.ensures)) ∙ done (omega (arith, c.len-2.ensures, w.if-len-eq1.true))
      | else-len-eq1 w ↦
          let none : length made ≡ 0 = omega (arith, c.len-2.ensures, c.len.ensures, w.if-len-eq1.false, c.levels-test.false) in
          w.nodes-is ∙ sym (append-nil c.levels.nodes) ∙ ap (λ l. c.levels.nodes ++ l) (sym (nil_from_length made none))
          ∙ done (omega arith)
    ]
