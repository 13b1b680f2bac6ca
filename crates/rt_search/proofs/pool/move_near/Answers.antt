use Rattle.std.proofs.lemmas.List.Sorted.{IsPermutation-append_left, IsPermutation-append_right, IsPermutation-middle}
use Rattle.std.proofs.Common.{◌<◌, ◌≤◌, [], ◌∷◌, ◌++◌, length, take, ap, sym, ◌∙◌, arith}
use Rattle.std.proofs.lemmas.List.{get_or_default, length-append, take_more}
use Rattle.std.proofs.lemmas.List.Sorted.{IsPermutation-swap_remove, IsPermutation-trans, length_permutation}
use Rattle.std.specs.{BinaryHeap.{heap_items}}
use Rattle.rt_search.specs.Pooling.{score_in}
use Rattle.rt_search.proofs.{Heaps.{on_ok}, Elements.{all_moved}, Pools.{far_more, take-swap_remove}}
use Rattle.rt_search.proofs.pool.move_near.Goals as goal

pub loop-at-preserved-then-score-edge : goal.loop-at-preserved-then-score-edge
loop-at-preserved-then-score-edge c =
    let i = c.loop-at.invariant in
    let near = heap_items c.loop-at.near in
    let far = c.loop-at.far.items in
    let at = c.loop-at.at in
    let inside : at < length far = omega arith in
    let e = c.swap_remove-key.ensures in
    let key = c.swap_remove-key.result in
    let out = rw (← e.items) at (IsPermutation-swap_remove far at key inside e.value) in
    let total = length_permutation _ _ i.same in
    let ok = c.push-pushed.ensures.succeeds (omega (arith, i.near.counted, length-append near far)) in
    let joined = on_ok _ ok c.push-pushed.ensures.permutation in
    let longer = length_permutation _ _ joined in
    let left = length_permutation _ _ out in
    let long = on_ok _ ok c.push-pushed.ensures.len in
    let read = get_or_default far at c.index.result.now key inside in
    let ordered = on_ok _ ok c.push-pushed.ensures.heap_order i.near.ordered in
    let low : score_in key ≤ c.args.edge = grind arith in
    let lows = all_moved (λ k. score_in k ≤ c.args.edge) (key ∷ near) _ joined (low, i.near.low) in
    let before = take-swap_remove far at key inside in
    let same = IsPermutation-trans _ _ _ i.same
    (IsPermutation-trans _ _ _ (IsPermutation-append_right near far (key ∷ _) out)
    (IsPermutation-trans _ _ _ (IsPermutation-middle near key _)
    (IsPermutation-append_left _ (key ∷ near) _ joined))) in
    grind arith

pub loop-at-preserved : goal.loop-at-preserved
loop-at-preserved c =
    let far = c.loop-at.far.items in
    let at = c.loop-at.at in
    let inside : at < length far = omega arith in
    let next = take_more far at c.index.result.now inside ∙ ap (λ k. take at far ++ k ∷ []) (sym c.index.ensures) in
    grind (arith, far_more)
