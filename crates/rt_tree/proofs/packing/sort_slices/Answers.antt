use Rattle.std.proofs.{Common.{ℕ, List, ◌+◌, ◌-◌, ◌∙◌, ap, arith, min}, lemmas.Grind.{common_steps}}
use Rattle.std.specs.List.{flat_map}
use Rattle.rt_tree.specs.{Packing.{chunks}, SortKeys.{by_y, box_of}}
use Rattle.rt_tree.proofs.LoopLemmas.{changed_more, chunks-at}
use Rattle.rt_tree.proofs.packing.sort_slices.Goals as goal

pub sort_by_y-requires-clause-places : goal.sort_by_y-requires-clause-places
sort_by_y-requires-clause-places g c = grind (arith, common_steps)

pub loop-start-preserved : goal.loop-start-preserved
loop-start-preserved g c =
    let items = g.T.Items.list c.args.items.now in
    let start = c.loop-start.start in
    let old = c.args.keys.now in
    let each = by_y (g.T.Items.key_order items) (box_of g.T.Items.extent) items in
    changed_more (λ (l : List ℕ). flat_map each (chunks c.args.size l)) each start (start + c.min.result) old
    c.loop-start.keys c.sort_by_y.new.keys c.loop-start.invariant (omega arith) (omega (arith, c.min.ensures))
    c.sort_by_y.auto.keys c.sort_by_y.ensures (ap (flat_map each) (chunks-at c.args.size start c.min.result old
    c.requires.some (omega arith) (c.min.ensures ∙ ap (λ l. min c.args.size (l - start)) c.loop-start.auto.keys)))

pub returns : goal.returns
returns g c = grind (arith, common_steps)
