use Rattle.std.proofs.Common.{◌-◌, length}
use Rattle.std.specs.List.{flat_map}
use Rattle.rt_tree.specs.{Packing.{chunks}, SortKeys.{box_of, by_y}}
use Rattle.rt_tree.proofs.LoopLemmas.{IsChangedTo}
use Rattle.rt_tree.proofs.packing.sort_slices.Given as goal

abbrev pub invariant-loop-start : goal.invariant-loop-start
invariant-loop-start g l = let items = g.T.Items.list l.items in
    let each = by_y (g.T.Items.key_order items) (box_of g.T.Items.extent) items in
    IsChangedTo (λ keys. flat_map each (chunks l.size keys)) l.start l.initial.keys l.keys

abbrev pub decreases-loop-start : goal.decreases-loop-start
decreases-loop-start g l = length l.keys - l.start
