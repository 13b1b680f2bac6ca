use Rattle.rt_tree.specs.{Packing.{twice_middle_y}, SortKeys.{box_of, rekeyed}}
use Rattle.rt_tree.proofs.LoopLemmas.{IsMappedTo}
use Rattle.rt_tree.proofs.packing.sort_by_y.Given as goal

abbrev pub invariant-loop-key : goal.invariant-loop-key
invariant-loop-key g l = IsMappedTo (rekeyed (box_of g.T.Items.extent) twice_middle_y (g.T.Items.list l.items)) l.key-index
    l.initial.keys l.keys
