use Rattle.std.proofs.Common.{◌≡◌, map, take}
use Rattle.std.specs.List.{enumerate_from}
use Rattle.rt_tree.specs.{Packing.{twice_middle_x}, SortKeys.{box_of, key_of}}
use Rattle.rt_tree.proofs.packing.keys_of.Given as goal

abbrev pub invariant-loop-place : goal.invariant-loop-place
invariant-loop-place g l = l.keys.items
    ≡ map (key_of (box_of g.T.Items.extent) twice_middle_x) (enumerate_from 0 (take l.place (g.T.Items.list l.items)))
