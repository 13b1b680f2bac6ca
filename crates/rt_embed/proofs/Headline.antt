-- What is replied over a table's tree is what a run over its bytes writes.
use Rattle.std.proofs.Common.{◌≡◌, ℕ, Bool, List, refl, true}
use Rattle.rt_command.specs.Choices.{Choices}
use Rattle.rt_tree.specs.Packed.{Packed}
use Rattle.rt_filter.specs.{Lines.{numbered_lines}, Replies.{Loaded, any_fault, output, tree_of}, Stages.{HasLoaded}}
use Rattle.rt_embed.specs.Sessions.{IsRunOf}

pub run_of_table : (choices : Choices) (table queries reply : List ℕ) (tree : Packed) (bad : Bool) → HasLoaded choices table tree
    → ((loaded : Loaded) → tree ≡ tree_of loaded → reply ≡ output loaded (numbered_lines queries true))
    → bad ≡ any_fault (numbered_lines queries true) → IsRunOf choices table queries reply bad
run_of_table choices table queries reply tree bad has replies faults = rw (has.same, replies has.loaded has.packed, faults) refl
