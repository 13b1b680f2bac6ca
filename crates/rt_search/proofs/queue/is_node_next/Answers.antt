use Rattle.std.proofs.{Common.{arith, refl}, lemmas.Bool.Decides.{nat_tests}}
use Rattle.rt_search.specs.{Kept.{IsNode, node_item}, Pooling.{keys_in}}
use Rattle.rt_search.proofs.{Heaps.{in_order-all}, Elements.{all_each}, Merging.{entries_ahead, nodes_ahead}}
use Rattle.rt_search.proofs.PooledItems.{first_of_least}
use Rattle.rt_search.proofs.queue.is_node_next.Goals as goal

pub returns : goal.returns
returns c =
    let keys = keys_in c.args.nodes.now in
    let n = first_of_least node_item (λ k. refl) c.in-Some.node keys c.in-Some.ensures in
    let nodes = in_order-all node_item (λ x. IsNode x.place) keys
    (all_each (λ n. IsNode (node_item n).place) (λ n. tt) keys) in
    grind (arith, nodes_ahead, entries_ahead, nat_tests)
