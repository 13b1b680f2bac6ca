use Rattle.std.proofs.lemmas.{Cmp.{nat_cmp_total}, Map.Lookups.{exact_unsigned}}
use Rattle.std.specs.Ordering.{nat_cmp}
use Rattle.rt_tree.proofs.SortingLemmas.{sorted-unique_by_all}
use Rattle.rt_tree.proofs.packing.NodesItems.sort_keys.Goals as goal

pub returns : goal.returns
returns c = sorted-unique_by_all nat_cmp nat_cmp_total exact_unsigned c.args.keys.now c.sort_unstable.new.self
    c.sort_unstable.ensures.permutation c.sort_unstable.ensures.sorted
