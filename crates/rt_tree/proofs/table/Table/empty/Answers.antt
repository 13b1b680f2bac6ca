use Rattle.rt_tree.proofs.EntryLemmas.{IsIndexed-empty}
use Rattle.rt_tree.proofs.table.Table.empty.Goals as goal

pub invariant_of-result : goal.invariant_of-result
invariant_of-result c = rw c.empty.ensures (IsIndexed-empty _ _ c.none.ensures)
