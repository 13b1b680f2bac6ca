use Rattle.rt_tree.proofs.RepeatLemmas.{distinct-from_once}
use Rattle.rt_tree.proofs.table.Table.of_entries.Goals as goal

pub invariant_of-result : goal.invariant_of-result
invariant_of-result c = record {
  table = record {
    distinct = distinct-from_once c.args.entries c.in_ok-ids.ensures.once;
    boxes = c.in_ok-ids.ensures.boxes;
    layers = c.requires.layers;
    few = c.requires.most;
  };
  ids_are = c.in_ok-ids.ensures.ids;
}
