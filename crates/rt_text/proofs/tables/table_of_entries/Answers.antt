use Rattle.std.proofs.Common.{◌≤◌, arith, length}
use Rattle.rt_tree.specs.Entries.{most_entries}
use Rattle.rt_tree.proofs.RepeatLemmas.{first_repeat-below}
use Rattle.rt_text.proofs.TableLemmas.{first_number-small}
use Rattle.rt_text.proofs.tables.table_of_entries.Goals as goal

pub overflow_add-result : goal.overflow_add-result
overflow_add-result c =
    let reported = rw c.in-Err-Repeated.field-0-is at c.in-Err-Repeated.ensures.fault in
    let there = first_repeat-below c.args.entries c.in-Err-Repeated.place reported in
    let small = first_number-small c.args.header in
    let few : length c.args.entries ≤ most_entries = c.requires.most in
    omega (arith, there, small, few, c.first_number.ensures)
