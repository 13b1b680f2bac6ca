use Rattle.std.proofs.Common.{◌≡◌, arith, length, rules}
use Rattle.rt_tree.proofs.RepeatLemmas.{first_repeat-below}
use Rattle.rt_embed.proofs.boxes.table_of.Goals as goal

pub overflow_add-result-in-Err-Repeated : goal.overflow_add-result-in-Err-Repeated
overflow_add-result-in-Err-Repeated g c =
    let there = first_repeat-below c.in_ok-entries.entries c.in-Err-Repeated.place (rw c.in-Err-Repeated.field-0-is at c.in-Err-Repeated.ensures.fault) in
    let len : length c.in_ok-entries.entries ≡ (g.B.Boxes.given c.args.boxes.now).len = search rules in
    omega (arith, there, len, c.requires.most)
