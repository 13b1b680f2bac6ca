use Rattle.std.proofs.{Common.{arith}, lemmas.Grind.{common_steps}}
use Rattle.rt_text.proofs.reply_lines.set_ok_line.Goals as goal

pub returns : goal.returns
returns c = grind (arith, common_steps)
