use Rattle.std.proofs.{Common.{arith}, lemmas.{Grind.{common_steps}, Int.{ints}}}
use Rattle.rt_text.proofs.grammar.sides.Goals as goal

pub returns-in-None : goal.returns-in-None
returns-in-None c = grind (ints, arith, common_steps)
