use Rattle.std.proofs.{Common.{arith}, lemmas.Grind.{common_steps, elements}}
use Rattle.rt_geo.proofs.distance.differences.Goals as goal

pub overflow_cast-result : goal.overflow_cast-result
overflow_cast-result c = grind (arith, elements)

pub overflow_cast-result-2 : goal.overflow_cast-result-2
overflow_cast-result-2 c = grind (arith, elements)

pub returns : goal.returns
returns c = grind (arith, common_steps)
