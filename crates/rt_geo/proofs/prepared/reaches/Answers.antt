use Rattle.std.proofs.{Common.{arith, rules}, lemmas.Grind.{common_steps}}
use Rattle.rt_geo.proofs.prepared.reaches.Goals as goal

pub to_the_left-requires-clause-x : goal.to_the_left-requires-clause-x
to_the_left-requires-clause-x c = grind (arith, common_steps)

pub to_the_left-requires-clause-y : goal.to_the_left-requires-clause-y
to_the_left-requires-clause-y c = grind (arith, common_steps)

pub returns : goal.returns
returns c = search rules
