use Rattle.std.proofs.{Common.{arith}, lemmas.Grind.{common_steps}}
use Rattle.rt_geo.proofs.polygon.hull_around.Goals as goal

pub loop-point-preserved : goal.loop-point-preserved
loop-point-preserved c = grind (arith, common_steps)

pub returns : goal.returns
returns c = grind (arith, common_steps)
