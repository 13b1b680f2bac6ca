use Rattle.std.proofs.{Common.{arith}, lemmas.Grind.{common_steps}}
use Rattle.rt_geo.proofs.layers.Layers.has.Goals as goal

pub returns : goal.returns
returns c = grind (arith, common_steps)
