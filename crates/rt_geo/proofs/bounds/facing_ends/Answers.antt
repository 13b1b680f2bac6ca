use Rattle.std.proofs.{Common.{arith}, lemmas.Grind.{common_steps}}
use Rattle.rt_geo.proofs.bounds.facing_ends.Goals as goal

pub returns-clause-value : goal.returns-clause-value
returns-clause-value c = rw c.sides.ensures.value (grind (arith, common_steps))
