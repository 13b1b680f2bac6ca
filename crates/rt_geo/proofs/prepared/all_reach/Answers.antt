use Rattle.std.proofs.{Common.{arith}, lemmas.Grind.{common_steps}}
use Rattle.rt_geo.proofs.prepared.all_reach.Goals as goal

pub reaches-all-requires-clause-small : goal.reaches-all-requires-clause-small
reaches-all-requires-clause-small c = grind (arith, common_steps)

pub loop-half_plane-preserved : goal.loop-half_plane-preserved
loop-half_plane-preserved c = grind (arith, common_steps)

pub returns : goal.returns
returns c = grind (arith, common_steps)
