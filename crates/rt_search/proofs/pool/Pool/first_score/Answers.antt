use Rattle.std.proofs.Common.{arith}
use Rattle.rt_search.proofs.Pools.{least_score}
use Rattle.rt_search.proofs.pool.Pool.first_score.Goals as goal

pub returns : goal.returns
returns c = grind (arith, least_score)
