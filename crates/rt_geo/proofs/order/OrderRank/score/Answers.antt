use Rattle.std.proofs.Common.{rules}
use Rattle.rt_geo.proofs.order.OrderRank.score.Goals as goal

pub returns-in-Smallest : goal.returns-in-Smallest
returns-in-Smallest c = search rules
