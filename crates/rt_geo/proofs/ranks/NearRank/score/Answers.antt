use Rattle.std.proofs.Common.{rules}
use Rattle.rt_geo.proofs.ranks.NearRank.score.Goals as goal

pub returns : goal.returns
returns c = search rules
