use Rattle.std.proofs.Common.{rules}
use Rattle.rt_geo.specs.Lemmas.Nearest.{near2-least}
use Rattle.rt_geo.proofs.distance.near2.Goals as goal

pub returns-clause-nearest : goal.returns-clause-nearest
returns-clause-nearest c = near2-least c.args.point c.args.bounds _ c.gaps.ensures.valid (search rules)
