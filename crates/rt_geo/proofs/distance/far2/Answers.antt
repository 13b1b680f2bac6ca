use Rattle.std.proofs.Common.{rules}
use Rattle.rt_geo.specs.Lemmas.Nearest.{far2-greatest}
use Rattle.rt_geo.proofs.distance.far2.Goals as goal

pub returns-clause-farthest : goal.returns-clause-farthest
returns-clause-farthest c = far2-greatest c.args.point c.args.bounds _ c.min_x.ensures.valid (search rules)
