use Rattle.std.proofs.Common.{rules}
use Rattle.rt_geo.proofs.disc.Disc.within.Goals as goal

pub returns-then-nearest-self : goal.returns-then-nearest-self
returns-then-nearest-self c = search rules
