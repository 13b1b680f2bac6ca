use Rattle.std.proofs.Common.{rules}
use Rattle.rt_geo.proofs.shapes.CircleShape.within.Goals as goal

pub returns-then-near2-radius : goal.returns-then-near2-radius
returns-then-near2-radius c = search rules

pub returns-else-far2-radius : goal.returns-else-far2-radius
returns-else-far2-radius c = search rules
