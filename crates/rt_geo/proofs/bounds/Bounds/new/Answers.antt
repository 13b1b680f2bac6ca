use Rattle.std.proofs.Common.{rules}
use Rattle.rt_geo.proofs.bounds.Bounds.new.Goals as goal

pub returns-else-min_x-max_x : goal.returns-else-min_x-max_x
returns-else-min_x-max_x c = search rules
