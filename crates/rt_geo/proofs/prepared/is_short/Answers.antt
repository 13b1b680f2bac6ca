use Rattle.std.proofs.Common.{rules}
use Rattle.rt_geo.proofs.prepared.is_short.Goals as goal

pub returns-then-abs_diff-lt-LONG_EDGE_STEPS : goal.returns-then-abs_diff-lt-LONG_EDGE_STEPS
returns-then-abs_diff-lt-LONG_EDGE_STEPS c = search rules
