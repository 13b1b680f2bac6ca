use Rattle.std.proofs.Common.{rules}
use Rattle.rt_geo.proofs.shapes.InsideShape.within.Goals as goal

pub returns-then-not-is_kept : goal.returns-then-not-is_kept
returns-then-not-is_kept c = search rules

pub returns-then-inside : goal.returns-then-inside
returns-then-inside c = search rules
