use Rattle.std.proofs.{Common.{arith}, lemmas.Grind.{common_steps}}
use Rattle.rt_geo.proofs.Edges.{list_all-edges}
use Rattle.rt_geo.proofs.polygon.is_strictly_convex.Goals as goal

pub loop-to-init : goal.loop-to-init
loop-to-init c = list_all-edges _ c.args.vertices.now _ c.requires c.last_vertex-from.ensures

pub loop-to-preserved : goal.loop-to-preserved
loop-to-preserved c = grind (arith, common_steps)

pub overflow_add-left_of : goal.overflow_add-left_of
overflow_add-left_of c = grind (arith, common_steps)

pub returns-then-left_of-vertices : goal.returns-then-left_of-vertices
returns-then-left_of-vertices c = grind (arith, common_steps)

pub returns : goal.returns
returns c = grind (arith, common_steps)
