use Rattle.std.proofs.{Common.{ap, arith}, lemmas.Grind.{common_steps}}
use Rattle.std.specs.Prelude.{◌&&◌}
use Rattle.rt_geo.specs.Polygons.{meets_half_plane, lies_in_half_plane}
use Rattle.rt_geo.proofs.Edges.{list_all-edges}
use Rattle.rt_geo.proofs.polygon.state_by_edges.Goals as goal

pub loop-to-init : goal.loop-to-init
loop-to-init c = record {
  met = list_all-edges (meets_half_plane c.args.bounds) c.args.vertices.now _ c.requires c.last_vertex-from.ensures;
  held =
      ap (λ each. c.args.lies_inside && each)
      (list_all-edges (lies_in_half_plane c.args.bounds) c.args.vertices.now _ c.requires c.last_vertex-from.ensures);
}

pub loop-to-preserved : goal.loop-to-preserved
loop-to-preserved c = grind (arith, common_steps)

pub returns-then-not-meets_half_plane : goal.returns-then-not-meets_half_plane
returns-then-not-meets_half_plane c = grind (arith, common_steps)

pub returns-then-holds-2 : goal.returns-then-holds-2
returns-then-holds-2 c = grind (arith, common_steps)

pub returns-else-holds-2 : goal.returns-else-holds-2
returns-else-holds-2 c = grind (arith, common_steps)
