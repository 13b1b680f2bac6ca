use Rattle.std.proofs.Common.{◌≡◌, drop}
use Rattle.std.specs.List.{list_all}
use Rattle.std.specs.Prelude.{◌&&◌}
use Rattle.rt_geo.specs.Polygons.{edges, meets_half_plane, lies_in_half_plane, path_from}
use Rattle.rt_geo.proofs.polygon.state_by_edges.Given as goal

abbrev pub invariant-loop-to : goal.invariant-loop-to
invariant-loop-to l = record {
  met :
      list_all (meets_half_plane l.bounds) (edges l.vertices)
      ≡ list_all (meets_half_plane l.bounds) (path_from l.from (drop l.to-index l.vertices));
  held :
      (l.lies_inside && list_all (lies_in_half_plane l.bounds) (edges l.vertices))
      ≡ (l.holds && list_all (lies_in_half_plane l.bounds) (path_from l.from (drop l.to-index l.vertices)));
}
