use Rattle.std.proofs.Common.{◌≡◌, ◌++◌, drop, length, map}
use Rattle.std.specs.List.{list_all}
use Rattle.rt_geo.specs.HalfPlanes.{half_plane_of}
use Rattle.rt_geo.specs.ShortEdges.{is_short}
use Rattle.rt_geo.specs.Polygons.{path_from}
use Rattle.rt_geo.proofs.prepared.half_planes.Given as goal

abbrev pub invariant-loop-to : goal.invariant-loop-to
invariant-loop-to l = record {
  count : length l.half_planes.items ≡ l.to-index;
  short :
      list_all is_short (path_from l.fn.first l.others)
      ≡ list_all is_short (path_from l.from (drop l.to-index l.others));
  made :
      map half_plane_of (path_from l.fn.first l.others)
      ≡ l.half_planes.items ++ map half_plane_of (path_from l.from (drop l.to-index l.others));
}
