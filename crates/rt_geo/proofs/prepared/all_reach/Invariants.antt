use Rattle.std.proofs.Common.{◌≡◌, drop, true}
use Rattle.std.specs.List.{list_all}
use Rattle.std.specs.Prelude.{◌&&◌}
use Rattle.rt_geo.specs.HalfPlanes.{is_small, reaches}
use Rattle.rt_geo.proofs.prepared.all_reach.Given as goal

abbrev pub invariant-loop-half_plane : goal.invariant-loop-half_plane
invariant-loop-half_plane l = record {
  small : list_all is_small (drop l.half_plane-index l.half_planes) ≡ true;
  all :
      list_all (reaches l.sides) l.half_planes
      ≡ (l.all && list_all (reaches l.sides) (drop l.half_plane-index l.half_planes));
}
