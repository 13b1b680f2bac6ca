use Rattle.std.proofs.Common.{◌≡◌, ◌+◌, drop, length}
use Rattle.std.specs.List.{count_by, list_all}
use Rattle.std.specs.Prelude.{◌==◌}
use Rattle.rt_geo.specs.Polygons.{is_left, is_strictly_convex, path_from}
use Rattle.rt_geo.proofs.polygon.is_strictly_convex.Given as goal

abbrev pub invariant-loop-to : goal.invariant-loop-to
invariant-loop-to l =
    is_strictly_convex l.vertices
    ≡ list_all (λ edge. count_by (is_left edge) l.vertices + 2 == length l.vertices)
    (path_from l.from (drop l.to-index l.vertices))
