-- When a polygon is prepared: where each of its edges is short.
use Rattle.std.specs.List.{list_all}
use Rattle.std.specs.Prelude.{◌^◌, Bool, ◌&&◌, nat_lt, ◌-ℤ◌, unsigned_abs, List}
use Rattle.rt_geo.specs.Polygons.{edges}
use Rattle.rt_geo.specs.declared.distance.Point.{Point}
use Rattle.rt_geo.specs.declared.polygon.Edge.{Edge}

-- an edge that leads less than 2 ^ 31 far on each axis
abbrev pub is_short : Edge → Bool
is_short edge =
    nat_lt (unsigned_abs (edge.to.x -ℤ edge.from.x)) (2 ^ 31)
    && nat_lt (unsigned_abs (edge.to.y -ℤ edge.from.y)) (2 ^ 31)

-- a polygon each edge of which is short
abbrev pub has_short_edges : List Point → Bool
has_short_edges vertices = list_all is_short (edges vertices)
