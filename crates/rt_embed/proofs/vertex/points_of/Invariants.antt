use Rattle.std.proofs.Common.{◌≡◌, length, map, take}
use Rattle.rt_embed.specs.PlainQueries.{point_of}
use Rattle.rt_embed.proofs.vertex.points_of.Given as goal

-- the points of the vertices before this one
abbrev pub invariant-loop-place : goal.invariant-loop-place
invariant-loop-place l = record {
  len : length l.points ≡ 16;
  points : take l.place l.points ≡ map point_of (take l.place l.vertices);
}
