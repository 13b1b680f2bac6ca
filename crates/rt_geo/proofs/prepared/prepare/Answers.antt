use Rattle.std.proofs.Common.{refl, sym}
use Rattle.rt_geo.proofs.HalfPlanes.{are_made, none_made}
use Rattle.rt_geo.proofs.prepared.prepare.Goals as goal

pub invariant_of-result : goal.invariant_of-result
invariant_of-result c =
    let vertices = c.vertices-vertices in
    let made =
    are_made vertices.result.now vertices.result.now c.last_vertex.result c.in-Some.half_planes
    vertices.ensures.count refl c.last_vertex.ensures c.in-Some.ensures in
    record {
      count = rw c.list_of.ensures vertices.ensures.count;
      convex = rw c.list_of.ensures vertices.ensures.convex;
      short = rw c.list_of.ensures made.short;
      bounds = rw (c.list_of.ensures, vertices.ensures.value) c.bounds.ensures;
      half_planes = rw c.list_of.ensures made.half_planes;
    }

pub returns-in-Some-clause-when : goal.returns-in-Some-clause-when
returns-in-Some-clause-when c =
    rw (← c.vertices-vertices.ensures.value, ← c.list_of.ensures) (sym (invariant_of-result c).short)

pub returns-in-None-clause-when : goal.returns-in-None-clause-when
returns-in-None-clause-when c =
    rw (← c.vertices-vertices.ensures.value) (sym (none_made c.vertices-vertices.result.now
    c.vertices-vertices.result.now c.last_vertex.result c.vertices-vertices.ensures.count refl c.last_vertex.ensures
    c.in-None.ensures))
