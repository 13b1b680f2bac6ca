use Rattle.std.proofs.Common.{◌≡◌, ◌∙◌, sym, true}
use Rattle.rt_geo.specs.Polygons.{has_polygon_count, is_strictly_convex}
use Rattle.rt_geo.specs.Lemmas.Polygons.{polygon-holds_each_point, polygon-shares_no_point}
use Rattle.rt_geo.proofs.CommonPoints.{polygon-shares_point}
use Rattle.rt_geo.proofs.HalfPlanes.{all_small-edges, state_is}
use Rattle.rt_geo.proofs.prepared.PreparedPolygonShape.within.Goals as goal

pub state_by_half_planes-requires : goal.state_by_half_planes-requires
state_by_half_planes-requires c =
    rw (c.deref.ensures.0, c.self.invariant.half_planes)
    (all_small-edges c.self.inside.vertices.items c.self.invariant.short)

pub returns-clause-state : goal.returns-clause-state
returns-clause-state c =
    let known =
    state_is c.self.inside.vertices.items c.args.info.now c.deref.result.now c.self.inside.bounds
    c.overlaps-overlapping.result c.inside-lies_inside.result c.state_by_half_planes.ensures.valid
    (c.deref.ensures.0 ∙ c.self.invariant.half_planes) c.self.invariant.bounds c.overlaps-overlapping.ensures.value
    c.inside-lies_inside.ensures in
    rw (← c.self.view_is) (c.state_by_half_planes.ensures.value ∙ known)

pub returns-clause-apart : goal.returns-clause-apart
returns-clause-apart c e =
    polygon-shares_no_point c.args.self.now c.args.info.now (sym (returns-clause-state c) ∙ e)

pub returns-clause-whole : goal.returns-clause-whole
returns-clause-whole c e =
    polygon-holds_each_point c.args.self.now c.args.info.now (sym (returns-clause-state c) ∙ e)

pub returns-clause-shared : goal.returns-clause-shared
returns-clause-shared c kept =
    let vertices = c.args.self.now in
    let count : has_polygon_count vertices ≡ true = rw (← c.self.view_is) c.self.invariant.count in
    let convex : is_strictly_convex vertices ≡ true = rw (← c.self.view_is) c.self.invariant.convex in
    polygon-shares_point vertices c.args.info.now count convex c.state_by_half_planes.ensures.valid
    (λ e. kept (returns-clause-state c ∙ e))
