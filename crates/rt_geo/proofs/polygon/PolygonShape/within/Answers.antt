use Rattle.std.proofs.Common.{◌≡◌, ◌∙◌, rules, sym, true}
use Rattle.rt_geo.specs.Polygons.{has_polygon_count, is_strictly_convex}
use Rattle.rt_geo.specs.Lemmas.Polygons.{polygon-holds_each_point, polygon-shares_no_point}
use Rattle.rt_geo.proofs.CommonPoints.{polygon-shares_point}
use Rattle.rt_geo.proofs.polygon.PolygonShape.within.Goals as goal

pub returns-then-not-overlaps-clause-state : goal.returns-then-not-overlaps-clause-state
returns-then-not-overlaps-clause-state c = search rules

pub returns-then-not-overlaps-clause-apart : goal.returns-then-not-overlaps-clause-apart
returns-then-not-overlaps-clause-apart c e =
    polygon-shares_no_point c.args.self.now c.args.info.now (sym (returns-then-not-overlaps-clause-state c) ∙ e)

pub returns-clause-state : goal.returns-clause-state
returns-clause-state c = search rules

pub returns-clause-apart : goal.returns-clause-apart
returns-clause-apart c e =
    polygon-shares_no_point c.args.self.now c.args.info.now (sym (returns-clause-state c) ∙ e)

pub returns-clause-whole : goal.returns-clause-whole
returns-clause-whole c e =
    polygon-holds_each_point c.args.self.now c.args.info.now (sym (returns-clause-state c) ∙ e)

pub returns-clause-shared : goal.returns-clause-shared
returns-clause-shared c kept =
    let vertices = c.args.self.now in
    let count : has_polygon_count vertices ≡ true = rw (← c.self.view_is) c.self.invariant.count in
    let convex : is_strictly_convex vertices ≡ true = rw (← c.self.view_is) c.self.invariant.convex in
    polygon-shares_point vertices c.args.info.now count convex c.overlaps.ensures.valid.0
    (λ e. kept (returns-clause-state c ∙ e))
