use Rattle.std.proofs.Common.{◌≡◌, subst, sym, true}
use Rattle.rt_geo.specs.Boxes.{IsLeastAround, IsRect, inside, plane, rect_of}
use Rattle.rt_geo.specs.Lemmas.Boxes.{IsRect-hull, hull-inside, hull-least}
use Rattle.rt_geo.proofs.Stored.{stored_hull}
use Rattle.rt_geo.proofs.bounds.hull.Goals as goal

pub returns-clause-value : goal.returns-clause-value
returns-clause-value c =
    rw (← c.a.view_is, ← c.b.view_is) (stored_hull _ _ c.min.result c.max.result c.min-2.result c.max-2.result
    c.a.invariant.box c.a.invariant.coordinates c.b.invariant.box c.b.invariant.coordinates
    c.min.ensures.value c.max.ensures.value c.min-2.ensures.value c.max-2.ensures.value)

pub returns-clause-least : goal.returns-clause-least
returns-clause-least c =
    subst (λ whole. IsLeastAround c.args.a c.args.b whole) (sym (returns-clause-value c)) (hull-least c.args.a c.args.b)

pub invariant_of-result : goal.invariant_of-result
invariant_of-result c =
    let a = rect_of c.a.inside.min_x c.a.inside.max_x c.a.inside.min_y c.a.inside.max_y in
    let b = rect_of c.b.inside.min_x c.b.inside.max_x c.b.inside.min_y c.b.inside.max_y in
    let e =
    stored_hull a b c.min.result c.max.result c.min-2.result c.max-2.result
    c.a.invariant.box c.a.invariant.coordinates c.b.invariant.box c.b.invariant.coordinates
    c.min.ensures.value c.max.ensures.value c.min-2.ensures.value c.max-2.ensures.value in
    record {
      box = subst IsRect (sym e) (IsRect-hull a b c.a.invariant.box c.b.invariant.box);
      coordinates =
          subst (λ whole. inside whole plane ≡ true) (sym e)
          (hull-inside a b plane c.a.invariant.coordinates c.b.invariant.coordinates);
    }

pub returns-clause-valid : goal.returns-clause-valid
returns-clause-valid c = (invariant_of-result c).box

pub returns-clause-coordinates : goal.returns-clause-coordinates
returns-clause-coordinates c = (invariant_of-result c).coordinates
