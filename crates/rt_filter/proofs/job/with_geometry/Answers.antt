use Rattle.std.proofs.Common.{◌∙◌, sym}
use Rattle.rt_filter.proofs.GeometryLemmas.{done_on_all, done_on_layers}
use Rattle.rt_filter.proofs.job.with_geometry.Goals as goal

pub returns-then-bits-eq18446744073709551615 : goal.returns-then-bits-eq18446744073709551615
returns-then-bits-eq18446744073709551615 g c =
    done_on_all c.args.tree.now c.len.ensures.sound c.args.region.now c.args.layers c.args.order c.args.limit
    (λ found opened count counted. g.J.Job.does c.args.job.now c.with_region.new.job c.args.frontier found opened count counted c.with_region.result)
    (sym c.bits.ensures ∙ c.if-bits-eq18446744073709551615.true) c.with_region.ensures

pub returns : goal.returns
returns g c =
    done_on_layers c.args.tree.now c.len.ensures.sound c.args.region.now c.args.layers c.args.order c.args.limit
    (λ found opened count counted. g.J.Job.does c.args.job.now c.with_shape.new.job c.args.frontier found opened count counted c.with_shape.result)
    c.with_shape.ensures
