use Rattle.rt_filter.proofs.GeometryLemmas.{disc_searched}
use Rattle.rt_filter.proofs.job.with_region.Goals as goal

pub returns-in-Some : goal.returns-in-Some
returns-in-Some g c =
    rw (
      c.in-Circle.is,
      ← disc_searched c.in-Some.disc c.in-Circle.circle c.args.order c.args.limit c.in-Some.ensures.when.0 c.in-Some.ensures.means,
    ) c.with_scored_nodes.ensures

pub returns-in-None : goal.returns-in-None
returns-in-None g c = rw c.in-Circle.is c.with_shape-in-None.ensures
