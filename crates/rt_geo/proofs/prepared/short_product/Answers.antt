use Rattle.std.proofs.{Common.{arith}, lemmas.Grind.{common_steps}}
use Rattle.rt_geo.proofs.HalfPlanes.{short_product-size, short_product_is}
use Rattle.rt_geo.proofs.prepared.short_product.Goals as goal

pub overflow_mul-result : goal.overflow_mul-result
overflow_mul-result c = grind (arith, common_steps)

pub returns-clause-value : goal.returns-clause-value
returns-clause-value c =
    short_product_is c.args.along c.args.coordinate c.ranges.along c.ranges.coordinate
    c.requires.along c.requires.coordinate

pub returns-clause-size : goal.returns-clause-size
returns-clause-size c =
    rw (returns-clause-value c)
    (short_product-size c.args.along c.args.coordinate c.requires.along c.requires.coordinate)
