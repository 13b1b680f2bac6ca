use Rattle.std.proofs.Common.{refl}
use Rattle.rt_geo.proofs.Crosses.{product_is}
use Rattle.rt_geo.proofs.HalfPlanes.{coordinate-stored, to_the_left-fits, to_the_left_is, to_i64_is}
use Rattle.rt_geo.proofs.prepared.to_the_left.Goals as goal

pub overflow_sub-result : goal.overflow_sub-result
overflow_sub-result c =
    to_the_left-fits c.short_product.result c.short_product-2.result c.short_product.ensures.size
    c.short_product-2.ensures.size

pub returns : goal.returns
returns c =
    let first =
    product_is _ _ _ _ _ (coordinate-stored _ c.to_i64.ensures.size) c.ranges.y c.short_product.ensures.value
    (to_i64_is _ c.args.along_x c.ranges.along_x c.to_i64.ensures.value) refl in
    let second =
    product_is _ _ _ _ _ (coordinate-stored _ c.to_i64-2.ensures.size) c.ranges.x c.short_product-2.ensures.value
    (to_i64_is _ c.args.along_y c.ranges.along_y c.to_i64-2.ensures.value) refl in
    to_the_left_is c.short_product.result c.short_product-2.result _ _ c.short_product.ensures.size
    c.short_product-2.ensures.size first second
