use Rattle.std.proofs.Common.{rules}
use Rattle.rt_geo.proofs.Crosses.{cross-fits, cross_is, difference_is, product_is}
use Rattle.rt_geo.proofs.polygon.cross.Goals as goal

pub overflow_sub-result : goal.overflow_sub-result
overflow_sub-result c =
    cross-fits c.product.result c.product-2.result c.product.ensures.size c.product-2.ensures.size

pub returns : goal.returns
returns c =
    let from = c.args.edge.from in
    let to = c.args.edge.to in
    let p = c.args.p in
    let along_x = difference_is _ to.x from.x (search rules) (search rules) c.difference-along_x.ensures.value in
    let along_y = difference_is _ to.y from.y (search rules) (search rules) c.difference-along_y.ensures.value in
    let to_x = difference_is _ p.x from.x (search rules) (search rules) c.difference-to_x.ensures.value in
    let to_y = difference_is _ p.y from.y (search rules) (search rules) c.difference-to_y.ensures.value in
    let first = product_is _ _ _ _ _ (search rules) (search rules) c.product.ensures.value along_x to_y in
    let second = product_is _ _ _ _ _ (search rules) (search rules) c.product-2.ensures.value along_y to_x in
    cross_is _ _ _ _ c.product.ensures.size c.product-2.ensures.size first second
