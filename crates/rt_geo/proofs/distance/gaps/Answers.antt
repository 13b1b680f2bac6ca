use Rattle.std.proofs.Common.{refl, w64}
use Rattle.std.proofs.lemmas.Int.{to_z-of_z}
use Rattle.rt_geo.proofs.Gaps.{fits_difference, fits_max, fits_min, gap_small, gap_to_nearest, stored_pair}
use Rattle.rt_geo.proofs.Lanes.{sides_fit}
use Rattle.rt_geo.proofs.distance.gaps.Goals as goal

pub returns-clause-value : goal.returns-clause-value
returns-clause-value c =
    let p = c.lanes-point.ensures in
    let b = c.args.bounds in
    let fit = sides_fit b c.mins.ensures.valid c.mins.ensures.coordinates in
    let stored = stored_pair _ _ _ p.value p.x p.y in
    let above = c.greater_of.ensures _ _ _ _ stored (stored_pair _ _ _ c.mins.ensures.value fit.left fit.low) in
    let above_x = fits_max _ _ p.x fit.left in
    let above_y = fits_max _ _ p.y fit.low in
    let near = c.lesser_of-nearest.ensures _ _ _ _ (stored_pair _ _ _ above above_x above_y)
    (stored_pair _ _ _ c.maxs.ensures.value fit.right fit.high) in
    let near_x = fits_min _ _ above_x fit.right in
    let near_y = fits_min _ _ above_y fit.high in
    let apart = c.differences.ensures _ _ _ _ stored (stored_pair _ _ _ near near_x near_y) p.x p.y near_x near_y in
    let long_x = to_z-of_z w64 _ (fits_difference _ _ p.x near_x) in
    let from_x = rw (apart, long_x, long_x) at c.unsigned_abs.ensures.value in
    let long_y = to_z-of_z w64 _ (fits_difference _ _ p.y near_y) in
    let from_y = rw (apart, long_y, long_y) at c.unsigned_abs-2.ensures.value in
    let box = c.mins.ensures.valid in
    let gap_x = gap_to_nearest c.args.point.x b.min_x b.max_x box.on_x in
    let gap_y = gap_to_nearest c.args.point.y b.min_y b.max_y box.on_y in
    rw (from_x, from_y, gap_x, gap_y) refl

pub returns-clause-small : goal.returns-clause-small
returns-clause-small c =
    let p = c.lanes-point.ensures in
    let fit = sides_fit c.args.bounds c.mins.ensures.valid c.mins.ensures.coordinates in
    (gap_small _ _ _ p.x fit.left fit.right, gap_small _ _ _ p.y fit.low fit.high)
