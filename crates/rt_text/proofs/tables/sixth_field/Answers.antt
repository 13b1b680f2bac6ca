use Rattle.std.proofs.Common.{◌≡◌, ap, arith, of_z, pos, to_z}
use Rattle.std.specs.Int.{w64}
use Rattle.std.specs.Prelude.{unsigned_abs}
use Rattle.std.proofs.lemmas.{Int.{ints}, Result.{err_from_is_err_and}}
use Rattle.rt_geo.specs.Layers.{most_layer}
use Rattle.rt_text.specs.Steps.{map_value}
use Rattle.rt_text.proofs.tables.sixth_field.Goals as goal

pub returns-in_err-layer-clause-value : goal.returns-in_err-layer-clause-value
returns-in_err-layer-clause-value c =
    let most : to_z w64 (of_z w64 c.from.result) ≡ pos most_layer = omega (arith, ints, c.from.ensures) in
    let p = err_from_is_err_and c.from_residual.result c.from_residual.ensures.1 in
    rw (p.1, p.2) (ap (map_value unsigned_abs) (rw most at c.in_err-layer.ensures.value))

pub returns-clause-value : goal.returns-clause-value
returns-clause-value c =
    let most : to_z w64 (of_z w64 c.from.result) ≡ pos most_layer = omega (arith, ints, c.from.ensures) in
    let same : to_z w64 (of_z w64 c.in_ok-layer.layer) ≡ c.in_ok-layer.layer = omega (arith, ints, c.in_ok-layer.ensures.within, most) in
    rw (c.unsigned_abs.ensures.value, same) (ap (map_value unsigned_abs) (rw most at c.in_ok-layer.ensures.value))

pub returns-clause-within : goal.returns-clause-within
returns-clause-within c =
    let most : to_z w64 (of_z w64 c.from.result) ≡ pos most_layer = omega (arith, ints, c.from.ensures) in
    let same : to_z w64 (of_z w64 c.in_ok-layer.layer) ≡ c.in_ok-layer.layer = omega (arith, ints, c.in_ok-layer.ensures.within, most) in
    rw (c.unsigned_abs.ensures.value, same) (omega (arith, ints, c.in_ok-layer.ensures.within, most))
