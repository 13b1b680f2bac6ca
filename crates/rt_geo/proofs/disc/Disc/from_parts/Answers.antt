use Rattle.std.proofs.Common.{◌≡◌, refl, rules}
use Rattle.rt_geo.specs.Orders.{near}
use Rattle.rt_geo.proofs.disc.Disc.from_parts.Goals as goal

pub returns-in-Near-clause-means : goal.returns-in-Near-clause-means
returns-in-Near-clause-means c =
    let around : c.args.order.now ≡ near c.args.circle.now.centre = search rules in
    rw (c.new.ensures, around) refl
