-- Each order keeps its laws.
use Rattle.std.proofs.Common.{◌≡◌, ◌<◌, ◌≤◌, refl, arith, ℕ}
use Rattle.std.proofs.lemmas.Bool.Decides.{nat_tests}
use Rattle.rt_geo.specs.Boxes.{area}
use Rattle.rt_geo.specs.Laws.{IsAdmissible, extent_of}
use Rattle.rt_geo.specs.Lemmas.Distances.{near2-part}
use Rattle.rt_geo.specs.Orders.{order_estimate, order_score}
use Rattle.rt_geo.specs.declared.geometry.Info.{Info}
use Rattle.rt_geo.specs.declared.order.Order.{Order}
use Rattle.rt_geo.specs.declared.order.Order.TheVariants.{ById, Near, Smallest}

smallest-exact : (i : Info) → i.level ≡ 0
    → order_estimate (Smallest (record {})) i ≡ order_score (Smallest (record {})) (extent_of i)
smallest-exact i entry = grind (arith, nat_tests)

smallest-below : (i : Info) (n : ℕ) → 0 < i.level → order_estimate (Smallest (record {})) i ≤ n
smallest-below i n node = grind (arith, nat_tests)

pub order-admissible : (o : Order) → IsAdmissible (order_score o) (order_estimate o)
order-admissible (ById rank) = record {
  exact = λ i well_formed entry. refl;
  admissibility = λ i well_formed node b h. omega arith;
}
order-admissible (Near rank) = record {
  exact = λ i well_formed entry. refl;
  admissibility = λ i well_formed node b h. near2-part rank.0 b.bounds i.bounds h.inside;
}
order-admissible (Smallest rank) = record {
  exact = λ i well_formed entry. smallest-exact i entry;
  admissibility = λ i well_formed node b h. smallest-below i (area b.bounds) node;
}
