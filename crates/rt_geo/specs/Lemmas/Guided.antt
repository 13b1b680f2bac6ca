-- From the laws of the parts to the laws of the whole.
use Rattle.std.proofs.Common.{ℕ, Bool}
use Rattle.rt_geo.specs.Laws.{Extent, IsAdmissible, IsFaithful, IsLawful, guided}
use Rattle.rt_geo.specs.declared.geometry.Info.{Info}
use Rattle.rt_geo.specs.declared.geometry.Within.{Within}

-- a shape and a rank that keep their laws make a geometry that keeps its own
pub guided-lawful : {accepts : Extent → Bool} {state : Info → Within} {score : Extent → ℕ} {estimate : Info → ℕ}
    → IsFaithful accepts state → IsAdmissible score estimate
    → IsLawful (guided accepts state score estimate)
guided-lawful shape rank = record {
  faithful = shape;
  exact = λ i question entry _. rank.exact i question.well_formed entry;
  admissibility = λ i question node b h _. rank.admissibility i question.well_formed node b h;
}
