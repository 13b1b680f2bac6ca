-- A geometry without the scores of its nodes keeps the laws that it keeps with them.
use Rattle.std.proofs.Common.{arith}
use Rattle.std.proofs.lemmas.Bool.Decides.{nat_tests}
use Rattle.rt_geo.specs.Laws.{IsLawful, Meaning, unscored_meaning}

pub unscored-lawful : (meaning : Meaning) → IsLawful meaning → IsLawful (unscored_meaning meaning)
unscored-lawful meaning law = record {
  faithful = law.faithful;
  exact = λ i question entry h. grind (arith, nat_tests, law.exact i question entry h);
  admissibility = λ i question node b inside h. grind (arith, nat_tests);
}
