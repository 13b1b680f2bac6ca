use Rattle.std.proofs.Common.{ℕ, ◌/◌, ◌%◌, ◌^◌, ◌<◌, List, [], ◌∷◌, refl, ◌∙◌, arith}
use Rattle.std.specs.Int.Digits.{AllBelowBase}
use Rattle.rt_text.proofs.DigitLemmas.{unpacked}
use Rattle.rt_text.proofs.digits.sixteen_digits.Goals as goal

abbrev lanes : ℕ → List ℕ
lanes n = n / 10 ^ 14 ∷ n / 10 ^ 12 % 100 ∷ n / 10 ^ 10 % 100 ∷ n / 10 ^ 8 % 100 ∷ n / 10 ^ 6 % 100 ∷ n / 10 ^ 4 % 100 ∷ n / 100 % 100 ∷ n % 100 ∷ []

small : (n : ℕ) → n < 10 ^ 16 → AllBelowBase 100 (lanes n)
small n h = omega arith

pub returns-clause-digits : goal.returns-clause-digits
returns-clause-digits c = rw c.pairs-pairs.ensures (refl, (unpacked (lanes c.args.number) (small c.args.number c.requires)).0)

pub returns-clause-value : goal.returns-clause-value
returns-clause-value c = rw c.pairs-pairs.ensures ((unpacked (lanes c.args.number) (small c.args.number c.requires)).1 ∙ omega arith)
