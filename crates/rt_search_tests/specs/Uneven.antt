-- A geometry of one's own, with scores that go up and down: what it means, and that it keeps the laws.
use Rattle.std.specs.Prelude.{◌≡◌, ◌≤◌, min, true, ◌==◌, if◌then◌else◌}
use Rattle.std.proofs.Common.{refl, arith}
use Rattle.std.proofs.lemmas.Bool.Decides.{nat_tests}
use Rattle.rt_geo.specs.Laws.{IsFaithful, IsLawful, Meaning}
use Rattle.rt_geo.specs.declared.geometry.Info.{Info}
use Rattle.rt_geo.specs.declared.geometry.Verdict.{Verdict}
use Rattle.rt_geo.specs.declared.geometry.Within.TheVariants.{Fully}

-- FULLY everywhere; a node of level l scores the lesser of l and 10
abbrev uneven_verdict : Info → Verdict
uneven_verdict i = record { within = Fully; score = if i.level == 0 then 10 else min i.level 10 }

-- it accepts every box, and each scores 10
abbrev pub uneven : Meaning
uneven = record { accepts = λ b. true; score = λ b. 10; verdict = uneven_verdict }

exact : (i : Info) → i.level ≡ 0 → (uneven_verdict i).score ≡ 10
exact i entry = grind (arith, nat_tests)

at_most : (i : Info) → (uneven_verdict i).score ≤ 10
at_most i = grind (arith, nat_tests)

faithful : IsFaithful uneven.accepts (λ i. (uneven_verdict i).within)
faithful = record {
  leaf = λ i question entry. (λ e. cc, λ e. cc);
  pruning = λ i question node e. cc;
  fullness = λ i question node e b h. refl;
}

pub uneven-lawful : IsLawful uneven
uneven-lawful = record {
  faithful = faithful;
  exact = λ i question entry accepted. exact i entry;
  admissibility = λ i question node b h accepted. at_most i;
}
