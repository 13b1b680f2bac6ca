use Rattle.rt_filter.proofs.filter.run_std.Goals as goal
use Rattle.std.proofs.{Common.{rules, arith}, lemmas.Grind.{common_steps}}

pub returns-clause-headline : goal.returns-clause-headline
returns-clause-headline g c = grind (arith, common_steps)

pub returns-clause-turns : goal.returns-clause-turns
returns-clause-turns g c e none = search rules
