use Rattle.std.proofs.Common.{◌∙◌}
use Rattle.rt_text.proofs.NumberLemmas.{in_lanes}
use Rattle.rt_text.proofs.numbers.written.Goals as goal

pub returns-clause-value : goal.returns-clause-value
returns-clause-value c = c.number_of.ensures ∙ (in_lanes c.args.digits.now c.requires.long c.requires.digits).2
