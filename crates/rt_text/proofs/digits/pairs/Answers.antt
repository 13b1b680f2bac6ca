use Rattle.std.proofs.Common.{rules}
use Rattle.rt_text.proofs.digits.pairs.Goals as goal

pub returns : goal.returns
returns c = search rules
