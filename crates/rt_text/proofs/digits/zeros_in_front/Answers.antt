use Rattle.rt_text.proofs.DigitLemmas.{zeros_of_mask}
use Rattle.rt_text.proofs.digits.zeros_in_front.Goals as goal

pub returns : goal.returns
returns c = zeros_of_mask c.args.digits c.requires.long c.requires.some
