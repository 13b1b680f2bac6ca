use Rattle.std.proofs.Common.{◌++◌, ◌∙◌, ap}
use Rattle.rt_text.proofs.DigitLemmas.{in_text}
use Rattle.rt_text.proofs.line.Line.prepend_digits.Goals as goal

pub returns : goal.returns
returns c = c.prepend.ensures ∙ ap (λ front. front ++ c.args.self.now) (in_text c.args.digits 16 c.requires.digits.0 c.requires.digits.1)
