use Rattle.std.proofs.Common.{refl}
use Rattle.std.proofs.lemmas.Fmt.{decimal_digit}
use Rattle.rt_text.proofs.line.Line.prepend_wide.Goals as goal

pub returns-then-number-lt10-clause-value : goal.returns-then-number-lt10-clause-value
returns-then-number-lt10-clause-value c = rw (c.prepend_byte.ensures, decimal_digit c.args.number c.if-number-lt10.true) refl
