use Rattle.std.proofs.Common.{◌∙◌, ap, arith, length, length-append}
use Rattle.std.specs.Fmt.{decimal}
use Rattle.std.proofs.lemmas.Fmt.{length-decimal-le}
use Rattle.rt_text.proofs.line.Line.prepend_number.Goals as goal

pub prepend_short-requires : goal.prepend_short-requires
prepend_short-requires c = omega (arith, length-decimal-le 20 c.args.number (omega arith) (omega arith) c.ranges.number.fits, c.requires)

pub returns-then-number-lt-SHORT-clause-few : goal.returns-then-number-lt-SHORT-clause-few
returns-then-number-lt-SHORT-clause-few c =
    let few = length-decimal-le 20 c.args.number (omega arith) (omega arith) c.ranges.number.fits in
    omega (arith, few, ap length c.prepend_short.ensures ∙ length-append (decimal c.args.number) c.args.self.now)
