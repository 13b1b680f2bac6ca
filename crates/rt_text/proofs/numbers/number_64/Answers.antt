use Rattle.std.proofs.Common.{rules}
use Rattle.rt_text.proofs.NumberLemmas.{number_text-whole}
use Rattle.rt_text.proofs.numbers.number_64.Goals as goal

pub returns-then-found-low-clause-value : goal.returns-then-found-low-clause-value
returns-then-found-low-clause-value c =
    rw (number_text-whole c.args.text.now _ _ c.if-found-text.true c.in-Some.ensures.value) (search rules)

pub returns-else-high-found-clause-value : goal.returns-else-high-found-clause-value
returns-else-high-found-clause-value c =
    rw (number_text-whole c.args.text.now _ _ c.if-found-text.true c.in-Some.ensures.value) (search rules)
