use Rattle.std.proofs.Common.{rules, arith}
use Rattle.rt_embed.proofs.ArrayLemmas.{begins_full, begins_put}
use Rattle.rt_embed.proofs.finding.put_at.Goals as goal

pub returns-then-place-array-clause-put : goal.returns-then-place-array-clause-put
returns-then-place-array-clause-put g c = λ before len begins.
    begins_put c.args.array.now c.args.place c.args.item before (search rules) len begins

pub returns-else-place-array-clause-put : goal.returns-else-place-array-clause-put
returns-else-place-array-clause-put g c = λ before len begins.
    begins_full c.args.array.now c.args.item before (omega (arith, len, c.if-place-array.false)) begins
