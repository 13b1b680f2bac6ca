use Rattle.std.proofs.Common.{arith}
use Rattle.std.proofs.lemmas.Nat.{one_shl}
use Rattle.rt_geo.specs.Lemmas.Layers.{has-only}
use Rattle.rt_geo.proofs.layers.Layers.of.Goals as goal

pub returns-clause-one : goal.returns-clause-one
returns-clause-one c other =
    rw (one_shl c.args.layer 64 (omega (arith, c.requires))) (has-only c.args.layer other)
