use Rattle.rt_geo.specs.Lemmas.Layers.{subset-has}
use Rattle.rt_geo.proofs.layers.Layers.is_subset.Goals as goal

pub returns-clause-each : goal.returns-clause-each
returns-clause-each c = subset-has c.args.self c.args.other
