use Rattle.rt_geo.specs.Lemmas.Layers.{has-union}
use Rattle.rt_geo.proofs.layers.Layers.union.Goals as goal

pub returns-clause-both : goal.returns-clause-both
returns-clause-both c = has-union c.args.self c.args.other
