use Rattle.rt_geo.specs.Lemmas.Layers.{disjoint-has}
use Rattle.rt_geo.proofs.layers.Layers.is_disjoint.Goals as goal

pub returns-clause-none : goal.returns-clause-none
returns-clause-none c = disjoint-has c.args.self c.args.other
