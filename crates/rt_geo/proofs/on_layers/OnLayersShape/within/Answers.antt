use Rattle.std.proofs.Common.{rules}
use Rattle.rt_geo.proofs.on_layers.OnLayersShape.within.Goals as goal

pub returns-in_default : goal.returns-in_default
returns-in_default g c = search rules
