use Rattle.rt_filter.proofs.RunLemmas.{has_loaded}
use Rattle.rt_filter.proofs.filter.load.Goals as goal
use Rattle.std.proofs.Common.{arith}

pub returns-clause-loaded : goal.returns-clause-loaded
returns-clause-loaded g c table is_table = grind (arith, has_loaded)
