use Rattle.std.proofs.Common.{rules}
use Rattle.rt_search.proofs.opening.put_root.Goals as goal

pub returns-clause-root : goal.returns-clause-root
returns-clause-root c = search rules
