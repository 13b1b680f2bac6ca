use Rattle.std.proofs.Common.{rules}
use Rattle.rt_search.proofs.walk.info_under.Goals as goal

pub returns : goal.returns
returns c = search rules
