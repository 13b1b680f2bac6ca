use Rattle.std.proofs.Common.{rules}
use Rattle.rt_search.proofs.keys.entry_key.Goals as goal

pub returns : goal.returns
returns c = search rules
