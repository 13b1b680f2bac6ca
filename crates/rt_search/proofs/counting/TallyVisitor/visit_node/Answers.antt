use Rattle.std.proofs.Common.{arith, rules}
use Rattle.rt_search.proofs.Collectors.{tally_counted}
use Rattle.rt_search.proofs.counting.TallyVisitor.visit_node.Goals as goal

pub returns-in-Fully-clause-taken : goal.returns-in-Fully-clause-taken
returns-in-Fully-clause-taken c answers known = grind (arith, tally_counted)

pub returns-in-Partly-clause-taken : goal.returns-in-Partly-clause-taken
returns-in-Partly-clause-taken c = search rules
