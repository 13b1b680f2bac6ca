use Rattle.rt_search.proofs.Collectors.{counts, tally_counted}
use Rattle.rt_search.proofs.counting.TallyCollector.visit_entries.Goals as goal

pub returns-clause-taken : goal.returns-clause-taken
returns-clause-taken g c = tally_counted c.args.self.now _ _ (counts (λ n. n) _ _ _ c.visit_entries.ensures.taken)
