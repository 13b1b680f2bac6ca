use Rattle.rt_filter.proofs.measures.cost_of_count.Goals as goal

pub returns-clause-opened : goal.returns-clause-opened
returns-clause-opened c = rw c.new.ensures.geometry at c.count-counted.ensures.opened
