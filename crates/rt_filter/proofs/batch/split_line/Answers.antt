use Rattle.std.proofs.Common.{rules}
use Rattle.std.proofs.lemmas.List.{drop_all, take_rest}
use Rattle.rt_filter.proofs.BatchLemmas.{line_at_end, line_before}
use Rattle.rt_filter.proofs.batch.split_line.Goals as goal

pub returns-in-Some-clause-lines : goal.returns-in-Some-clause-lines
returns-in-Some-clause-lines c number = search (rules, line_before, take_rest)

pub returns-in-None-clause-lines : goal.returns-in-None-clause-lines
returns-in-None-clause-lines c number = search (rules, line_at_end, take_rest, drop_all)
