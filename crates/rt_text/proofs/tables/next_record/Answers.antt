use Rattle.std.proofs.Common.{rules}
use Rattle.rt_text.proofs.tables.next_record.Goals as goal

pub returns-in-Err-clause-reads : goal.returns-in-Err-clause-reads
returns-in-Err-clause-reads g c = search rules

pub returns-in-Err-clause-reading : goal.returns-in-Err-clause-reading
returns-in-Err-clause-reading g c = search rules
