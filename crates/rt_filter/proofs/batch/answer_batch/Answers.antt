use Rattle.std.proofs.Common.{true}
use Rattle.rt_filter.specs.Lines.{numbered_lines}
use Rattle.rt_filter.proofs.TreeLemmas.{output_same}
use Rattle.rt_filter.proofs.batch.answer_batch.Goals as goal

pub returns-clause-replies : goal.returns-clause-replies
returns-clause-replies g c loaded packed =
    rw (output_same c.args.tree.now loaded c.len.ensures.sound packed (numbered_lines c.args.text.now true))
    c.answer_text.ensures.pushed
