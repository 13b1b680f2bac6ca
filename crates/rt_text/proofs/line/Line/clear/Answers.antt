use Rattle.std.proofs.Common.{arith}
use Rattle.std.proofs.lemmas.List.{drop_all}
use Rattle.rt_text.proofs.line.Line.clear.Goals as goal

pub returns : goal.returns
returns c = drop_all 128 c.self.inside.buffer (omega arith)
