use Rattle.std.proofs.{Common.{rules}, lemmas.List.Sorted.{answers_always}}
use Rattle.std.specs.Prelude.{int_lt}
use Rattle.rt_tree.proofs.IdLemmas.{rising-is}
use Rattle.rt_tree.proofs.ids.rises.Goals as goal

pub returns : goal.returns
returns c = rising-is c.args.ids.now c.is_sorted_by.result (c.is_sorted_by.ensures.cases int_lt
    (answers_always _ _ _ (λ f a r g h. search rules)))
