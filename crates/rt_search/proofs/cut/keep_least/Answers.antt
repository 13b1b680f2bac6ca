use Rattle.std.proofs.{Common.{arith, ◌≡◌, inr, rules}, lemmas.Fn.{filter_same}}
use Rattle.std.specs.List.{filter}
use Rattle.rt_search.specs.Kept.{is_upto}
use Rattle.rt_search.proofs.cut.keep_least.Goals as goal

pub returns-then-has_upto-clause-cut : goal.returns-then-has_upto-clause-cut
returns-then-has_upto-clause-cut g c =
    let upto = is_upto g.T.Ord.cmp c.in-Some.bound in
    let left : c.retain.new.self.items ≡ filter upto c.args.items.now.items =
    filter_same _ upto _ (λ x b f called. (search rules, search rules)) _ _ c.retain.ensures.filtered in
    inr (c.in-Some.bound, grind arith)
