use Rattle.std.proofs.lemmas.Grind.{common_steps}
use Rattle.std.proofs.{Common.{◌≤◌, arith, rules}, lemmas.Bool.Decides.{nat_tests}}
use Rattle.std.proofs.lemmas.List.{length-append, length-take, take-append-drop, Elements.{filter-append}}
use Rattle.std.proofs.lemmas.List.{Sums.{count_by-le-length, length-filter}}
use Rattle.rt_search.proofs.cut.has_upto.Goals as goal

pub overflow_add-found : goal.overflow_add-found
overflow_add-found g c =
    let one : c.from-found.result ≤ 1 = search rules in
    grind (arith, length-filter, count_by-le-length, length-take)

pub loop-item-preserved : goal.loop-item-preserved
loop-item-preserved g c = grind (arith, common_steps)

pub returns-then-count-found : goal.returns-then-count-found
returns-then-count-found g c =
    let whole = take-append-drop c.loop-item.item-index c.args.items.now in
    grind (arith, nat_tests, filter-append, length-append)

pub returns : goal.returns
returns g c = grind (arith, common_steps)
