use Rattle.std.proofs.{Common.{◌≡◌, ◌∙◌, arith, of_z, to_z, w64}, lemmas.Int.{ints}}
use Rattle.std.specs.{List.Sorted.{IsBinarySearchResult}, Ordering.{int_cmp}}
use Rattle.rt_tree.proofs.IdLemmas.{searched-is}
use Rattle.rt_tree.proofs.ids.is_among.Goals as goal

pub returns : goal.returns
returns c =
    let same : to_z w64 (of_z w64 c.args.id) ≡ c.args.id = omega (arith, ints) in
    let found : IsBinarySearchResult (λ other. int_cmp other (to_z w64 (of_z w64 c.args.id))) c.args.ids.now c.binary_search.result =
    c.binary_search.ensures.position in
    c.is_ok.ensures.value
    ∙ searched-is c.args.ids.now c.args.id c.binary_search.result c.requires c.binary_search.ensures.bound (rw same at found)
