use Rattle.std.proofs.Common.{◌≡◌, ◌∙◌, ◌-◌, ap, arith, length, take}
use Rattle.rt_tree.specs.Leaves.{entries_of, with_layer}
use Rattle.rt_tree.proofs.{LeafLemmas.{length-entries_of}, PairLemmas.{paired-take}}
use Rattle.rt_tree.proofs.entries.Entries.pop.Goals as goal

pub returns : goal.returns
returns c =
    let entries = c.self.inside.entries.items in
    let layers = c.self.inside.layers.items in
    let n = c.saturating_sub-len.result in
    let long = length-entries_of entries layers c.self.invariant in
    let less : n ≡ length (entries_of entries layers) - 1 = omega (arith, c.saturating_sub-len.ensures, c.len.ensures) in
    rw (← c.self.view_is, c.truncate.ensures.items, c.truncate-2.ensures.items)
    (paired-take with_layer n entries layers ∙ ap (λ n. take n (entries_of entries layers)) less)
