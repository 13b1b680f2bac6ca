use Rattle.std.proofs.Common.{arith}
use Rattle.rt_tree.proofs.LeafLemmas.{length-entries_of}
use Rattle.rt_tree.proofs.entries.Entries.len.Goals as goal

pub returns : goal.returns
returns c =
    let long = length-entries_of c.self.inside.entries.items c.self.inside.layers.items c.self.invariant in
    rw (← c.self.view_is) (omega (arith, c.len.ensures))
