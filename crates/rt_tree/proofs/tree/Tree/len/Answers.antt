use Rattle.std.proofs.Common.{rules, subst, sym}
use Rattle.rt_tree.specs.Packed.{IsWhole}
use Rattle.rt_tree.proofs.PackSound.{pack_of-IsSound}
use Rattle.rt_tree.proofs.tree.Tree.len.Goals as goal

pub returns-clause-value : goal.returns-clause-value
returns-clause-value c = search rules

pub returns-clause-whole : goal.returns-clause-whole
returns-clause-whole c =
    let sound = c.self.invariant.0 in
    let packed = c.self.invariant.1 in
    rw (← c.self.view_is) (subst IsWhole (sym packed) (pack_of-IsSound _ _ sound.several sound.table).1)
