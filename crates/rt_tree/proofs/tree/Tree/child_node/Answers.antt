use Rattle.std.proofs.{Common.{arith}, lemmas.Grind.{elements}}
use Rattle.rt_tree.proofs.PackSound.{child_inside}
use Rattle.rt_tree.proofs.tree.Tree.child_node.Goals as goal

pub overflow_add-result : goal.overflow_add-result
overflow_add-result c =
    let required = rw (← c.self.view_is) at c.requires in
    let sound = c.self.invariant.0 in
    omega (
      arith,
      sound.few_nodes,
      child_inside _ c.args.no.number c.args.index c.get.result sound required.inside c.get.ensures required.level required.index,
    )

pub returns-clause-value : goal.returns-clause-value
returns-clause-value c = grind (arith, elements)

pub returns-clause-inside : goal.returns-clause-inside
returns-clause-inside c =
    let required = rw (← c.self.view_is) at c.requires in
    rw (← c.self.view_is) (child_inside _ c.args.no.number c.args.index c.get.result c.self.invariant.0 required.inside c.get.ensures
    required.level required.index)
