use Rattle.std.proofs.{Common.{arith}, lemmas.Grind.{elements}}
use Rattle.rt_tree.proofs.PackSound.{few_children}
use Rattle.rt_tree.proofs.tree.Tree.node.Goals as goal

pub returns-clause-value : goal.returns-clause-value
returns-clause-value c = grind (arith, elements)

pub returns-clause-few : goal.returns-clause-few
returns-clause-few c =
    let inside = rw (← c.self.view_is) at c.requires in
    omega (arith, few_children _ c.args.no.number c.get.result c.self.invariant.0 inside c.get.ensures, c.self.invariant.3)
