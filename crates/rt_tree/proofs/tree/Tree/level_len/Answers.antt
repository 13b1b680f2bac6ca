use Rattle.std.proofs.Common.{◌-◌, arith, length, rules}
use Rattle.rt_tree.specs.Packed.{IsSound}
use Rattle.rt_tree.proofs.LevelSizes.{level_above, level_last}
use Rattle.rt_tree.proofs.tree.Tree.level_len.Goals as goal

pub returns-clause-value : goal.returns-clause-value
returns-clause-value c = search rules

pub returns-clause-above : goal.returns-clause-above
returns-clause-above c below some e =
    let tree = c.args.self.now in
    let sound : IsSound tree = rw (← c.self.view_is) c.self.invariant.0 in
    level_above (length tree.entries) tree.fanout (c.args.level - 1) c.args.level below c.size.result sound.several
    (omega arith) e (returns-clause-value c)

pub returns-clause-root : goal.returns-clause-root
returns-clause-root c some =
    let tree = c.args.self.now in
    let sound : IsSound tree = rw (← c.self.view_is) c.self.invariant.0 in
    let reported = level_last (length tree.entries) tree.fanout c.args.level c.size.result _ sound.several some
    (returns-clause-value c) sound.top in
    ((λ one. omega (arith, reported.0 one)), (λ top. reported.1 (omega arith)))
