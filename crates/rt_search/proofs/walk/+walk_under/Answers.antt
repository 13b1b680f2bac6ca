use Rattle.std.proofs.lemmas.{List.Sorted.{IsPermutation-refl}}
use Rattle.std.proofs.Common.{◌≡◌, ◌+◌, [], ap, arith, not, refl, rules, subst}
use Rattle.rt_tree.specs.Packed.{node_at}
use Rattle.rt_search.specs.{Remaining.{height_at}, Walking.{HasTaken, answers_where}, Work.{its_children, one_node}}
use Rattle.rt_search.proofs.{Children.{inner_at, is_high}, Pendings.{next_out, none_left}}
use Rattle.rt_search.proofs.Walks.{all_taken-append, all_taken_space, can_open, done_taken, done_work, taken_space}
use Rattle.rt_search.proofs.walk.+walk_under.Goals as goal

pub loop-place-init : goal.loop-place-init
loop-place-init g t c =
    let own = c.take-own.ensures in
    let checked = rw own.geometry at c.check_children.ensures in
    record {
      upto = 0;
      few = omega arith;
      waiting = checked.waiting;
      taken = ([], (IsPermutation-refl [], refl));
      opened = omega arith;
      asked = omega (arith, checked.asked, own.asked);
      geometry = checked.geometry;
    }

pub overflow_add-node : goal.overflow_add-node
overflow_add-node g t c =
    let tree = c.args.tree.now in
    let number = c.args.number.number in
    let high = is_high c.requires.node c.node-node.ensures.value c.if-node-eq1.false in
    let next = next_out c.scores_nodes-has_scores.result g.V.Visitor.opens _ c.loop-place.invariant.waiting c.in-Some.ensures.taken in
    let range = (inner_at tree (height_at tree number) (node_at tree number) c.requires.node.tree high).1.range in
    omega (arith, next.high, range, c.requires.sound.few_nodes, ap (λ n. n.first) c.node-node.ensures.value)

pub walk_under-requires : goal.walk_under-requires
walk_under-requires g t c κs within =
    let law = g.met.G.Geometry.lawful c.args.counted.now.geometry in
    let tree = c.args.tree.now in
    let inv = c.loop-place.invariant in
    let high = is_high c.requires.node c.node-node.ensures.value c.if-node-eq1.false in
    let takes = g.V.Collector.takes in
    let space = g.V.Collector.space in
    let fills = g.met.V.Collector.fills in
    let own = c.take-own.ensures in
    let n = node_at c.args.tree.now c.args.number.number in
    let closed =
    subst (λ l. HasTaken g.V.Collector.takes c.args.visitor.now l c.check_children.new.visitor)
    (ap (λ geometry. answers_where (λ v. not (g.V.Visitor.opens v)) (g.G.Geometry.meaning geometry) c.args.tree.now
    c.args.parent n n.count) own.geometry) c.check_children.ensures.taken in
    let next = next_out c.scores_nodes-has_scores.result g.V.Visitor.opens _ inv.waiting c.in-Some.ensures.taken in
    let first = ap (λ n. n.first) c.node-node.ensures.value in
    let at : c.new-number.result.number ≡ (node_at tree c.args.number.number).first + c.in-Some.place =
    omega (arith, c.new-number.ensures, first) in
    let can = can_open law c.requires.sound (search rules) c.requires.node high g.V.Visitor.opens next at _ _
    (space c.loop-place.visitor) c.requires.space
    (taken_space takes space fills c.args.visitor.now c.check_children.new.visitor _ closed)
    (all_taken_space takes space fills c.check_children.new.visitor c.loop-place.visitor _ inv.taken)
    c.args.opened.now c.loop-place.opened c.args.counted.now.asked c.loop-place.counted.asked inv.opened inv.asked
    c.requires.opened c.requires.asked in (
      omega (arith, can.lower),
      (
        within.0,
        (
          within.1,
          (
            c.requires.sound,
            rw inv.geometry
                (can.node, (can.space_is, (can.opened_few, can.asked_few))),
          ),
        ),
      ),
    )

pub loop-place-preserved : goal.loop-place-preserved
loop-place-preserved g t c =
    let law = g.met.G.Geometry.lawful c.args.counted.now.geometry in
    let tree = c.args.tree.now in
    let inv = c.loop-place.invariant in
    let high = is_high c.requires.node c.node-node.ensures.value c.if-node-eq1.false in
    let takes = g.V.Collector.takes in
    let space = g.V.Collector.space in
    let fills = g.met.V.Collector.fills in
    let own = c.take-own.ensures in
    let n = node_at c.args.tree.now c.args.number.number in
    let closed =
    subst (λ l. HasTaken g.V.Collector.takes c.args.visitor.now l c.check_children.new.visitor)
    (ap (λ geometry. answers_where (λ v. not (g.V.Visitor.opens v)) (g.G.Geometry.meaning geometry) c.args.tree.now
    c.args.parent n n.count) own.geometry) c.check_children.ensures.taken in
    let next = next_out c.scores_nodes-has_scores.result g.V.Visitor.opens _ inv.waiting c.in-Some.ensures.taken in
    let first = ap (λ n. n.first) c.node-node.ensures.value in
    let at : c.new-number.result.number ≡ (node_at tree c.args.number.number).first + c.in-Some.place =
    omega (arith, c.new-number.ensures, first) in
    let can = can_open law c.requires.sound (search rules) c.requires.node high g.V.Visitor.opens next at _ _
    (space c.loop-place.visitor) c.requires.space
    (taken_space takes space fills c.args.visitor.now c.check_children.new.visitor _ closed)
    (all_taken_space takes space fills c.check_children.new.visitor c.loop-place.visitor _ inv.taken)
    c.args.opened.now c.loop-place.opened c.args.counted.now.asked c.loop-place.counted.asked inv.opened inv.asked
    c.requires.opened c.requires.asked in
    let e = rw inv.geometry at c.walk_under.ensures in
    record {
      upto = c.in-Some.place + 1;
      few = omega (arith, next.high);
      waiting = next.rest;
      taken = rw can.found (all_taken-append takes c.check_children.new.visitor c.loop-place.visitor
          c.walk_under.new.visitor _ _ inv.taken e.taken);
      opened = omega (arith, inv.opened, e.opened, can.work one_node);
      asked = omega (arith, inv.asked, e.asked, can.work its_children);
      geometry = e.geometry;
    }

pub returns-clause-taken : goal.returns-clause-taken
returns-clause-taken g t c =
    let law = g.met.G.Geometry.lawful c.args.counted.now.geometry in
    let inv = c.loop-place.invariant in
    let high = is_high c.requires.node c.node-node.ensures.value c.if-node-eq1.false in
    let own = c.take-own.ensures in
    let n = node_at c.args.tree.now c.args.number.number in
    let closed =
    subst (λ l. HasTaken g.V.Collector.takes c.args.visitor.now l c.check_children.new.visitor)
    (ap (λ geometry. answers_where (λ v. not (g.V.Visitor.opens v)) (g.G.Geometry.meaning geometry) c.args.tree.now
    c.args.parent n n.count) own.geometry) c.check_children.ensures.taken in
    done_taken law c.requires.sound (search rules) c.requires.node high g.V.Visitor.opens inv.few
    (none_left c.scores_nodes-has_scores.result g.V.Visitor.opens _ inv.waiting c.in_default.ensures.taken)
    g.V.Collector.takes c.args.visitor.now c.check_children.new.visitor c.loop-place.visitor closed inv.taken

pub returns-clause-opened : goal.returns-clause-opened
returns-clause-opened g t c =
    let law = g.met.G.Geometry.lawful c.args.counted.now.geometry in
    let inv = c.loop-place.invariant in
    let high = is_high c.requires.node c.node-node.ensures.value c.if-node-eq1.false in
    omega (
      arith,
      inv.opened,
      done_work law c.requires.sound (search rules) c.requires.node high g.V.Visitor.opens inv.few
          (none_left c.scores_nodes-has_scores.result g.V.Visitor.opens _ inv.waiting c.in_default.ensures.taken) one_node,
    )

pub returns-clause-asked : goal.returns-clause-asked
returns-clause-asked g t c =
    let law = g.met.G.Geometry.lawful c.args.counted.now.geometry in
    let inv = c.loop-place.invariant in
    let high = is_high c.requires.node c.node-node.ensures.value c.if-node-eq1.false in
    omega (
      arith,
      inv.asked,
      done_work law c.requires.sound (search rules) c.requires.node high g.V.Visitor.opens inv.few
          (none_left c.scores_nodes-has_scores.result g.V.Visitor.opens _ inv.waiting c.in_default.ensures.taken) its_children,
    )
