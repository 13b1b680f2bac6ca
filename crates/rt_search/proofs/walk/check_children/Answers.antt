use Rattle.std.proofs.lemmas.Grind.{common_steps}
use Rattle.std.proofs.{Common.{◌≡◌, ◌≤◌, ◌+◌, ◌-◌, ◌∙◌, ℕ, List, ap, append-nil, arith, not, rules, subst, sym}}
use Rattle.rt_geo.specs.declared.geometry.Within.TheVariants.{Not}
use Rattle.rt_tree.specs.Packed.{node_at}
use Rattle.rt_search.specs.{Answers.{Answer}, Walking.{HasTaken, answers_under, answers_where}}
use Rattle.rt_search.proofs.{Children.{asked, children_of, node_question, not_low}, Pendings.{one_closed, one_dropped, one_waits}}
use Rattle.rt_search.proofs.Walks.{child_fits, closed_more, known, taken-append, taken_space}
use Rattle.rt_search.proofs.walk.check_children.Goals.{else-visit_node, then-visit_node}
use Rattle.rt_search.proofs.walk.check_children.Goals as goal

pub check-verdict-requires-clause-honest : goal.check-verdict-requires-clause-honest
check-verdict-requires-clause-honest g c =
    let high : 2 ≤ (node_at c.args.tree.now c.args.number.number).level = omega (arith, c.requires.high, c.requires.level) in
    let here = children_of c.requires.node c.node-node.ensures.value (not_low c.node-node.ensures.value high) c.child_nodes-children.ensures in
    let level : c.args.level ≡ c.node-node.result.level - 1 =
    omega (arith, c.requires.level, ap (λ n. n.level) c.node-node.ensures.value) in
    let k = asked here c.loop-i.i c.args.parent c.loop-i-test.true c.index-children-i.is c.new-number.ensures
    c.node-whole.ensures.value (rw level at c.info_under-info.ensures) in
    let meaning = g.G.Geometry.meaning c.args.counted.now.geometry in
    let question = node_question meaning c.args.tree.now c.requires.sound c.args.parent (search rules) _ _ _ _ c.requires.node.low
    c.requires.node.below k.child in
    rw (c.loop-i.invariant.geometry, k.info_is) question.honest

pub check-verdict-requires-clause-layers : goal.check-verdict-requires-clause-layers
check-verdict-requires-clause-layers g c =
    let high : 2 ≤ (node_at c.args.tree.now c.args.number.number).level = omega (arith, c.requires.high, c.requires.level) in
    let here = children_of c.requires.node c.node-node.ensures.value (not_low c.node-node.ensures.value high) c.child_nodes-children.ensures in
    let level : c.args.level ≡ c.node-node.result.level - 1 =
    omega (arith, c.requires.level, ap (λ n. n.level) c.node-node.ensures.value) in
    let k = asked here c.loop-i.i c.args.parent c.loop-i-test.true c.index-children-i.is c.new-number.ensures
    c.node-whole.ensures.value (rw level at c.info_under-info.ensures) in
    let meaning = g.G.Geometry.meaning c.args.counted.now.geometry in
    let question = node_question meaning c.args.tree.now c.requires.sound c.args.parent (search rules) _ _ _ _ c.requires.node.low
    c.requires.node.below k.child in
    rw k.info_is question.well_formed.layers

pub keep-requires-clause-place : goal.keep-requires-clause-place
keep-requires-clause-place g c = grind (arith, common_steps)

pub visit_node-requires : goal.visit_node-requires
visit_node-requires g c =
    let high : 2 ≤ (node_at c.args.tree.now c.args.number.number).level = omega (arith, c.requires.high, c.requires.level) in
    let here = children_of c.requires.node c.node-node.ensures.value (not_low c.node-node.ensures.value high) c.child_nodes-children.ensures in
    let level : c.args.level ≡ c.node-node.result.level - 1 =
    omega (arith, c.requires.level, ap (λ n. n.level) c.node-node.ensures.value) in
    let k = asked here c.loop-i.i c.args.parent c.loop-i-test.true c.index-children-i.is c.new-number.ensures
    c.node-whole.ensures.value (rw level at c.info_under-info.ensures) in
    let law = g.met.G.Geometry.lawful c.args.counted.now.geometry in
    let fits = child_fits law c.requires.sound (search rules) c.requires.node high g.V.Visitor.opens c.loop-i.i k.few
    _ _ c.requires.space (taken_space g.V.Collector.takes g.V.Collector.space g.met.V.Collector.fills c.args.visitor.now
    c.loop-i.visitor _ c.loop-i.invariant.taken) in
    omega (arith, ap (λ n. n.size) k.is, rw (← k.at) at fits)

pub put-requires : goal.put-requires
put-requires g c = grind (arith, common_steps)

pub loop-i-preserved-then-eq : goal.loop-i-preserved-then-eq
loop-i-preserved-then-eq g c =
    let high : 2 ≤ (node_at c.args.tree.now c.args.number.number).level = omega (arith, c.requires.high, c.requires.level) in
    let here = children_of c.requires.node c.node-node.ensures.value (not_low c.node-node.ensures.value high) c.child_nodes-children.ensures in
    let level : c.args.level ≡ c.node-node.result.level - 1 =
    omega (arith, c.requires.level, ap (λ n. n.level) c.node-node.ensures.value) in
    let k = asked here c.loop-i.i c.args.parent c.loop-i-test.true c.index-children-i.is c.new-number.ensures
    c.node-whole.ensures.value (rw level at c.info_under-info.ensures) in
    let law = g.met.G.Geometry.lawful c.args.counted.now.geometry in
    let i = c.loop-i.invariant in
    let e = rw i.geometry at c.check-verdict.ensures in
    let reported = rw (k.info_is, k.at) at e.verdict in
    let dropped : c.check-verdict.result.within ≡ Not = search rules in
    let closed = g.met.V.Visitor.drops c.check-verdict.result dropped in
    let empty = rw k.at at ((known law c.requires.sound (search rules) c.requires.node high k).none (rw e.verdict at dropped)) in
    let n = node_at c.args.tree.now c.args.number.number in
    let found : ℕ → List Answer =
    answers_where (λ v. not (g.V.Visitor.opens v)) (g.G.Geometry.meaning c.args.counted.now.geometry) c.args.tree.now c.args.parent n in
    let more = closed_more law c.requires.sound (search rules) c.requires.node high g.V.Visitor.opens c.loop-i.i in
    let same : found (c.loop-i.i + 1) ≡ found c.loop-i.i = sym more ∙ rw (rw reported at closed, empty) (append-nil (found c.loop-i.i)) in
    record {
      waiting = one_dropped c.args.has_scores g.V.Visitor.opens _ reported i.waiting dropped closed;
      taken = subst (λ l. HasTaken g.V.Collector.takes c.args.visitor.now l c.loop-i.visitor) (sym same) i.taken;
      geometry = e.geometry;
      asked = omega (arith, e.asked, i.asked);
    }

pub loop-i-preserved : goal.loop-i-preserved
loop-i-preserved g c =
    let high : 2 ≤ (node_at c.args.tree.now c.args.number.number).level = omega (arith, c.requires.high, c.requires.level) in
    let here = children_of c.requires.node c.node-node.ensures.value (not_low c.node-node.ensures.value high) c.child_nodes-children.ensures in
    let level : c.args.level ≡ c.node-node.result.level - 1 =
    omega (arith, c.requires.level, ap (λ n. n.level) c.node-node.ensures.value) in
    let k = asked here c.loop-i.i c.args.parent c.loop-i-test.true c.index-children-i.is c.new-number.ensures
    c.node-whole.ensures.value (rw level at c.info_under-info.ensures) in
    let law = g.met.G.Geometry.lawful c.args.counted.now.geometry in
    let i = c.loop-i.invariant in
    let e = rw i.geometry at c.check-verdict.ensures in
    let reported = rw (k.info_is, k.at) at e.verdict in
    let answer = c.visit_node.ensures.opens ∙ ap g.V.Visitor.opens reported in
    let keeps = c.keep.ensures in
    let size = ap (λ n. n.size) k.is in
    let those = c.visit_node.ensures.taken (answers_under c.args.tree.now (g.G.Geometry.meaning c.args.counted.now.geometry)
    c.new-number.result.number) (rw (← e.verdict, ← size) at
    (known law c.requires.sound (search rules) c.requires.node high k)) in
    let more = closed_more law c.requires.sound (search rules) c.requires.node high g.V.Visitor.opens c.loop-i.i in
    record {
      waiting = elim c.if-visit_node.branch [
        | then-visit_node w ↦
            let opened = sym c.visit_node.ensures.opens ∙ w.if-visit_node.true in
            rw w.pending-is (one_waits c.args.has_scores g.V.Visitor.opens _ reported i.waiting keeps
            (λ not. absurd (grind (arith, g.met.V.Visitor.drops c.check-verdict.result not))) opened w.put.ensures)
        | else-visit_node w ↦
            rw w.pending-is (one_closed c.args.has_scores g.V.Visitor.opens _ reported i.waiting keeps
            (sym c.visit_node.ensures.opens ∙ w.if-visit_node.false))
      ];
      taken = subst (λ l. HasTaken g.V.Collector.takes c.args.visitor.now l c.visit_node.new.self) more
          (taken-append g.V.Collector.takes c.args.visitor.now c.loop-i.visitor c.visit_node.new.self _ _ i.taken
          (rw answer at (rw k.at at those)));
      geometry = e.geometry;
      asked = omega (arith, e.asked, i.asked);
    }

pub returns-clause-waiting : goal.returns-clause-waiting
returns-clause-waiting g c =
    let high : 2 ≤ (node_at c.args.tree.now c.args.number.number).level = omega (arith, c.requires.high, c.requires.level) in
    let here = children_of c.requires.node c.node-node.ensures.value (not_low c.node-node.ensures.value high) c.child_nodes-children.ensures in
    search rules

pub returns-clause-taken : goal.returns-clause-taken
returns-clause-taken g c =
    let high : 2 ≤ (node_at c.args.tree.now c.args.number.number).level = omega (arith, c.requires.high, c.requires.level) in
    let here = children_of c.requires.node c.node-node.ensures.value (not_low c.node-node.ensures.value high) c.child_nodes-children.ensures in
    search rules

pub returns-clause-asked : goal.returns-clause-asked
returns-clause-asked g c =
    let high : 2 ≤ (node_at c.args.tree.now c.args.number.number).level = omega (arith, c.requires.high, c.requires.level) in
    let here = children_of c.requires.node c.node-node.ensures.value (not_low c.node-node.ensures.value high) c.child_nodes-children.ensures in
    search rules
