use Rattle.std.proofs.{Common.{◌∙◌, arith, rules, add-one}, lemmas.Grind.{common_steps}}
use Rattle.rt_search.proofs.{Children.{asked, children_inside, children_of, node_question}, Collectors.{entries_join}}
use Rattle.rt_search.proofs.{Limits.{enough_node}, UnderWay.{leaf_joins, nodes_join}, Working.{length-join_nodes}}
use Rattle.rt_search.proofs.opening.open_node.Goals as goal

pub returns-then-node-eq1-clause-children : goal.returns-then-node-eq1-clause-children
returns-then-node-eq1-clause-children g c = search (rules, entries_join, leaf_joins)

pub child_nodes-children-requires : goal.child_nodes-children-requires
child_nodes-children-requires g c = search (rules, children_inside)

pub overflow_cast-i : goal.overflow_cast-i
overflow_cast-i g c = grind (arith, common_steps)

pub overflow_add-first : goal.overflow_add-first
overflow_add-first g c = grind (arith, common_steps)

pub node-whole-requires : goal.node-whole-requires
node-whole-requires g c = grind (arith, common_steps)

pub check-requires : goal.check-requires
check-requires g c =
    let here = children_of c.requires.node c.node-node.ensures.value c.if-node-eq1.false c.child_nodes-children.ensures in
    let k = asked here c.loop-i.i c.verdict_on-parent.result c.loop-i-test.true c.index-children-i.is c.new-number.ensures
    c.node-whole.ensures.value c.info_under-info.ensures in
    let tree = c.args.tree.now in
    let meaning = g.G.Geometry.meaning c.args.counted.now.geometry in
    let parent = c.verdict_on-parent in
    let below = rw (← parent.ensures) at c.requires.node.below in
    let question = node_question meaning tree c.requires.sound parent.result (search rules) _ _ _ _ c.requires.node.low below k.child in
    let info = k.info_is in
    rw c.loop-i.invariant.geometry (record {
      honest = rw info question.honest;
      layers = rw info question.well_formed.layers;
      count = search rules;
    })

pub put_node-requires : goal.put_node-requires
put_node-requires g c =
    let here = children_of c.requires.node c.node-node.ensures.value c.if-node-eq1.false c.child_nodes-children.ensures in
    search (rules, length-join_nodes)

pub loop-i-preserved : goal.loop-i-preserved
loop-i-preserved g c =
    let here = children_of c.requires.node c.node-node.ensures.value c.if-node-eq1.false c.child_nodes-children.ensures in
    let k = asked here c.loop-i.i c.verdict_on-parent.result c.loop-i-test.true c.index-children-i.is
    c.new-number.ensures c.node-whole.ensures.value c.info_under-info.ensures in
    let inv = c.loop-i.invariant in
    let e = rw inv.geometry at c.check.ensures in
    let h = rw (e.verdict, inv.children.needed) at c.put_node.ensures in
    let items = enough_node c.args.queue.now.needed _ _ _ _ _ inv.children.items (rw k.at at (rw k.info_is at h.items)) in
    record {
      children = record { items = rw add-one items; needed = h.needed; capacity = h.capacity ∙ inv.children.capacity };
      geometry = e.geometry;
      asked = omega arith;
    }

pub returns : goal.returns
returns g c =
    let here = children_of c.requires.node c.node-node.ensures.value c.if-node-eq1.false c.child_nodes-children.ensures in
    record { children = search (rules, nodes_join); asked = omega arith; geometry = search rules }
