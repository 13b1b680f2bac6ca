use Rattle.std.proofs.Common.{arith, rules}
use Rattle.rt_search.proofs.{Collectors.{entries_join_all}, UnderWay.{go_on, walk_on}}
use Rattle.rt_search.proofs.opening.open.Goals as goal

-- ---- one node

pub overflow_add-opened : goal.overflow_add-opened
overflow_add-opened g c =
    let law = g.met.G.Geometry.lawful c.args.counted.now.geometry in
    let can = go_on law c.args.tree.now (search rules) c.requires.state.1 in
    let low = can.opened_low in
    omega arith

pub open_node-requires : goal.open_node-requires
open_node-requires g c =
    let law = g.met.G.Geometry.lawful c.args.counted.now.geometry in
    let can = go_on law c.args.tree.now (search rules) c.requires.state.1 in
    record {
      sound = can.tree;
      node = can.node;
      space = omega (arith, can.space, c.requires.capacity);
      asked = can.asked_low;
    }

pub returns-then-scores_nodes-clause-state : goal.returns-then-scores_nodes-clause-state
returns-then-scores_nodes-clause-state g c to_come out =
    let law = g.met.G.Geometry.lawful c.args.counted.now.geometry in
    let joined = c.open_node.ensures.children in
    rw (c.open_node.ensures.asked, joined.needed) ((go_on law c.args.tree.now (search rules) out).next _ joined.items)

-- ---- all under it

pub walk_under-requires : goal.walk_under-requires
walk_under-requires g c =
    let geometry = c.args.counted.now.geometry in
    let law = g.met.G.Geometry.lawful geometry in
    let can = walk_on law c.args.tree.now (c.scores_nodes.ensures (search rules) geometry) c.requires.state.1 in
    rw c.verdict_on-parent.ensures (record {
      sound = can.tree;
      node = can.node;
      space = omega (arith, can.space, c.requires.capacity);
      opened = can.opened_low;
      asked = can.asked_low;
    })

pub returns : goal.returns
returns g c =
    let geometry = c.args.counted.now.geometry in
    let law = g.met.G.Geometry.lawful geometry in
    let unscored = c.scores_nodes.ensures (search rules) geometry in
    let e = rw c.verdict_on-parent.ensures at c.walk_under.ensures in
    let joined = entries_join_all c.args.queue.now c.walk_under.new.visitor _ e.taken in
    let some = (walk_on law c.args.tree.now unscored c.requires.state.1).some in
    record {
      state = λ to_come out. rw (e.opened, e.asked, joined.needed)
          ((walk_on law c.args.tree.now unscored out).next _ joined.items);
      more = omega (arith, e.opened);
      needed = joined.needed;
      capacity = joined.capacity;
      geometry = e.geometry;
    }
