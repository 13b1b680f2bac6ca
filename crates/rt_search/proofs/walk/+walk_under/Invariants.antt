use Rattle.std.proofs.Common.{◌≡◌, ◌≤◌, ◌+◌, ◌-◌, ℕ, take}
use Rattle.std.specs.List.{sum_by}
use Rattle.rt_tree.specs.{Packed.{child_nodes, node_at}, declared.tree.Node.{Node}}
use Rattle.rt_search.specs.{Pending.{HasWaiting}, Remaining.{height_at}, Walking.{HasTakenAll, answers_where}}
use Rattle.rt_search.specs.{Walking.{verdict_of_child, work_of_child}, Work.{its_children, one_node}}
use Rattle.rt_search.proofs.walk.+walk_under.Given as goal

abbrev pub decreases-walk_under : goal.decreases-walk_under
decreases-walk_under g l = (node_at l.tree.now l.number.number).level

abbrev pub decreases-loop-place : goal.decreases-loop-place
decreases-loop-place g l = l.pending.places

abbrev pub invariant-loop-place : goal.invariant-loop-place
invariant-loop-place g l =
    let geometry = l.fn.counted.geometry in
    let meaning = g.G.Geometry.meaning geometry in
    let opens = g.V.Visitor.opens in
    let number = l.fn.number.number in
    let n = node_at l.tree number in
    let below = height_at l.tree number - 1 in
    let work : (Node → ℕ) → ℕ → ℕ =
    λ cost upto. sum_by (work_of_child opens cost meaning l.tree l.fn.parent below) (take upto (child_nodes l.tree n)) in
    record {
      upto : ℕ;
      few : upto ≤ n.count;
      waiting : HasWaiting l.has_scores opens (verdict_of_child meaning l.tree l.fn.parent n) upto n.count l.pending;
      taken : HasTakenAll g.V.Collector.takes l.initial.visitor (answers_where opens meaning l.tree l.fn.parent n upto) l.visitor;
      opened : l.opened ≡ l.fn.opened + 1 + work one_node upto;
      asked : l.counted.asked ≡ l.fn.counted.asked + n.count + work its_children upto;
      geometry : l.counted.geometry ≡ l.fn.counted.geometry;
    }
