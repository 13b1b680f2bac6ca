use Rattle.std.proofs.Common.{◌≡◌, ◌+◌, not}
use Rattle.rt_tree.specs.Packed.{node_at}
use Rattle.rt_search.specs.{Pending.{HasWaiting}, Walking.{HasTaken, answers_where, verdict_of_child}}
use Rattle.rt_search.proofs.walk.check_children.Given as goal

abbrev pub invariant-loop-i : goal.invariant-loop-i
invariant-loop-i g l =
    let geometry = l.initial.counted.geometry in
    let meaning = g.G.Geometry.meaning geometry in
    let opens = g.V.Visitor.opens in
    let n = node_at l.tree l.fn.number.number in
    record {
      waiting : HasWaiting l.fn.has_scores opens (verdict_of_child meaning l.tree l.parent n) 0 l.i l.pending;
      taken : HasTaken g.V.Collector.takes l.initial.visitor
          (answers_where (λ v. not (opens v)) meaning l.tree l.parent n l.i) l.visitor;
      geometry : l.counted.geometry ≡ l.initial.counted.geometry;
      asked : l.counted.asked ≡ l.initial.counted.asked + l.i;
    }
