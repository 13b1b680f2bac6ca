use Rattle.std.proofs.Common.{◌≡◌, ◌-◌, List, None}
use Rattle.rt_search.specs.{Answers.{Answer}, Progress.{IsUnderWay}, Work.{is_reached, one_node, reached_from_root}}
use Rattle.rt_search.proofs.search.pull.Given as goal

abbrev pub invariant-loop-node : goal.invariant-loop-node
invariant-loop-node g l =
    let meaning = g.G.Geometry.meaning l.initial.counted.geometry in
    record {
      state : (to_come : List Answer) → IsUnderWay meaning l.tree l.initial.opened l.initial.counted.asked
          l.initial.queue.needed to_come l.initial.queue.items
          → IsUnderWay meaning l.tree l.opened l.counted.asked l.queue.needed to_come l.queue.items;
      needed : l.queue.needed ≡ l.initial.queue.needed;
      capacity : l.queue.capacity ≡ l.initial.queue.capacity;
      geometry : l.counted.geometry ≡ l.initial.counted.geometry;
    }

abbrev pub decreases-loop-node : goal.decreases-loop-node
decreases-loop-node g l =
    reached_from_root (is_reached None) one_node (g.G.Geometry.meaning l.initial.counted.geometry) l.tree - l.opened
