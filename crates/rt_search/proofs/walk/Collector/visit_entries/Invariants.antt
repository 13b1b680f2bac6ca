use Rattle.std.proofs.Common.{◌≡◌, ◌+◌}
use Rattle.rt_search.specs.Walking.{HasTaken, answers_among}
use Rattle.rt_search.proofs.walk.Collector.visit_entries.Given as goal

abbrev pub invariant-loop-i : goal.invariant-loop-i
invariant-loop-i g l =
    let geometry = l.initial.counted.geometry in
    record {
      taken : HasTaken g.Self.Collector.takes l.initial.self
          (answers_among l.tree (g.G.Geometry.meaning geometry) l.fn.node l.i) l.self;
      geometry : l.counted.geometry ≡ l.initial.counted.geometry;
      asked : l.counted.asked ≡ l.initial.counted.asked + l.i;
    }
