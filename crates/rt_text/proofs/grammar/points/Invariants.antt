use Rattle.std.proofs.Common.{◌≡◌, ◌-◌, length}
use Rattle.rt_text.specs.Queries.{points}
use Rattle.rt_text.proofs.PointLemmas.{points_after}
use Rattle.rt_text.proofs.grammar.points.Given as goal

-- what is still to be read stands after the points so far
abbrev pub invariant-loop-vertex : goal.invariant-loop-vertex
invariant-loop-vertex l = record {
  many : length l.found.items ≡ l._vertex;
  rest : points l.count l.initial.words ≡ points_after l.found.items (l.count - l._vertex) l.words;
}
