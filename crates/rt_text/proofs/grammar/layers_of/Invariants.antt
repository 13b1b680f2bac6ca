use Rattle.std.proofs.Common.{◌==◌, ◌≡◌, drop, length}
use Rattle.std.specs.List.{slice_split}
use Rattle.rt_text.specs.Queries.{layers_from, layers_of}
use Rattle.rt_text.proofs.grammar.layers_of.Given as goal

-- what is still to be read stands behind the parts so far
abbrev pub invariant-loop-part : goal.invariant-loop-part
invariant-loop-part l = record {
  can_next : (goal.iterator-loop-part).can_next l.part-iterator;
  is_finite : (goal.iterator-loop-part).is_finite l.part-iterator;
  rest : layers_of l.list ≡ layers_from l.layers (drop (length l.yielded) (slice_split (λ c. c == 44) l.list));
}
