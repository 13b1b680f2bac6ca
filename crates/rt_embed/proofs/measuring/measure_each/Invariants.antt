use Rattle.std.proofs.Common.{All, IsSome, ◌≡◌, ◌≤◌, ◌-◌, length, map, take}
use Rattle.rt_search.specs.Work.{CountsOn}
use Rattle.rt_embed.specs.{Costs.{opened_by_measures}, PlainQueries.{question_of}, Questions.{measured_of}}
use Rattle.rt_embed.proofs.measuring.measure_each.Given as goal

-- so many are measured
abbrev pub invariant-loop-done : goal.invariant-loop-done
invariant-loop-done l = record {
  bound : l.done ≤ l.most;
  len : length l.measured ≡ length l.initial.measured;
  capacity : l.frontier.capacity ≡ l.initial.frontier.capacity;
  worked : CountsOn l.initial.frontier.opened (opened_by_measures l.tree l.vertices l.measure (take l.done l.queries)) l.frontier.opened;
  measured : take l.done l.measured ≡ map (measured_of l.tree l.vertices l.measure) (take l.done l.queries);
  questions : All (λ query. IsSome (question_of l.vertices query)) (take l.done l.queries);
}

abbrev pub decreases-loop-done : goal.decreases-loop-done
decreases-loop-done l = l.most - l.done
