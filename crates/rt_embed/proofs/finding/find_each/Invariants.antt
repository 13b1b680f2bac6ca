use Rattle.std.proofs.Common.{All, IsSome, ◌≡◌, ◌≤◌, ◌+◌, ◌-◌, flat_map, length, map, take}
use Rattle.rt_search.specs.Work.{CountsOn}
use Rattle.rt_embed.specs.Costs.{opened_by_finds}
use Rattle.rt_embed.specs.Findings.{Begins, ends_of, id_of, list_of, lists_of, score_of}
use Rattle.rt_embed.specs.PlainQueries.{question_of}
use Rattle.rt_embed.proofs.finding.find_each.Given as goal

-- the lists of so many queries are whole
abbrev pub invariant-loop-done : goal.invariant-loop-done
invariant-loop-done l = record {
  bound : l.done ≤ length l.queries;
  capacity : l.frontier.capacity ≡ l.initial.frontier.capacity;
  worked : CountsOn l.initial.frontier.opened
      (opened_by_finds l.tree l.vertices (l.fn.skip + length l.initial.ids + 1) (take l.done l.queries)) l.frontier.opened;
  ids_len : length l.ids ≡ length l.initial.ids;
  scores_len : length l.scores ≡ length l.initial.scores;
  ends_len : length l.ends ≡ length l.initial.ends;
  place : l.position.end ≤ length l.ids;
  end : l.position.end ≡ length (lists_of l.tree.entries l.vertices l.fn.skip (take l.done l.queries));
  skip : l.position.skip ≡ l.fn.skip - length (flat_map (list_of l.tree.entries l.vertices) (take l.done l.queries));
  ids_stand : Begins l.ids (map id_of (lists_of l.tree.entries l.vertices l.fn.skip (take l.done l.queries)));
  scores_stand : Begins l.scores (map score_of (lists_of l.tree.entries l.vertices l.fn.skip (take l.done l.queries)));
  ends_stand : Begins l.ends (ends_of l.tree.entries l.vertices l.fn.skip l.queries l.done);
  questions : All (λ query. IsSome (question_of l.vertices query)) (take l.done l.queries);
}

abbrev pub decreases-loop-done : goal.decreases-loop-done
decreases-loop-done l = length l.queries - l.done
