use Rattle.std.proofs.Common.{◌≡◌, ◌-◌, ◌+◌, ◌≤◌, ◌++◌, List, drop, length, map, take}
use Rattle.rt_search.specs.Answers.{Answer}
use Rattle.rt_embed.specs.Findings.{Begins, id_of, score_of}
use Rattle.rt_embed.proofs.finding.put_rest.Given as goal

-- the answers that were given stand behind what stood before
abbrev pub invariant-loop-id : goal.invariant-loop-id
invariant-loop-id g l = record {
  behind : l.fn.from ≤ l.end;
  place : l.end ≤ length l.ids;
  ids_len : length l.ids ≡ length l.initial.ids;
  scores_len : length l.scores ≡ length l.initial.scores;
  capacity : l.search.capacity ≡ l.initial.search.capacity;
  tree : l.search.tree ≡ l.initial.search.tree;
  geometry : l.search.geometry ≡ l.initial.search.geometry;
  limit : l.search.limit ≡ l.initial.search.limit;
  opened_before : l.search.opened_before ≡ l.initial.search.opened_before;
  given : l.search.given + l.fn.from ≡ l.initial.search.given + l.end;
  to_come : l.search.to_come ≡ drop (l.end - l.fn.from) l.initial.search.to_come;
  all : l.end + length l.search.to_come ≡ l.fn.from + length l.initial.search.to_come;
  ids_stand : (before : List Answer) → length before ≡ l.fn.from → Begins l.initial.ids (map id_of before)
      → Begins l.ids (map id_of (before ++ take (l.end - l.fn.from) l.initial.search.to_come));
  scores_stand : (before : List Answer) → length before ≡ l.fn.from → Begins l.initial.scores (map score_of before)
      → Begins l.scores (map score_of (before ++ take (l.end - l.fn.from) l.initial.search.to_come));
}

abbrev pub decreases-loop-id : goal.decreases-loop-id
decreases-loop-id g l = length l.search.to_come
