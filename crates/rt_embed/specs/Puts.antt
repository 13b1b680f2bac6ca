-- How lists of answers are put one behind the other. No public contract cites it.
use Rattle.std.specs.Prelude.{◌≡◌, ◌<◌, ◌≤◌, ℕ, ◌+◌, ◌-◌, ℤ, Bool, true, false, Option, Some, None, List, ◌++◌, length, map, take, drop}
use Rattle.rt_search.specs.Answers.{Answer}
use Rattle.rt_embed.specs.Findings.{Begins, id_of, score_of}
use Rattle.rt_embed.specs.declared.finding.Position.{Position}
use Rattle.rt_embed.specs.declared.score.Score.{Score}

-- answers are put from one place on to another, all of them or as many as have places, behind whatever stands before
pub record IsPutBehind (list : List Answer) (from end : ℕ) (is_whole : Bool) (ids ids' : List ℤ) (scores scores' : List Score) : Type 0 where
  pub ids_stand : (before : List Answer) → length before ≡ from → Begins ids (map id_of before)
      → Begins ids' (map id_of (before ++ take (end - from) list))
  pub scores_stand : (before : List Answer) → length before ≡ from → Begins scores (map score_of before)
      → Begins scores' (map score_of (before ++ take (end - from) list))
  pub ids_len : length ids' ≡ length ids
  pub scores_len : length scores' ≡ length scores
  pub behind : from ≤ end
  pub place : end ≤ length ids
  pub few : end ≤ from + length list
  pub whole : is_whole ≡ true → end ≡ from + length list
  pub cut : is_whole ≡ false → (end ≡ length ids) × (end < from + length list)

-- the same for a list whose first answers are skipped
pub record IsPut (list : List Answer) (from to : Position) (ids ids' : List ℤ) (scores scores' : List Score) : Type 0 where
  pub put : IsPutBehind (drop from.skip list) from.end to.end to.is_whole ids ids' scores scores'
  pub skip : to.skip ≡ from.skip - length list

-- a search up to this limit finds the first `needed` answers: the limit is at least that, or there are fewer boxes
abbrev pub IsWithin : (limit : Option ℕ) → (needed boxes : ℕ) → Type 0
IsWithin (Some limit) needed boxes = limit ≤ needed
IsWithin None needed boxes = boxes < needed

-- the most answers that are needed from a position on: those that are skipped or have a place, and one
abbrev pub needed_from : Position → (places : ℕ) → ℕ
needed_from from places = from.skip + (places - from.end) + 1
