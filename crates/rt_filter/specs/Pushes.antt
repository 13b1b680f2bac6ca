-- What pushes add up to. Of the public contracts that of `answer_batch` alone cites it.
use Rattle.std.specs.Prelude.{◌≡◌, ◌+◌, ℕ, List, flat_map, Option, Result, MatchResult}
use Rattle.std.specs.Io.{StartsWith, KnownBytes.{Appends}}
use Rattle.rt_text.specs.ReplyLines.{answer_line}
use Rattle.rt_search.specs.Answers.{Answer}

-- a line for each answer
abbrev pub answer_lines : List Answer → List ℕ
answer_lines found = flat_map (λ answer. answer_line answer.0 answer.1) found

-- a push was cut short: what went out is a prefix of the bytes
pub record WasCut (old new : Option (List ℕ)) (bytes : List ℕ) : Type 0 where
  pub went : List ℕ
  pub prefix : StartsWith bytes went
  pub pushed : Appends old new went

-- what a call that pushes these bytes does to a sink, of which `written` and `failed` are the bytes written and the
-- number of failures: a success pushes all of them, and none of its pushes fails; a failure pushes a prefix, and is one
abbrev pub Pushed : {T E K : Type 0} → (written : K → Option (List ℕ)) → (failed : K → ℕ) → (old new : K)
    → Result T E → List ℕ → Type 0
Pushed written failed old new result bytes = MatchResult result
    (λ _. Appends (written old) (written new) bytes × (failed new ≡ failed old))
    (λ _. WasCut (written old) (written new) bytes × (failed new ≡ failed old + 1))
