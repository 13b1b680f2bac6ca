-- How far the lines of the bytes that were pulled are answered. No public contract cites it.
use Rattle.std.specs.Prelude.{◌≡◌, ℕ, Bool, true, false, if◌then◌else◌, List, [], ◌∷◌, ◌++◌, drop, length}
use Rattle.std.specs.List.{slice_split}
use Rattle.rt_text.specs.Queries.{query_of}
use Rattle.rt_text.specs.declared.query.Parsed.{Parsed}
use Rattle.rt_text.specs.declared.query.Parsed.TheVariants as parsed
use Rattle.rt_text.specs.declared.query.QueryFault.TheVariants as fault
use Rattle.rt_filter.specs.Lines.{is_line_feed, is_too_long, numbered_lines}
use Rattle.rt_filter.specs.Replies.{any_fault}
use Rattle.rt_filter.specs.declared.progress.Progress.{Progress}

-- of the parts between line feeds the last, which begins a line that isn't complete
abbrev pub last_part : List (List ℕ) → List ℕ
last_part [] = []
last_part (part ∷ []) = part
last_part (part ∷ next ∷ more) = last_part (next ∷ more)

-- what stands behind the last line feed
abbrev pub begun_line : List ℕ → List ℕ
begun_line bytes = last_part (slice_split is_line_feed bytes)

-- the lines that are complete with more bytes and weren't before, the last one too where they have ended
abbrev pub completed : (bytes more : List ℕ) → (ended : Bool) → List (ℕ × List ℕ)
completed bytes more ended = drop (length (numbered_lines bytes false)) (numbered_lines (bytes ++ more) ended)

-- what is kept of the line that is begun: nothing once it is too long
abbrev pub kept_of : (begun : List ℕ) → List ℕ
kept_of begun = if is_too_long begun then [] else begun

-- what a line asks for, of which nothing was kept where it is too long
abbrev pub parsed_of : (is_too_long : Bool) → (kept : List ℕ) → Parsed
parsed_of true kept = parsed.Fault fault.LineTooLong
parsed_of false kept = query_of kept

-- the lines of the bytes that were pulled: how many are complete, whether one of them is faulty, and whether the one that
-- is begun is too long
abbrev pub progress_of : (pulled : List ℕ) → Progress
progress_of pulled =
    let lines = numbered_lines pulled false in
    record { lines = length lines; bad = any_fault lines; is_too_long = is_too_long (begun_line pulled) }

-- all lines that are complete are answered, and these bytes are kept
abbrev pub IsAfter : Progress → (kept : List ℕ) → (pulled : List ℕ) → Type 0
IsAfter progress kept pulled = (progress ≡ progress_of pulled) × (kept ≡ kept_of (begun_line pulled))

-- bytes that are left begin a line, or it was too long before them
abbrev pub LeftOf : (is_too_long : Bool) → (left begun : List ℕ) → Type 0
LeftOf true left begun = is_too_long begun ≡ true
LeftOf false left begun = left ≡ begun

-- all lines that are complete are answered, and these bytes are left
pub record IsLeft (progress : Progress) (left pulled : List ℕ) : Type 0 where
  pub lines : progress.lines ≡ length (numbered_lines pulled false)
  pub bad : progress.bad ≡ any_fault (numbered_lines pulled false)
  pub begun : LeftOf progress.is_too_long left (begun_line pulled)
