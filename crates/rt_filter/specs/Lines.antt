-- The lines of query bytes.
use Rattle.std.specs.Prelude.{ℕ, ◌==◌, ◌&&◌, nat_lt, Bool, not, if◌then◌else◌, List, [], ◌∷◌, length}
use Rattle.std.specs.List.{enumerate_from, slice_split}
use Rattle.rt_text.specs.Words.{is_empty}

-- the byte that ends a line, which is 10
abbrev pub is_line_feed : ℕ → Bool
is_line_feed c = c == 10

-- of the parts between line feeds each but the last is a line; the last is one where no more bytes come and it isn't
-- empty
abbrev pub lines_of_parts : (ended : Bool) → List (List ℕ) → List (List ℕ)
lines_of_parts ended [] = []
lines_of_parts ended (part ∷ []) = if ended && not (is_empty part) then part ∷ [] else []
lines_of_parts ended (part ∷ next ∷ more) = part ∷ lines_of_parts ended (next ∷ more)

-- the lines of these bytes, numbered from 1; `ended` says that no more bytes come, as at the end of the queries
abbrev pub numbered_lines : List ℕ → (ended : Bool) → List (ℕ × List ℕ)
numbered_lines bytes ended = enumerate_from 1 (lines_of_parts ended (slice_split is_line_feed bytes))

-- a line of more bytes is too long
abbrev pub longest_line : ℕ
longest_line = 4096

abbrev pub is_too_long : (line : List ℕ) → Bool
is_too_long line = nat_lt longest_line (length line)
