-- Entries with distinct ids.
use Rattle.std.specs.Prelude.{◌≤◌, ℕ, ℤ, Bool, if◌then◌else◌, List, [], ◌∷◌, ◌++◌, length, map, Option, Some, None}
use Rattle.std.specs.List.{All, IsDistinct, list_any}
use Rattle.std.specs.Ordering.{int_eq}
use Rattle.rt_geo.specs.Entries.{HasBox, HasLayer}
use Rattle.rt_geo.specs.declared.entry.Entry.{Entry}

-- the ids of the entries
abbrev pub ids_of : List Entry → List ℤ
ids_of entries = map (λ e. e.id) entries

-- an entry has this id
abbrev pub has_id : List Entry → ℤ → Bool
has_id entries id = list_any (λ e. int_eq id e.id) entries

-- the index of the first of these entries whose id one before it has; `so_far` are the entries before them, and each entry
-- belongs to these for the next
abbrev pub repeat_after : (so_far entries : List Entry) → Option ℕ
repeat_after so_far [] = None
repeat_after so_far (entry ∷ more) =
    if has_id so_far entry.id then Some (length so_far) else repeat_after (so_far ++ entry ∷ []) more

-- the place, counted from 0, of the first entry whose id an earlier one has
abbrev pub first_repeat : List Entry → Option ℕ
first_repeat entries = repeat_after [] entries

-- the most entries of a table
abbrev pub most_entries : ℕ
most_entries = 16777216

-- the entries of a table: no two have one id, each has its box and a layer that there is, and they are no more than the
-- most
pub record IsTable (entries : List Entry) : Type 0 where
  pub distinct : IsDistinct int_eq (map (λ e. e.id) entries)
  pub boxes : All HasBox entries
  pub layers : All HasLayer entries
  pub few : length entries ≤ most_entries
