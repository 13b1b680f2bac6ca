-- What the private stages of a run promise one another, and what their loops keep. Of the public contracts those of `load`
-- and of its callers cite `HasLoaded`, `Stops` and `is_of_load`, and no other cites anything of it.
use Rattle.std.specs.Prelude.{◌≡◌, ◌+◌, ℕ, List, ◌++◌, Bool, true, false, Option, Some, Ok, ⊤}
use Rattle.std.specs.List.{AllByRecursion, enumerate_from, slice_split}
use Rattle.std.specs.Io.KnownBytes.{Appends, Consumes}
use Rattle.rt_command.specs.Choices.{Choices}
use Rattle.rt_text.specs.Tables.{IsFaultOf}
use Rattle.rt_tree.specs.Packed.{Packed}
use Rattle.rt_search.specs.Work.{CountsOn}
use Rattle.rt_filter.specs.Lines.{is_line_feed, lines_of_parts, longest_line, numbered_lines}
use Rattle.rt_filter.specs.Replies.{Loaded, output, tree_of}
use Rattle.rt_filter.specs.Runs.{loaded_of}
use Rattle.rt_filter.specs.Progresses.{IsAfter, completed}
use Rattle.rt_filter.specs.LineCosts.{opened_by_lines}
use Rattle.rt_filter.specs.declared.progress.Progress.{Progress}
use Rattle.rt_text.specs.declared.run_faults.RunFault.{RunFault}
use Rattle.rt_text.specs.declared.run_faults.RunFault.TheVariants.{Table, Memory}

-- ---- the load

-- what a tree holds, in the order of its places
abbrev pub loaded_tree : Packed → Loaded
loaded_tree tree = record { entries = tree.entries; fanout = tree.fanout }

-- the tree of what is loaded of a table
pub record HasLoaded (choices : Choices) (table : List ℕ) (tree : Packed) : Type 0 where
  pub loaded : Loaded
  pub same : loaded_of choices table ≡ Ok loaded
  pub packed : tree ≡ tree_of loaded

-- the fault comes while the table is loaded, before the first query is read
abbrev pub is_of_load : Option RunFault → Bool
is_of_load (Some (Table cause)) = true
is_of_load (Some Memory) = true
is_of_load other = false

-- why nothing was loaded: a fault of the table's text is the one that it has
abbrev pub Stops : Choices → (table : List ℕ) → RunFault → Type 0
Stops choices table (Table cause) = IsFaultOf cause (loaded_of choices table)
Stops choices table other = ⊤

-- ---- lines in pieces

-- the byte that ends a line
abbrev pub line_feed : ℕ
line_feed = 10

-- the most bytes that one pull returns: those of a line and its line feed
abbrev pub most_pulled : ℕ
most_pulled = longest_line + 1

-- the lines of these bytes, numbered from the number after this one
abbrev pub lines_from : (number : ℕ) → List ℕ → (ended : Bool) → List (ℕ × List ℕ)
lines_from number bytes ended = enumerate_from (number + 1) (lines_of_parts ended (slice_split is_line_feed bytes))

abbrev pub HasNoLineFeed : List ℕ → Type 0
HasNoLineFeed = AllByRecursion (λ c. is_line_feed c ≡ false)

-- ---- serving

-- of the bytes that a pull gave the front is answered, and of what stands behind the last line feed `begun` was searched
-- and `rest` wasn't: whatever was pulled before
pub record IsAnswering (loaded : Loaded) (old now : Progress) (old_out out : Option (List ℕ)) (old_opened opened : ℕ)
    (kept given begun rest : List ℕ) : Type 0 where
  pub front : List ℕ
  pub parts : given ≡ front ++ rest
  pub so : (pulled : List ℕ) → IsAfter old kept pulled
      → IsAfter now begun (pulled ++ front)
      × Appends old_out out (output loaded (completed pulled front false))
      × CountsOn old_opened (opened_by_lines loaded (completed pulled front false)) opened

-- the queries are answered as far as they were pulled
pub record IsServing (loaded : Loaded) (old_coming coming old_out out : Option (List ℕ)) (progress : Progress) (kept : List ℕ)
    : Type 0 where
  pub pulled : List ℕ
  pub given : Consumes old_coming coming pulled
  pub so : IsAfter progress kept pulled
  pub pushed : Appends old_out out (output loaded (numbered_lines pulled false))
