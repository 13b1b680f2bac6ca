-- What sessions are seen as, and what they reply.
use Rattle.std.specs.Prelude.{◌≡◌, ℕ, Bool, if◌then◌else◌, List, Option, IfSome, None}
use Rattle.std.specs.Option.{IsSomeAnd}
use Rattle.rt_command.specs.Choices.{Choices}
use Rattle.rt_tree.specs.Packed.{Packed}
use Rattle.rt_search.specs.Work.{CountsOn}
use Rattle.rt_filter.specs.Runs.{run_of}

-- the tree that is searched, the reply to the last text, and how many nodes were opened in the frontier, as far as 64 bits count:
-- none where there is no frontier, so that the next call takes memory for one
pub record Contents : Type 0 where
  pub tree : Packed
  pub reply : List ℕ
  pub opened : Option ℕ

-- there is a frontier; if there was one before, it is that one, and `so_many` more nodes were opened in it
abbrev pub HasOpened : (old : Option ℕ) → (so_many : ℕ) → (new : Option ℕ) → Type 0
HasOpened old so_many new = IsSomeAnd new (λ after. IfSome old (λ before. CountsOn before so_many after))

-- bytes that were pushed, and how many pushes failed
pub record Replying : Type 0 where
  pub bytes : List ℕ
  pub failures : ℕ

-- a run over the table's bytes and the query bytes writes this reply, and its status says whether a line is faulty
abbrev pub IsRunOf : Choices → (table queries reply : List ℕ) → (bad : Bool) → Type 0
IsRunOf choices table queries reply bad =
    run_of choices table queries ≡ (reply, record { status = if bad then 1 else 0; fault = None })
