-- What is held after a call.
use Rattle.std.specs.Prelude.{◌≡◌, ◌==◌, ◌++◌, ℕ, List, [], Option, Some, IfSome, IsSome, drop, length, take, ℤ, true}
use Rattle.std.specs.Option.{IsSomeAnd}
use Rattle.rt_command.specs.Choices.{Choices}
use Rattle.rt_embed.specs.{Columns.{Lists, Parts}, GivenBoxes.{Given, HasBoxes}, Sessions.{Contents, HasOpened, IsRunOf}}
use Rattle.rt_filter.specs.{Lines.{numbered_lines}, Replies.{Loaded, any_fault, output, tree_of}, Stages.{HasLoaded}}
use Rattle.rt_embed.specs.declared.rows.Row.{Row}
use Rattle.rt_tree.specs.Packed.{Packed}

-- a session of a tree, with nothing replied and a frontier in which nothing was opened
abbrev pub holds_new : Packed → Option Contents
holds_new tree = Some (record { tree = tree; reply = []; opened = Some 0 })

-- nothing is replied, and there is a frontier
abbrev pub IsNew : Contents → Type 0
IsNew session = (session.reply ≡ []) × IsSome session.opened

-- a new session of the table is held
abbrev pub HoldsTable : Choices → (table : List ℕ) → (held : Option Contents) → Type 0
HoldsTable choices table held = IsSomeAnd held (λ session. HasLoaded choices table session.tree × IsNew session)

-- a session with a frontier is held
abbrev pub IsReady : (held : Option Contents) → Type 0
IsReady held = IsSomeAnd held (λ session. IsSome session.opened)

-- before and after a call a session of the same tree is held
abbrev pub HoldsSame : (old new : Option Contents) → Type 0
HoldsSame old new = IfSome old (λ before. IsSomeAnd new (λ after. after.tree ≡ before.tree))

-- and it differs in no more than what was opened in its frontier
abbrev pub HoldsSearched : (old new : Option Contents) → Type 0
HoldsSearched old new = IfSome old (λ before. IsSomeAnd new (λ after. after ≡ record before { opened = after.opened }))

-- a number that the tree gives, of nodes that were opened in its frontier
abbrev pub Opens : (old new : Option Contents) → (so_many : Packed → ℕ) → Type 0
Opens old new so_many = IfSome old (λ before. IsSomeAnd new (λ after. HasOpened before.opened (so_many before.tree) after.opened))

-- the reply to these lines is held: the replies to them over any entries whose packed tree this is, and the code says whether
-- some line is faulty; and of whatever table the tree is, what a run of the program over that table and these lines writes, and
-- the code is that run's status
abbrev pub HoldsRun : (old : Option Contents) → (lines : List ℕ) → (code : ℕ) → (new : Option Contents) → Type 0
HoldsRun old lines code new = IfSome old (λ before. IsSomeAnd new (λ after.
    ((loaded : Loaded) → before.tree ≡ tree_of loaded → after.reply ≡ output loaded (numbered_lines lines true))
    × ((code == 1) ≡ any_fault (numbered_lines lines true))
    × ((choices : Choices) (table : List ℕ) → HasLoaded choices table before.tree
    → IsRunOf choices table lines after.reply (code == 1))))

-- the reply that is held is empty
abbrev pub HoldsNoReply : (held : Option Contents) → Type 0
HoldsNoReply held = IsSomeAnd held (λ session. session.reply ≡ [])

-- a fact of the reply that is held
abbrev pub HasReply : (held : Option Contents) → (Fact : List ℕ → Type 0) → Type 0
HasReply held Fact = IsSomeAnd held (λ session. Fact session.reply)

-- the reply is forgotten, and nothing else is changed
abbrev pub IsForgotten : (old new : Option Contents) → Type 0
IsForgotten old new = IfSome old (λ before. new ≡ Some (record before { reply = [] }))

-- a buffer with the first of these bytes at its front, as many as there are and fit, and behind them as it was
abbrev pub copied : (bytes buffer : List ℕ) → List ℕ
copied bytes buffer = take (length buffer) bytes ++ drop (length bytes) buffer

-- the columns that these arrays are
abbrev pub arrays : (ids min_x max_x min_y max_y : List ℤ) → (layers : List ℕ) → Lists
arrays ids min_x max_x min_y max_y layers =
    record { ids = ids; min_x = min_x; max_x = max_x; min_y = min_y; max_y = max_y; layers = layers }

-- the rows that these arrays are
abbrev pub row_parts : (rows : List Row) → (ids : List ℤ) → (layers : List ℕ) → Parts
row_parts rows ids layers = record { rows = rows; ids = ids; layers = layers }

-- a new session of the table of boxes is held
abbrev pub HoldsBoxes : Choices → Given → (held : Option Contents) → Type 0
HoldsBoxes choices given held = IsSomeAnd held (λ session. HasBoxes choices given session.tree × IsNew session)
