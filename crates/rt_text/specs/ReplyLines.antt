-- The lines of replies.
use Rattle.std.specs.Prelude.{ℕ, ℤ, List, ◌++◌, codes, decimal}
use Rattle.std.specs.Fmt.{signed_decimal}
use Rattle.rt_text.specs.declared.query.QueryFault.{QueryFault}
use Rattle.rt_text.specs.declared.query.QueryFault.TheVariants as fault

-- an answer: its id and its score
abbrev pub answer_line : (id : ℤ) → (score : ℕ) → List ℕ
answer_line id score = signed_decimal id ++ codes " " ++ decimal score ++ codes "\n"

-- the end of a reply: the number of its line, and a count
abbrev pub ok_line : (line n : ℕ) → List ℕ
ok_line line n = codes "ok " ++ decimal line ++ codes " " ++ decimal n ++ codes "\n"

-- a level of the tree, and its number of entries or nodes
abbrev pub level_line : (level n : ℕ) → List ℕ
level_line level n = decimal level ++ codes " " ++ decimal n ++ codes "\n"

-- the code and the text of a fault
abbrev pub fault_text : QueryFault → List ℕ
fault_text fault.LineTooLong = codes "Q1 line too long"
fault_text fault.UnknownVerb = codes "Q2 unknown verb"
fault_text fault.UnknownRegion = codes "Q3 unknown region"
fault_text fault.MissingWord = codes "Q4 missing word"
fault_text fault.NotNumber = codes "Q5 not a number"
fault_text fault.OutOfRange = codes "Q6 out of range"
fault_text fault.MinAboveMax = codes "Q7 minimum above maximum"
fault_text fault.VertexCount = codes "Q8 vertex count"
fault_text fault.NotConvex = codes "Q9 polygon not strictly convex"
fault_text fault.StrayWord = codes "Q10 stray word"

-- the reply to a line that is faulty
abbrev pub error_line : (line : ℕ) → QueryFault → List ℕ
error_line line cause = codes "error " ++ decimal line ++ codes " " ++ fault_text cause ++ codes "\n"
