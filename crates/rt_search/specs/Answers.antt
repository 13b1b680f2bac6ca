-- What a query answers: filter, score, sort, take.
use Rattle.std.specs.Prelude.{ℕ, ℤ, List, Option, filter, map}
use Rattle.std.specs.Ordering.{int_cmp, nat_cmp, on, then_cmp}
use Rattle.std.specs.declared.cmp.Ordering.{Ordering}
use Rattle.rt_geo.specs.Laws.{Meaning, extent_of_entry}
use Rattle.rt_geo.specs.declared.entry.Entry.{Entry}
use Rattle.rt_tree.specs.Sorting.{limited, sorted}

-- an id with its score
abbrev pub Answer : Type 0
Answer = ℤ × ℕ

-- by score, and then by id
abbrev pub answer_cmp : Answer → Answer → Ordering
answer_cmp = then_cmp (on (λ a. a.1) nat_cmp) (on (λ a. a.0) int_cmp)

-- the entries that are accepted
abbrev pub accepted : List Entry → Meaning → List Entry
accepted entries meaning = filter (λ e. meaning.accepts (extent_of_entry e)) entries

-- an entry's id with its score
abbrev pub answer_of : Meaning → Entry → Answer
answer_of meaning entry = (entry.id, meaning.score (extent_of_entry entry))

-- the accepted entries, each as its id with its score
abbrev pub scored : List Entry → Meaning → List Answer
scored entries meaning = map (answer_of meaning) (accepted entries meaning)

-- the answers to a query: the accepted entries with their scores, by score and then id, cut at the limit
abbrev pub answers : List Entry → Meaning → (limit : Option ℕ) → List Answer
answers entries meaning limit = limited limit (sorted answer_cmp (scored entries meaning))
