-- The answers to queries in numbers, in arrays.
use Rattle.std.specs.Prelude.{◌≡◌, ◌<◌, ◌≤◌, ℕ, zero, suc, ℤ, ◌+◌, ◌%◌, ◌/◌, ◌^◌, List, [], ◌∷◌, ◌++◌, length, map, take, drop, flat_map}
use Rattle.std.specs.Option.{option_map_or}
use Rattle.rt_geo.specs.declared.entry.Entry.{Entry}
use Rattle.rt_search.specs.Answers.{Answer, answers}
use Rattle.rt_filter.specs.Replies.{meaning_of}
use Rattle.rt_embed.specs.{PlainQueries.{question_of}, Questions.{AllAsk, AsksNone}}
use Rattle.rt_embed.specs.declared.finding.Found.{Found}
use Rattle.rt_embed.specs.declared.finding.Stop.{Stop}
use Rattle.rt_embed.specs.declared.finding.Stop.TheVariants.{BadQuery, Complete, Full}
use Rattle.rt_embed.specs.declared.score.Score.{Score}
use Rattle.rt_embed.specs.declared.plain_query.PlainQuery.{PlainQuery}
use Rattle.rt_embed.specs.declared.question.Question.{Question}
use Rattle.rt_embed.specs.declared.vertex.Vertex.{Vertex}

-- the answers to a question
abbrev pub answers_to : List Entry → Question → List Answer
answers_to entries question = answers entries (meaning_of question.region question.layers question.order) question.limit

-- the answers to a query, none of one that asks no question
abbrev pub list_of : List Entry → (vertices : List Vertex) → PlainQuery → List Answer
list_of entries vertices query = option_map_or (answers_to entries) (question_of vertices query) []

-- the answers to queries, one list behind the other, but for the first `skip` of them all
abbrev pub lists_of : List Entry → (vertices : List Vertex) → (skip : ℕ) → List PlainQuery → List Answer
lists_of entries vertices skip queries = drop skip (flat_map (list_of entries vertices) queries)

-- the ends of the lists of the first `count` queries
abbrev pub ends_of : List Entry → (vertices : List Vertex) → (skip : ℕ) → List PlainQuery → ℕ → List ℕ
ends_of entries vertices skip queries zero = []
ends_of entries vertices skip queries (suc k) =
    ends_of entries vertices skip queries k ++ length (lists_of entries vertices skip (take (suc k) queries)) ∷ []

-- an answer's id, and its score in two words
abbrev pub id_of : Answer → ℤ
id_of answer = answer.0

abbrev pub score_of : Answer → Score
score_of answer = record { low = answer.1 % 2 ^ 64; high = answer.1 / 2 ^ 64 }

-- an array begins with a list, as far as it has places
abbrev pub Begins : {X : Type 0} → (array list : List X) → Type 0
Begins array list = take (length list) array ≡ take (length array) list

-- why a find stopped: no query is left, the next answer has no place, or the next query is invalid
abbrev pub StopsFor : Stop → (entries : List Entry) (vertices : List Vertex) (skip : ℕ) (queries : List PlainQuery) (ids : List ℤ)
    → (done found : ℕ) → Type 0
StopsFor Complete entries vertices skip queries ids done found =
    (done ≡ length queries) × (found ≡ length (lists_of entries vertices skip queries))
StopsFor Full entries vertices skip queries ids done found =
    (found ≡ length ids) × (done < length queries) × (length (lists_of entries vertices skip (take done queries)) ≤ found)
    × (found < length (lists_of entries vertices skip (take (done + 1) queries)))
StopsFor BadQuery entries vertices skip queries ids done found =
    (found ≡ length (lists_of entries vertices skip (take done queries))) × AsksNone vertices queries done

-- what is in the arrays: the answers to the queries, as many as were found; the end of each complete query's list, as far
-- as that has a place; and why the find stopped
pub record HasFound (entries : List Entry) (vertices : List Vertex) (skip : ℕ) (queries : List PlainQuery) (ends : List ℕ)
    (ids : List ℤ) (scores : List Score) (result : Found) : Type 0 where
  pub few : result.found ≤ length (lists_of entries vertices skip queries)
  pub ids_stand : Begins ids (map id_of (take result.found (lists_of entries vertices skip queries)))
  pub scores_stand : Begins scores (map score_of (take result.found (lists_of entries vertices skip queries)))
  pub ends_stand : Begins ends (ends_of entries vertices skip queries result.done)
  pub questions : AllAsk vertices (take result.done queries)
  pub stop : StopsFor result.stop entries vertices skip queries ids result.done result.found
