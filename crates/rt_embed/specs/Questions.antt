-- What is measured of questions in numbers.
use Rattle.std.specs.Prelude.{◌≡◌, ℕ, List, All, IsSome, length, slice_get, None, Some}
use Rattle.std.specs.Option.{option_map_or}
use Rattle.rt_geo.specs.Orders.{by_id}
use Rattle.rt_tree.specs.Packed.{Packed}
use Rattle.rt_search.specs.Answers.{accepted}
use Rattle.rt_search.specs.Work.{opened_by_count, opened_by_search}
use Rattle.rt_filter.specs.Replies.{meaning_of}
use Rattle.rt_embed.specs.PlainQueries.{question_of}
use Rattle.rt_embed.specs.declared.plain_query.PlainQuery.{PlainQuery}
use Rattle.rt_embed.specs.declared.question.Measure.{Measure}
use Rattle.rt_embed.specs.declared.question.Measure.TheVariants.{CostOfCount, CostOfFind, Count}
use Rattle.rt_embed.specs.declared.question.Question.{Question}
use Rattle.rt_embed.specs.declared.vertex.Vertex.{Vertex}

-- what is measured of a question: how many boxes it asks for, without its limit, or how many nodes of the tree are opened
abbrev pub measure_of : Packed → Measure → Question → ℕ
measure_of tree Count question = length (accepted tree.entries (meaning_of question.region question.layers by_id))
measure_of tree CostOfFind question =
    opened_by_search (meaning_of question.region question.layers question.order) tree question.limit
measure_of tree CostOfCount question = opened_by_count (meaning_of question.region question.layers by_id) tree

-- what is measured of a query, 0 of one that asks no question
abbrev pub measured_of : Packed → (vertices : List Vertex) → Measure → PlainQuery → ℕ
measured_of tree vertices measure query = option_map_or (measure_of tree measure) (question_of vertices query) 0

-- the query at a place asks no question
abbrev pub AsksNone : (vertices : List Vertex) → List PlainQuery → (place : ℕ) → Type 0
AsksNone vertices queries place =
    (query : PlainQuery) × (slice_get queries place ≡ Some query) × (question_of vertices query ≡ None)

-- each of these queries asks a question
abbrev pub AllAsk : (vertices : List Vertex) → List PlainQuery → Type 0
AllAsk vertices queries = All (λ query. IsSome (question_of vertices query)) queries
