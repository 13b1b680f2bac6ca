-- What the calls for queries in numbers give.
use Rattle.std.specs.Prelude.{◌≡◌, ◌⊎◌, ℕ, ◌==◌, if◌then◌else◌, List, IfSome, Option, length, map, take}
use Rattle.std.specs.{Option.{option_map_or}, Result.{result_err}}
use Rattle.rt_embed.specs.{Questions.{AllAsk, AsksNone, measured_of}, Sessions.{Contents}}
use Rattle.rt_embed.specs.declared.finding.Found.{Found}
use Rattle.rt_embed.specs.declared.finding.Stop.{Stop}
use Rattle.rt_embed.specs.declared.finding.Stop.TheVariants.{BadQuery, Complete, Full}
use Rattle.rt_embed.specs.PlainQueries.{judged}
use Rattle.rt_embed.specs.declared.plain_query.InvalidQuery.{InvalidQuery}
use Rattle.rt_embed.specs.declared.plain_query.InvalidQuery.TheVariants as invalid
use Rattle.rt_embed.specs.declared.plain_query.PlainQuery.{PlainQuery}
use Rattle.rt_embed.specs.declared.question.Measure.{Measure}
use Rattle.rt_embed.specs.declared.vertex.Vertex.{Vertex}
use Rattle.rtfilter_c.specs.declared.plain_queries.FindProgress.{FindProgress}

-- why a find stopped, by the code
abbrev pub stop_of : (code : ℕ) → Stop
stop_of code = if code == 5 then Full else if code == 7 then BadQuery else Complete

-- the number of a query's cause of being invalid
abbrev pub number_of : InvalidQuery → ℕ
number_of invalid.Region = 1
number_of invalid.Order = 2
number_of invalid.Sides = 3
number_of invalid.VertexCount = 4
number_of invalid.MissingVertices = 5
number_of invalid.NotConvex = 6
number_of invalid.NoLayer = 7
number_of invalid.Reserved = 8

-- and 0 of a query that is valid
abbrev pub cause_of : (vertices : List Vertex) → PlainQuery → ℕ
cause_of vertices query = option_map_or number_of (result_err (judged vertices query)) 0

-- what was found, and why no more
abbrev pub finds : FindProgress → Stop → Found
finds progress stop = record { done = progress.done; found = progress.found; stop = stop }

-- queries are measured: with code 0 all of them, with code 7 those before the first that asks no question
pub record MeasuredSo (session : Contents) (measure : Measure) (vertices : List Vertex) (queries : List PlainQuery)
    (code done : ℕ) (measured : List ℕ) : Type 0 where
  pub values : take done measured ≡ map (measured_of session.tree vertices measure) (take done queries)
  pub questions : AllAsk vertices (take done queries)
  pub why : ((code ≡ 0) × (done ≡ length queries)) ⊎ ((code ≡ 7) × AsksNone vertices queries done)

-- the same of the session that is held; or the code 6 says that no memory was left, and nothing is written
abbrev pub HasMeasured : (held : Option Contents) → Measure → (vertices : List Vertex) → (queries : List PlainQuery)
    → (code old_done new_done : ℕ) → (old new : List ℕ) → Type 0
HasMeasured held measure vertices queries code old_done new_done old new =
    ((code ≡ 6) × (new_done ≡ old_done) × (new ≡ old))
    ⊎ IfSome held (λ session. MeasuredSo session measure vertices queries code new_done new)
