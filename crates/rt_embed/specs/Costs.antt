-- How many nodes of the tree query lines and queries in numbers open.
use Rattle.std.specs.Prelude.{ℕ, ◌+◌, ◌-◌, List, [], ◌∷◌, length, min, Option, Some, true}
use Rattle.std.specs.Option.{option_map_or}
use Rattle.rt_tree.specs.Packed.{Packed}
use Rattle.rt_search.specs.Work.{opened_by_search}
use Rattle.rt_filter.specs.{Lines.{numbered_lines}, Replies.{meaning_of}, Stages.{loaded_tree}, LineCosts.{opened_by_lines}}
use Rattle.rt_embed.specs.{Findings.{list_of}, PlainQueries.{question_of}, Questions.{measure_of}}
use Rattle.rt_embed.specs.declared.plain_query.PlainQuery.{PlainQuery}
use Rattle.rt_embed.specs.declared.question.Measure.{Measure}
use Rattle.rt_embed.specs.declared.question.Measure.TheVariants.{CostOfCount, Count}
use Rattle.rt_embed.specs.declared.question.Question.{Question}
use Rattle.rt_embed.specs.declared.vertex.Vertex.{Vertex}

-- how many nodes the query lines of a text open, one after the other
unfoldable pub opened_by_text : Packed → List ℕ → ℕ
opened_by_text tree lines = opened_by_lines (loaded_tree tree) (numbered_lines lines true)

-- the least of a limit, if there is one, and of how many answers are needed
abbrev pub limit_within : (limit : Option ℕ) → (needed : ℕ) → ℕ
limit_within limit needed = option_map_or (min needed) limit needed

-- the number of nodes that a find for a question opens, if at most `needed` of its answers are needed
abbrev pub opened_to_find : Packed → (needed : ℕ) → Question → ℕ
opened_to_find tree needed question =
    opened_by_search (meaning_of question.region question.layers question.order) tree (Some (limit_within question.limit needed))

-- the same for one query after the other, if at most `needed` of all their answers are needed
abbrev pub opened_by_finds : Packed → (vertices : List Vertex) → (needed : ℕ) → List PlainQuery → ℕ
opened_by_finds tree vertices needed [] = 0
opened_by_finds tree vertices needed (query ∷ queries) =
    option_map_or (opened_to_find tree needed) (question_of vertices query) 0
    + opened_by_finds tree vertices (needed - length (list_of tree.entries vertices query)) queries

-- how many nodes are opened to measure a question: for the number of its boxes as many as a count costs
abbrev pub opened_to_measure : Packed → Measure → Question → ℕ
opened_to_measure tree Count question = measure_of tree CostOfCount question
opened_to_measure tree cost question = measure_of tree cost question

-- for one query after the other
abbrev pub opened_by_measures : Packed → (vertices : List Vertex) → Measure → List PlainQuery → ℕ
opened_by_measures tree vertices measure [] = 0
opened_by_measures tree vertices measure (query ∷ queries) =
    option_map_or (opened_to_measure tree measure) (question_of vertices query) 0
    + opened_by_measures tree vertices measure queries
