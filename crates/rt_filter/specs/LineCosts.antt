-- How many nodes of the tree the queries of lines open.
use Rattle.std.specs.Prelude.{ℕ, List}
use Rattle.std.specs.List.{sum_by}
use Rattle.rt_geo.specs.Orders.{by_id}
use Rattle.rt_text.specs.declared.query.Parsed.{Parsed}
use Rattle.rt_text.specs.declared.query.Parsed.TheVariants as parsed
use Rattle.rt_text.specs.declared.query.Query.{Query}
use Rattle.rt_text.specs.declared.query.Query.TheVariants.{CostCount, CostFind, Count, Find, Levels}
use Rattle.rt_search.specs.Work.{opened_by_count, opened_by_search}
use Rattle.rt_filter.specs.Replies.{Loaded, meaning_of, parsed_line, tree_of}

-- how many nodes a query opens: with `cost` before it, it opens as many, and that is what is replied
abbrev pub opened_by : Loaded → Query → ℕ
opened_by loaded (Find region order limit layers) =
    opened_by_search (meaning_of region layers order) (tree_of loaded) limit
opened_by loaded (Count region layers) = opened_by_count (meaning_of region layers by_id) (tree_of loaded)
opened_by loaded Levels = 0
opened_by loaded (CostFind region order limit layers) =
    opened_by_search (meaning_of region layers order) (tree_of loaded) limit
opened_by loaded (CostCount region layers) = opened_by_count (meaning_of region layers by_id) (tree_of loaded)

-- what a line opens that asks this
abbrev pub opened_by_line : Loaded → Parsed → ℕ
opened_by_line loaded (parsed.Query query) = opened_by loaded query
opened_by_line loaded other = 0

-- what these lines open, one after the other
abbrev pub opened_by_lines : Loaded → (lines : List (ℕ × List ℕ)) → ℕ
opened_by_lines loaded lines = sum_by (λ line. opened_by_line loaded (parsed_line line.1)) lines
