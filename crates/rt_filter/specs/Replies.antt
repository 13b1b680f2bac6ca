-- The bytes that lines are answered with.
use Rattle.std.specs.Prelude.{ℕ, Bool, true, false, if◌then◌else◌, List, [], ◌++◌, length, flat_map, reverse}
use Rattle.std.specs.List.{enumerate_from, list_any}
use Rattle.rt_geo.specs.Laws.{Meaning, guided}
use Rattle.rt_geo.specs.OnLayers.{on_layers_accepts, on_layers_state}
use Rattle.rt_geo.specs.Orders.{by_id, order_estimate, order_score}
use Rattle.rt_geo.specs.Regions.{region_accepts, region_state}
use Rattle.rt_geo.specs.declared.entry.Entry.{Entry}
use Rattle.rt_geo.specs.declared.layers.Layers.{Layers}
use Rattle.rt_geo.specs.declared.order.Order.{Order}
use Rattle.rt_geo.specs.declared.region.Region.{Region}
use Rattle.rt_tree.specs.Levels.{level_sizes}
use Rattle.rt_tree.specs.Packed.{Packed}
use Rattle.rt_tree.specs.Packing.{pack_of}
use Rattle.rt_text.specs.Queries.{query_of}
use Rattle.rt_text.specs.ReplyLines.{answer_line, error_line, level_line, ok_line}
use Rattle.rt_text.specs.declared.query.Parsed.{Parsed}
use Rattle.rt_text.specs.declared.query.Parsed.TheVariants as parsed
use Rattle.rt_text.specs.declared.query.Query.{Query}
use Rattle.rt_text.specs.declared.query.Query.TheVariants.{CostCount, CostFind, Count, Find, Levels}
use Rattle.rt_text.specs.declared.query.QueryFault.TheVariants.{LineTooLong}
use Rattle.rt_search.specs.Answers.{Answer, accepted, answers}
use Rattle.rt_search.specs.Work.{opened_by_count, opened_by_search}
use Rattle.rt_filter.specs.Lines.{is_too_long}

-- what queries search: the entries of a table, and how many children a node of its tree may have
pub record Loaded : Type 0 where
  pub entries : List Entry
  pub fanout : ℕ

-- the tree that is searched
abbrev pub tree_of : Loaded → Packed
tree_of loaded = pack_of loaded.fanout loaded.entries

-- a line for each answer, then their number
abbrev pub find_reply : (line : ℕ) → List Answer → List ℕ
find_reply line found = flat_map (λ answer. answer_line answer.0 answer.1) found ++ ok_line line (length found)

-- a line for each level from the top down to 0, that of the entries, then their number
abbrev pub levels_reply : (line : ℕ) → (sizes : List ℕ) → List ℕ
levels_reply line sizes =
    flat_map (λ level. level_line level.0 level.1) (reverse (enumerate_from 0 sizes)) ++ ok_line line (length sizes)

-- what a query selects: the boxes of the region that are on these layers, in this order
abbrev pub meaning_of : Region → Layers → Order → Meaning
meaning_of region layers order = guided (on_layers_accepts (region_accepts region) layers)
    (on_layers_state (region_state region) layers) (order_score order) (order_estimate order)

-- the reply to a query: the answers to a find, the number of boxes that a count accepts, the levels, or how many nodes of
-- the tree a find or a count opens. A count is the same in any order
abbrev pub query_reply : Loaded → (line : ℕ) → Query → List ℕ
query_reply loaded line (Find region order limit layers) =
    find_reply line (answers loaded.entries (meaning_of region layers order) limit)
query_reply loaded line (Count region layers) =
    ok_line line (length (accepted loaded.entries (meaning_of region layers by_id)))
query_reply loaded line Levels = levels_reply line (level_sizes (length loaded.entries) loaded.fanout)
query_reply loaded line (CostFind region order limit layers) =
    ok_line line (opened_by_search (meaning_of region layers order) (tree_of loaded) limit)
query_reply loaded line (CostCount region layers) =
    ok_line line (opened_by_count (meaning_of region layers by_id) (tree_of loaded))

-- the reply to what a line asks
abbrev pub reply : Loaded → (line : ℕ) → Parsed → List ℕ
reply loaded line parsed.Skip = []
reply loaded line (parsed.Query query) = query_reply loaded line query
reply loaded line (parsed.Fault cause) = error_line line cause

-- what a line asks, unless it is too long
abbrev pub parsed_line : List ℕ → Parsed
parsed_line line = if is_too_long line then parsed.Fault LineTooLong else query_of line

-- the replies to numbered lines, one after the other
abbrev pub output : Loaded → List (ℕ × List ℕ) → List ℕ
output loaded lines = flat_map (λ line. reply loaded line.0 (parsed_line line.1)) lines

abbrev pub is_fault : Parsed → Bool
is_fault (parsed.Fault cause) = true
is_fault other = false

-- some line is faulty
abbrev pub any_fault : List (ℕ × List ℕ) → Bool
any_fault lines = list_any (λ line. is_fault (parsed_line line.1)) lines
