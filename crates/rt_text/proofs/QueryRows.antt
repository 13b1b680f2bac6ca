-- Worked rows of query lines: the definitions compute what a line asks, or its first fault.
use Rattle.std.proofs.Common.{◌≡◌, ◌++◌, pos, negsuc, [], None, Some, codes, refl, replicate}
use Rattle.std.specs.Fmt.{digits}
use Rattle.rt_geo.specs.Boxes.{rect_of}
use Rattle.rt_geo.specs.Layers.{all_layers, only}
use Rattle.rt_geo.specs.Orders.{near}
use Rattle.rt_geo.specs.declared.order.Order.TheVariants.{ById, Smallest}
use Rattle.rt_geo.specs.declared.region.Region.TheVariants.{All, Circle, Inside, Window}
use Rattle.rt_text.specs.Queries.{query_of}
use Rattle.rt_text.specs.ReplyLines.{answer_line, error_line, level_line, ok_line}
use Rattle.rt_text.specs.declared.query.Parsed.TheVariants.{Fault, Query, Skip}
use Rattle.rt_text.specs.declared.query.Query.TheVariants.{CostCount, CostFind, Count, Find, Levels}
use Rattle.rt_text.specs.declared.query.QueryFault.TheVariants as fault

-- ---- queries

row_window : query_of (codes "find window 0 10 -5 +10") ≡ Query (Find (Window (record { 0 = rect_of (pos 0) (pos 10) (negsuc 4) (pos 10) })) (ById (record {})) None all_layers)
row_window = refl

row_smallest : query_of (codes "find all smallest first 3") ≡ Query (Find (All (record {})) (Smallest (record {})) (Some 3) all_layers)
row_smallest = refl

row_circle : query_of (codes "find circle 1 2 3") ≡ Query (Find (Circle (record { centre = record { x = pos 1; y = pos 2 }; radius = 3 })) (near (record { x = pos 1; y = pos 2 })) None all_layers)
row_circle = refl

row_circle_near : query_of (codes "find circle 1 2 3 near 4 5") ≡ Query (Find (Circle (record { centre = record { x = pos 1; y = pos 2 }; radius = 3 })) (near (record { x = pos 4; y = pos 5 })) None all_layers)
row_circle_near = refl

row_nearest : query_of (codes "nearest 2 10 -5") ≡ Query (Find (All (record {})) (near (record { x = pos 10; y = negsuc 4 })) (Some 2) all_layers)
row_nearest = refl

row_count : query_of (codes "count inside 0 15 0 15") ≡ Query (Count (Inside (record { 0 = rect_of (pos 0) (pos 15) (pos 0) (pos 15) })) all_layers)
row_count = refl

row_levels : query_of (codes "\tlevels  \r") ≡ Query Levels
row_levels = refl

row_empty : query_of [] ≡ Skip
row_empty = refl

row_comment : query_of (codes " #find") ≡ Skip
row_comment = refl

-- ---- layers

row_on : query_of (codes "find all on 3") ≡ Query (Find (All (record {})) (ById (record {})) None (only 3))
row_on = refl

row_on_two : query_of (codes "find all on 0,3") ≡ Query (Find (All (record {})) (ById (record {})) None (record { bits = 9 }))
row_on_two = refl

row_on_last : query_of (codes "find all on +63,0063") ≡ Query (Find (All (record {})) (ById (record {})) None (only 63))
row_on_last = refl

row_count_on : query_of (codes "count all on 0,0") ≡ Query (Count (All (record {})) (only 0))
row_count_on = refl

-- a circle's usual order is near its centre on layers too
row_circle_on : query_of (codes "find circle 1 2 3 on 3") ≡ Query (Find (Circle (record { centre = record { x = pos 1; y = pos 2 }; radius = 3 })) (near (record { x = pos 1; y = pos 2 })) None (only 3))
row_circle_on = refl

row_circle_on_near : query_of (codes "find circle 0 0 2 on 3 near 4 5 first 1") ≡ Query (Find (Circle (record { centre = record { x = pos 0; y = pos 0 }; radius = 2 })) (near (record { x = pos 4; y = pos 5 })) (Some 1) (only 3))
row_circle_on_near = refl

-- ---- costs

row_cost_find : query_of (codes "cost find all on 1 first 3") ≡ Query (CostFind (All (record {})) (ById (record {})) (Some 3) (only 1))
row_cost_find = refl

row_cost_circle : query_of (codes "cost find circle 1 2 3") ≡ Query (CostFind (Circle (record { centre = record { x = pos 1; y = pos 2 }; radius = 3 })) (near (record { x = pos 1; y = pos 2 })) None all_layers)
row_cost_circle = refl

row_cost_nearest : query_of (codes "cost nearest 2 10 -5") ≡ Query (CostFind (All (record {})) (near (record { x = pos 10; y = negsuc 4 })) (Some 2) all_layers)
row_cost_nearest = refl

row_cost_count : query_of (codes "\tcost  count window 0 10 0 10 on 1 \r") ≡ Query (CostCount (Window (record { 0 = rect_of (pos 0) (pos 10) (pos 0) (pos 10) })) (only 1))
row_cost_count = refl

-- ---- faults, from left to right

row_capital : query_of (codes "Find all") ≡ Fault fault.UnknownVerb
row_capital = refl

row_region : query_of (codes "find alle") ≡ Fault fault.UnknownRegion
row_region = refl

row_missing : query_of (codes "find window 1") ≡ Fault fault.MissingWord
row_missing = refl

-- the words before a minimum's test come first
row_not_number : query_of (codes "find window 0 10 x 1") ≡ Fault fault.NotNumber
row_not_number = refl

row_out_of_range : query_of (codes "find circle 0 0 -1") ≡ Fault fault.OutOfRange
row_out_of_range = refl

row_limit : query_of (codes "find all first 18446744073709551616") ≡ Fault fault.OutOfRange
row_limit = refl

-- the minimum's test comes before the next word
row_min_above_max : query_of (codes "find window 10 0 0 10 x") ≡ Fault fault.MinAboveMax
row_min_above_max = refl

row_stray : query_of (codes "find all first 3 near 1 1") ≡ Fault fault.StrayWord
row_stray = refl

row_count_stray : query_of (codes "count all first 1") ≡ Fault fault.StrayWord
row_count_stray = refl

row_levels_stray : query_of (codes "levels x") ≡ Fault fault.StrayWord
row_levels_stray = refl

row_on_missing : query_of (codes "find all on") ≡ Fault fault.MissingWord
row_on_missing = refl

row_on_comma_last : query_of (codes "find all on 3,") ≡ Fault fault.NotNumber
row_on_comma_last = refl

row_on_comma_alone : query_of (codes "find all on ,") ≡ Fault fault.NotNumber
row_on_comma_alone = refl

-- whatever word follows `on` is the LIST
row_on_word : query_of (codes "find all on near 1 1") ≡ Fault fault.NotNumber
row_on_word = refl

row_on_above : query_of (codes "find all on 64") ≡ Fault fault.OutOfRange
row_on_above = refl

-- the parts of a LIST are judged from left to right
row_on_above_first : query_of (codes "find all on 64,x") ≡ Fault fault.OutOfRange
row_on_above_first = refl

row_on_above_later : query_of (codes "find all on x,64") ≡ Fault fault.NotNumber
row_on_above_later = refl

-- a LIST is one word
row_on_blank : query_of (codes "find all on 0, 3") ≡ Fault fault.NotNumber
row_on_blank = refl

row_on_blank_before : query_of (codes "find all on 0 ,3") ≡ Fault fault.StrayWord
row_on_blank_before = refl

-- the region is judged before the LIST
row_on_after_region : query_of (codes "find window 10 0 0 10 on x") ≡ Fault fault.MinAboveMax
row_on_after_region = refl

row_on_twice : query_of (codes "find all on 0 on 3") ≡ Fault fault.StrayWord
row_on_twice = refl

row_on_after_order : query_of (codes "find all near 1 1 on 0") ≡ Fault fault.StrayWord
row_on_after_order = refl

row_on_after_limit : query_of (codes "find all first 1 on 3") ≡ Fault fault.StrayWord
row_on_after_limit = refl

row_on_nearest : query_of (codes "nearest 1 0 0 on 0") ≡ Fault fault.StrayWord
row_on_nearest = refl

row_on_levels : query_of (codes "levels on 0") ≡ Fault fault.StrayWord
row_on_levels = refl

row_cost_missing : query_of (codes "cost") ≡ Fault fault.MissingWord
row_cost_missing = refl

row_cost_capital : query_of (codes "cost Find all") ≡ Fault fault.UnknownVerb
row_cost_capital = refl

-- levels have no cost, whatever stands behind them
row_cost_levels : query_of (codes "cost levels x") ≡ Fault fault.UnknownVerb
row_cost_levels = refl

row_cost_twice : query_of (codes "cost cost find all") ≡ Fault fault.UnknownVerb
row_cost_twice = refl

row_cost_comment : query_of (codes "cost #find") ≡ Fault fault.UnknownVerb
row_cost_comment = refl

-- the faults of a line stay the same behind `cost`
row_cost_find_missing : query_of (codes "cost find") ≡ Fault fault.MissingWord
row_cost_find_missing = refl

row_cost_not_convex : query_of (codes "cost find polygon 3 0 0 5 5 10 10") ≡ Fault fault.NotConvex
row_cost_not_convex = refl

row_cost_nearest_stray : query_of (codes "cost nearest 1 0 0 on 0") ≡ Fault fault.StrayWord
row_cost_nearest_stray = refl

row_cost_count_limit : query_of (codes "cost count all first 1") ≡ Fault fault.StrayWord
row_cost_count_limit = refl

row_cost_last : query_of (codes "find all cost") ≡ Fault fault.StrayWord
row_cost_last = refl

-- ---- a line of any length

row_long : query_of (codes "levels" ++ replicate 4994 32) ≡ Query Levels
row_long = refl

row_long_comment : query_of (codes "#" ++ replicate 4999 32) ≡ Skip
row_long_comment = refl

row_long_stray : query_of (codes "levels" ++ replicate 4993 32 ++ codes "x") ≡ Fault fault.StrayWord
row_long_stray = refl

-- ---- the lines of a reply

row_answer_line : answer_line (negsuc 6) 36893488130239234050 ≡ codes "-7 36893488130239234050\n"
unfolding digits
row_answer_line = refl

row_ok_line : ok_line 3 12 ≡ codes "ok 3 12\n"
unfolding digits
row_ok_line = refl

row_level_line : level_line 2 65 ≡ codes "2 65\n"
unfolding digits
row_level_line = refl

row_error_line : error_line 4 fault.NotConvex ≡ codes "error 4 Q9 polygon not strictly convex\n"
unfolding digits
row_error_line = refl
