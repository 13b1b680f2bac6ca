-- Worked rows of runs: the definitions compute what is written, the fault and the status.
use Rattle.std.proofs.Common.{◌≡◌, ◌∙◌, pos, false, true, ap, List, [], ◌∷◌, ◌++◌, ℕ, refl, replicate}
use Rattle.std.specs.{Fmt.{digits}, Prelude.{Ok, Err, Some, None, codes}}
use Rattle.rt_command.specs.Choices.{Choices}
use Rattle.rt_geo.specs.{Layers.{all_layers}, Orders.{near}, declared.order.Order.TheVariants.{ById}}
use Rattle.rt_geo.specs.declared.region.Region.TheVariants.{All, Circle}
use Rattle.rt_text.proofs.Rows.{boxes, boxes_entries, boxes_load, line}
use Rattle.rt_text.specs.declared.query.Query.TheVariants.{Find}
use Rattle.rt_search.specs.Answers.{answers}
use Rattle.rt_filter.specs.{Lines.{numbered_lines}, Replies.{meaning_of, query_reply}, Runs.{run_of, run_over}}
use Rattle.rt_text.specs.{RunFaults.{run_fault_line}, declared.run_faults.RunFault.TheVariants.{Table}}
use Rattle.rt_filter.specs.declared.filter.{Outcome.{Outcome}}
use Rattle.rt_filter.proofs.RunLemmas.{loaded_with, whole_run}
use Rattle.rt_text.specs.declared.tables.TableFault.TheVariants as fault

-- ---- lines

-- of bytes that haven't ended, what stands after the last line feed is no line yet
row_not_ended : numbered_lines (line (codes "a") ++ codes "b") false ≡ (1, codes "a") ∷ []
row_not_ended = refl

row_ended : numbered_lines (line (codes "a") ++ codes "b") true ≡ (1, codes "a") ∷ (2, codes "b") ∷ []
row_ended = refl

-- ---- answers

-- unequal scores, a tie that goes by id, and a limit
row_nearest : answers boxes_entries (meaning_of (All (record {})) all_layers (near (record { x = pos 12; y = pos 12 }))) (Some 3)
    ≡ (pos 2, 0) ∷ (pos 5, 0) ∷ (pos 1, 8) ∷ []
row_nearest = refl

-- ---- replies over the five boxes, at most two children for each node

abbrev answered : List ℕ → List ℕ × Outcome
answered queries = run_over (Ok (record { entries = boxes_entries; fanout = 2 })) queries

row_window : answered (codes "find window 0 10 0 10") ≡ whole_run (line (codes "1 0") ++ line (codes "2 0") ++ line (codes "ok 1 2")) false
unfolding digits
row_window = refl

row_corners : answered (codes "find window 10 20 10 20") ≡ whole_run (line (codes "1 0") ++ line (codes "2 0") ++ line (codes "3 0") ++ line (codes "5 0") ++ line (codes "ok 1 4")) false
unfolding digits
row_corners = refl

row_circle : answered (codes "find circle 0 0 2") ≡ whole_run (line (codes "1 0") ++ line (codes "4 2") ++ line (codes "ok 1 2")) false
unfolding digits
row_circle = refl

-- a circle's boxes by id, which no line asks for
row_circle_by_id : query_reply (record { entries = boxes_entries; fanout = 2 }) 7 (Find (Circle (record { centre = record { x = pos 0; y = pos 0 }; radius = 2 })) (ById (record {})) None all_layers) ≡ line (codes "1 0") ++ line (codes "4 0") ++ line (codes "ok 7 2")
unfolding digits
row_circle_by_id = refl

row_covers : answered (codes "find covers 5 5 5 5 smallest first 1") ≡ whole_run (line (codes "1 100") ++ line (codes "ok 1 1")) false
unfolding digits
row_covers = refl

row_levels : answered (line (codes "levels") ++ codes "count window 0 10 0 10") ≡ whole_run (line (codes "3 1") ++ line (codes "2 2") ++ line (codes "1 3") ++ line (codes "0 5") ++ line (codes "ok 1 4") ++ line (codes "ok 2 2")) false
unfolding digits
row_levels = refl

-- three nodes of six are opened, five, none, and the root alone
row_costs : answered (line (codes "cost nearest 2 12 12") ++ line (codes "cost count window 0 10 0 10") ++ line (codes "cost nearest 0 12 12") ++ codes "cost count all on 1") ≡ whole_run (line (codes "ok 1 3") ++ line (codes "ok 2 5") ++ line (codes "ok 3 0") ++ line (codes "ok 4 1")) false
unfolding digits
row_costs = refl

row_numbers : answered (line [] ++ line (codes "# c") ++ line (codes "find window 1 0 0 0") ++ line (codes "find all first 0")) ≡ whole_run (line (codes "error 3 Q7 minimum above maximum") ++ line (codes "ok 4 0")) true
unfolding digits
row_numbers = refl

-- the longest line, and one byte more
row_longest : answered (line (codes "levels" ++ replicate 4090 32) ++ codes "#" ++ replicate 4096 32) ≡ whole_run (line (codes "3 1") ++ line (codes "2 2") ++ line (codes "1 3") ++ line (codes "0 5") ++ line (codes "ok 1 4") ++ line (codes "error 2 Q1 line too long")) true
unfolding digits
row_longest = refl

-- ---- whole runs

abbrev usual : Choices
usual = record { header = false; fanout = 16; max_entries = 16777216 }

run_over_boxes : (queries : List ℕ) → run_of usual boxes queries ≡ run_over (Ok (record { entries = boxes_entries; fanout = 16 })) queries
run_over_boxes queries = ap (λ table. run_over (loaded_with usual table) queries) boxes_load

row_levels_of_sixteen : run_of usual boxes (codes "levels") ≡ whole_run (line (codes "1 1") ++ line (codes "0 5") ++ line (codes "ok 1 2")) false
unfolding digits
row_levels_of_sixteen = run_over_boxes (codes "levels") ∙ refl

row_no_queries : run_of usual boxes [] ≡ whole_run [] false
row_no_queries = run_over_boxes [] ∙ refl

row_repeated : run_over (Err (fault.Repeated 6)) (codes "find all") ≡ ([], record { status = 3; fault = Some (Table (fault.Repeated 6)) })
row_repeated = refl

row_fault_line : run_fault_line (Table (fault.Repeated 6)) ≡ line (codes "rtfilter: table record 6: repeated id")
unfolding digits
row_fault_line = refl
