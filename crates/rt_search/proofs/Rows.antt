-- Answers that were worked out by hand: the definitions give them by computing.
use Rattle.std.proofs.Common.{◌≡◌, refl, ℕ, ℤ, pos, negsuc, zero, suc, Option, [], ◌∷◌, Some, None, length}
use Rattle.rt_geo.specs.{Boxes.{Rect, rect_of}, Laws.{Meaning, guided}, Orders.{by_id, near, order_estimate}}
use Rattle.rt_geo.specs.{Orders.{order_score}, Regions.{region_accepts, region_state}, declared.entry.Entry.{Entry}}
use Rattle.rt_geo.specs.declared.{order.Order.{Order}, region.Region.{Region, TheVariants.{All, Window}}}
use Rattle.rt_tree.specs.{Packed.{Packed}, Packing.{pack_of}}
use Rattle.rt_search.specs.{Answers.{accepted, answers}, Work.{asked_by_count, its_children, opened_by_count}}
use Rattle.rt_search.specs.Work.{opened_by_search, search_work}

-- ---- the tree over five boxes, two children for each node

-- negative numbers by their absolute value
abbrev minus : ℕ → ℤ
minus zero = pos 0
minus (suc n) = negsuc n

abbrev entry : ℕ → Rect → Entry
entry id bounds = record { id = pos id; bounds = bounds; layer = 0 }

abbrev tree : Packed
tree = pack_of 2 (
    entry 1 (rect_of (pos 0) (pos 10) (pos 0) (pos 10))
    ∷ entry 2 (rect_of (pos 5) (pos 15) (pos 5) (pos 15))
    ∷ entry 3 (rect_of (pos 20) (pos 30) (pos 0) (pos 10))
    ∷ entry 4 (rect_of (minus 5) (minus 1) (minus 5) (minus 1))
    ∷ entry 5 (rect_of (pos 12) (pos 12) (pos 12) (pos 12)) ∷ [])

-- ---- what is asked for

abbrev all : Region
all = All (record {})

abbrev window : Region
window = Window (record { 0 = rect_of (pos 0) (pos 10) (pos 0) (pos 10) })

abbrev near_point : Order
near_point = near (record { x = pos 12; y = pos 12 })

abbrev meaning_of : Region → Order → Meaning
meaning_of region order =
    guided (region_accepts region) (region_state region) (order_score order) (order_estimate order)

-- ---- all, near a point

three_nearest : answers tree.entries (meaning_of all near_point) (Some 3) ≡ (pos 2, 0) ∷ (pos 5, 0) ∷ (pos 1, 8) ∷ []
three_nearest = refl

abbrev opened_near : (limit : Option ℕ) → ℕ
opened_near = opened_by_search (meaning_of all near_point) tree

opened_for_three : opened_near (Some 3) ≡ 5
opened_for_three = refl

asked_for_three : search_work its_children (meaning_of all near_point) tree (Some 3) ≡ 9
asked_for_three = refl

opened_for_two : opened_near (Some 2) ≡ 3
opened_for_two = refl

opened_for_none : opened_near (Some 0) ≡ 0
opened_for_none = refl

-- ---- all, by id

all_by_id : answers tree.entries (meaning_of all by_id) None
    ≡ (pos 1, 0) ∷ (pos 2, 0) ∷ (pos 3, 0) ∷ (pos 4, 0) ∷ (pos 5, 0) ∷ []
all_by_id = refl

opened_by_id : opened_by_search (meaning_of all by_id) tree None ≡ 6
opened_by_id = refl

-- ---- counts

two_in_window : length (accepted tree.entries (meaning_of window by_id)) ≡ 2
two_in_window = refl

opened_for_window : opened_by_count (meaning_of window by_id) tree ≡ 5
opened_for_window = refl

opened_for_all : opened_by_count (meaning_of all by_id) tree ≡ 1
opened_for_all = refl

asked_for_all : asked_by_count (meaning_of all by_id) tree ≡ 2
asked_for_all = refl

-- ---- an empty tree

nothing_opened : opened_by_search (meaning_of all by_id) (pack_of 2 []) None ≡ 0
nothing_opened = refl

nothing_counted : opened_by_count (meaning_of all by_id) (pack_of 2 []) ≡ 0
nothing_counted = refl
