-- Answers that were worked out by hand: the definitions give them by computing.
use Rattle.std.proofs.Common.{◌≡◌, refl, ℕ, pos, negsuc, List, [], ◌∷◌, Some}
use Rattle.rt_geo.specs.Boxes.{Rect, rect_of}
use Rattle.rt_geo.specs.declared.entry.Entry.{Entry}
use Rattle.rt_tree.specs.Packed.{Packed}
use Rattle.rt_tree.specs.Packing.{pack_of}
use Rattle.rt_search.specs.Answers.{answers}
use Rattle.rt_search.specs.Work.{opened_by_search}
use Rattle.rt_search_tests.specs.Uneven.{uneven}

abbrev entry : ℕ → Rect → Entry
entry id bounds = record { id = pos id; bounds = bounds; layer = 0 }

-- (of numbers below zero, `negsuc 4` is -5)
abbrev five_boxes : List Entry
five_boxes =
    entry 1 (rect_of (pos 0) (pos 10) (pos 0) (pos 10))
    ∷ entry 2 (rect_of (pos 5) (pos 15) (pos 5) (pos 15))
    ∷ entry 3 (rect_of (pos 20) (pos 30) (pos 0) (pos 10))
    ∷ entry 4 (rect_of (negsuc 4) (negsuc 0) (negsuc 4) (negsuc 0))
    ∷ entry 5 (rect_of (pos 12) (pos 12) (pos 12) (pos 12)) ∷ []

-- two children for each node
abbrev tree : Packed
tree = pack_of 2 five_boxes

uneven_answers : answers tree.entries uneven (Some 2) ≡ (pos 1, 10) ∷ (pos 2, 10) ∷ []
uneven_answers = refl

uneven_opened : opened_by_search uneven tree (Some 1) ≡ 6
uneven_opened = refl
