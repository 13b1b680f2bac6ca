-- A search up to the least limit that gives all answers that are needed.
use Rattle.std.proofs.Common.{◌≡◌, ◌∙◌, ◌+◌, ◌-◌, ◌<◌, ◌≤◌, ℕ, zero, suc, Bool, List, Option, Some, None, MatchOption, length, take, drop, refl, sym, ap, arith, true, false}
use Rattle.std.specs.{Option.{option_map}, Prelude.{ℤ, min}}
use Rattle.std.proofs.lemmas.{List.{drop-take, length-take, take_all, take-take}, Option.{slice_get_past}}
use Rattle.rt_geo.specs.{Laws.{Meaning}, declared.entry.Entry.{Entry}}
use Rattle.rt_tree.specs.{Packed.{Packed}}
use Rattle.rt_search.specs.{Answers.{Answer, answers}, Work.{last_score, opened_by_search, is_reached, one_node, reached_from_root}}
use Rattle.rt_filter.proofs.FindLemmas.{few_answers}
use Rattle.rt_embed.specs.{Costs.{limit_within}, Puts.{IsPut, IsWithin, needed_from}}
use Rattle.rt_embed.specs.declared.{finding.Position.{Position}, score.Score.{Score}}

-- ---- the answers

-- a limit is the least of one and of how many are needed, unless there is none for so few boxes
abbrev pub IsLeast : (limit found : Option ℕ) → (needed : ℕ) → Type 0
IsLeast limit found needed = MatchOption found (limit ≡ None) (λ least. least ≡ limit_within limit needed)

least_taken : {X : Type 0} (limit needed : ℕ) (xs : List X) → take (min needed limit) xs ≡ take needed (take limit xs)
least_taken limit needed xs = grind (arith, take-take, take_all, length-take)

-- up to it the answers are those that are needed
pub answers_within : (entries : List Entry) (meaning : Meaning) (limit found : Option ℕ) (needed : ℕ)
    → IsWithin found needed (length entries) → IsLeast limit found needed
    → answers entries meaning found ≡ take needed (answers entries meaning limit)
answers_within entries meaning limit None needed within least =
    rw least (sym (take_all needed (answers entries meaning None) (omega (arith, within, few_answers entries meaning None))))
answers_within entries meaning None (Some n) needed within least = rw least refl
answers_within entries meaning (Some limit) (Some n) needed within least =
    rw least (least_taken limit needed (answers entries meaning None))

-- what is put of those that are needed is what is put of all
pub put_within : (list : List Answer) (from to : Position) (ids ids' : List ℤ) (scores scores' : List Score)
    → from.end ≤ length ids → IsPut (take (needed_from from (length ids)) list) from to ids ids' scores scores'
    → IsPut list from to ids ids' scores scores'
put_within list from to ids ids' scores scores' place put =
    let few = put.put in
    let space = length ids - from.end in
    let rest = drop from.skip list in
    let split : needed_from from (length ids) ≡ from.skip + (space + 1) = omega arith in
    let part : drop from.skip (take (needed_from from (length ids)) list) ≡ take (space + 1) rest =
    ap (λ n. drop from.skip (take n list)) split ∙ drop-take from.skip (space + 1) list in
    let inside : to.end - from.end ≤ space + 1 = omega (arith, few.place) in
    let same : take (to.end - from.end) (drop from.skip (take (needed_from from (length ids)) list)) ≡ take (to.end - from.end) rest =
    ap (take (to.end - from.end)) part ∙ take-take (to.end - from.end) (space + 1) rest inside in
    let many : length (drop from.skip (take (needed_from from (length ids)) list)) ≡ min (space + 1) (length rest) =
    ap length part ∙ length-take (space + 1) rest in
    record {
      put = record {
        ids_stand = rw same at few.ids_stand;
        scores_stand = rw same at few.scores_stand;
        ids_len = few.ids_len;
        scores_len = few.scores_len;
        behind = few.behind;
        place = few.place;
        few = omega (arith, few.few, many);
        whole = λ is. omega (arith, few.whole is, many, few.place);
        cut = λ is. ((few.cut is).0, omega (arith, (few.cut is).1, many));
      };
      skip = omega (arith, put.skip, length-take (needed_from from (length ids)) list);
    }

-- ---- the nodes that are opened

-- no answer is the last of more than there are
no_last : (found : List Answer) (n : ℕ) → length found ≤ n → last_score found (Some (suc n)) ≡ None
no_last found n few =
    let before : suc n - 1 ≡ n = omega arith in
    rw before (ap (option_map (λ (a : Answer). a.1)) (slice_get_past found n few))

-- for more answers than there are as many are opened as for all
pub opened_for_all : (t : Packed) (meaning : Meaning) (needed : ℕ) → length t.entries < needed
    → opened_by_search meaning t (Some needed) ≡ opened_by_search meaning t None
opened_for_all t meaning zero few = absurd (omega (arith, few))
opened_for_all t meaning (suc n) few =
    let none = no_last (answers t.entries meaning None) n (omega (arith, few, few_answers t.entries meaning None)) in
    ap (λ bound. reached_from_root (is_reached bound) one_node meaning t) none

-- up to the least limit as many are opened as for the answers that are needed
pub opened_within : (t : Packed) (meaning : Meaning) (limit found : Option ℕ) (needed : ℕ)
    → IsWithin found needed (length t.entries) → IsLeast limit found needed
    → opened_by_search meaning t found ≡ opened_by_search meaning t (Some (limit_within limit needed))
opened_within t meaning limit None needed within least =
    rw least (sym (opened_for_all t meaning needed within))
opened_within t meaning limit (Some n) needed within least = ap (λ n. opened_by_search meaning t (Some n)) least

-- where more answers come than have a place, as many are opened as up to the limit
pub opened_cut : (t : Packed) (meaning : Meaning) (limit : Option ℕ) (needed given : ℕ) → IsWithin limit needed (length t.entries)
    → given ≡ needed → needed ≤ length (answers t.entries meaning limit)
    → opened_by_search meaning t (Some given) ≡ opened_by_search meaning t limit
opened_cut t meaning None needed given within is many =
    absurd (omega (arith, within, many, few_answers t.entries meaning None))
opened_cut t meaning (Some limit) needed given within is many =
    let whole : given ≡ limit = omega (arith, is, within, many, length-take limit (answers t.entries meaning None)) in
    ap (λ n. opened_by_search meaning t (Some n)) whole

pub opened_either : (is_whole : Bool) (opened all part : ℕ) → (is_whole ≡ true → opened ≡ all) → (is_whole ≡ false → opened ≡ part)
    → (is_whole ≡ false → part ≡ all) → opened ≡ all
opened_either true opened all part whole cut same = whole refl
opened_either false opened all part whole cut same = cut refl ∙ same refl
