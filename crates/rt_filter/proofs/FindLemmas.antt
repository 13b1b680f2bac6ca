-- The lines of the answers, one after the other.
use Rattle.std.specs.Io.KnownBytes.{Appends}
use Rattle.std.proofs.Common.{◌≡◌, ◌+◌, ◌≤◌, ℕ, ℤ, List, [], ◌∷◌, ◌++◌, length, Option, arith, append_assoc, rules}
use Rattle.std.proofs.lemmas.List.{length-take, Concat.{flat_map-cons}, Sorted.{length_permutation}}
use Rattle.rt_geo.specs.{Laws.{Meaning}, declared.entry.Entry.{Entry}}
use Rattle.rt_tree.specs.Sorting.{limited, sorted}
use Rattle.rt_tree.proofs.SortingLemmas.{IsPermutation-sorted}
use Rattle.rt_text.specs.ReplyLines.{answer_line, ok_line}
use Rattle.rt_search.specs.Answers.{Answer, answer_cmp, answers, scored}
use Rattle.rt_search.proofs.Giving.{length-scored}
use Rattle.rt_filter.specs.Pushes.{WasCut, answer_lines}
use Rattle.rt_filter.proofs.PushLemmas.{AllBut, pushed_cut, pushed_next}

length-limited : {X : Type 0} (limit : Option ℕ) (xs : List X) → length (limited limit xs) ≤ length xs
length-limited limit xs = grind (arith, length-take)

-- there are at most as many answers as entries
pub few_answers : (entries : List Entry) (meaning : Meaning) (limit : Option ℕ)
    → length (answers entries meaning limit) ≤ length entries
few_answers entries meaning limit =
    let found : List Answer = scored entries meaning in
    let same = length_permutation found (sorted answer_cmp found) (IsPermutation-sorted answer_cmp found) in
    omega (arith, same, length-limited limit (sorted answer_cmp found), length-scored meaning entries)

-- what is left of a reply: the lines of these answers, and the number of all
abbrev pub reply_left : (line count : ℕ) → List Answer → List ℕ
reply_left line count found = answer_lines found ++ ok_line line count

-- only their number is left
pub reply_end : (all : List ℕ) (old mid : Option (List ℕ)) (line count n : ℕ) (found : List Answer) → found ≡ []
    → n + length found ≡ count → AllBut all old mid (reply_left line count found) → AllBut all old mid (ok_line line n)
reply_end all old mid line count n found none many left = search rules

module _ (all : List ℕ) (old mid new : Option (List ℕ)) (line count : ℕ) (id : ℤ) (score : ℕ) (found more : List Answer) (is : found ≡ (id, score) ∷ more) (left : AllBut all old mid (reply_left line count found)) where
  next : AllBut all old mid (answer_line id score ++ reply_left line count more)
  next = rw (is, flat_map-cons (λ (answer : Answer). answer_line answer.0 answer.1) (id, score) more, append_assoc (answer_line id score) (answer_lines more) (ok_line line count)) at left

  -- the line of the next answer was pushed
  pub answer_pushed : Appends mid new (answer_line id score) → AllBut all old new (reply_left line count more)
  answer_pushed h = pushed_next all (answer_line id score) (reply_left line count more) old mid new next h

  -- it was cut short
  pub answer_cut : WasCut mid new (answer_line id score) → WasCut old new all
  answer_cut h = pushed_cut all (answer_line id score) (reply_left line count more) old mid new next h
