-- The lines of a text that is whole in memory, one after the other.
use Rattle.std.proofs.Common.{◌≡◌, ◌∙◌, ◌+◌, ◌%◌, ◌^◌, ◌<◌, ◌||◌, ℕ, Bool, List, [], ◌∷◌, length, take, drop, Option, Some, None, true, false, refl}
use Rattle.std.proofs.{Common.{ap, arith}, lemmas.List.{Concat.{flat_map-cons}, Sums.{sum_by-cons}}}
use Rattle.memchr.specs.Find.{IsFirstByte, is_byte}
use Rattle.rt_filter.specs.{Pushes.{WasCut}, Replies.{Loaded, any_fault, is_fault, output, parsed_line, reply}, Stages.{line_feed, lines_from}}
use Rattle.rt_filter.proofs.LineLemmas.{found, found_none, lines_from-found, lines_from-last}
use Rattle.rt_filter.proofs.PushLemmas.{AllBut, pushed_cut, pushed_next}
use Rattle.std.specs.Io.KnownBytes.{Appends}
use Rattle.rt_filter.specs.LineCosts.{opened_by_line, opened_by_lines}
use Rattle.rt_search.specs.Work.{CountsOn}

-- the first ends before a line feed
pub line_before : (bytes : List ℕ) (n number : ℕ) → IsFirstByte (is_byte line_feed) bytes (Some n)
    → lines_from number bytes true ≡ (number + 1, take n bytes) ∷ lines_from (number + 1) (drop (n + 1) bytes) true
line_before bytes n number at =
    let cut = found bytes n at in
    ap (λ xs. lines_from number xs true) cut.parts ∙ lines_from-found number (take n bytes) (drop (n + 1) bytes) true cut.clear

-- or is the last, where there is none
pub line_at_end : (bytes : List ℕ) (number : ℕ) → 0 < length bytes → IsFirstByte (is_byte line_feed) bytes None
    → lines_from number bytes true ≡ (number + 1, bytes) ∷ lines_from (number + 1) [] true
line_at_end [] number some none = absurd (omega arith)
line_at_end (x ∷ xs) number some none = lines_from-last number x xs (found_none (x ∷ xs) none)

-- the reply to the first line that is left was pushed
pub line_pushed : (loaded : Loaded) (all : List ℕ) (old mid new : Option (List ℕ)) (lines more : List (ℕ × List ℕ)) (line : ℕ × List ℕ)
    → lines ≡ line ∷ more → AllBut all old mid (output loaded lines) → Appends mid new (reply loaded line.0 (parsed_line line.1))
    → AllBut all old new (output loaded more)
line_pushed loaded all old mid new lines more line is left h =
    let next = rw (is, flat_map-cons (λ (line : ℕ × List ℕ). reply loaded line.0 (parsed_line line.1)) line more) at left in
    pushed_next all (reply loaded line.0 (parsed_line line.1)) (output loaded more) old mid new next h

-- some line is faulty where one of those before was, or this one is, or one behind it
pub line_judged : (bad : Bool) (lines more : List (ℕ × List ℕ)) (line : ℕ × List ℕ) → lines ≡ line ∷ more
    → (bad || any_fault lines) ≡ ((bad || is_fault (parsed_line line.1)) || any_fault more)
line_judged true lines more line is = refl
line_judged false lines more line is = ap any_fault is

-- the nodes of the first line that is left were counted
pub line_worked : (loaded : Loaded) (all mid new : ℕ) (lines more : List (ℕ × List ℕ)) (line : ℕ × List ℕ) → lines ≡ line ∷ more
    → all % 2 ^ 64 ≡ (mid + opened_by_lines loaded lines) % 2 ^ 64 → CountsOn mid (opened_by_line loaded (parsed_line line.1)) new
    → all % 2 ^ 64 ≡ (new + opened_by_lines loaded more) % 2 ^ 64
line_worked loaded all mid new lines more line is total counted =
    let whole = rw is at total in
    let split : opened_by_lines loaded (line ∷ more) ≡ opened_by_line loaded (parsed_line line.1) + opened_by_lines loaded more =
    sum_by-cons _ line more in
    omega (arith, whole, counted, split)

-- it was cut short
pub line_cut : (loaded : Loaded) (all : List ℕ) (old mid new : Option (List ℕ)) (lines more : List (ℕ × List ℕ)) (line : ℕ × List ℕ)
    → lines ≡ line ∷ more → AllBut all old mid (output loaded lines) → WasCut mid new (reply loaded line.0 (parsed_line line.1))
    → WasCut old new all
line_cut loaded all old mid new lines more line is left cut =
    let next = rw (is, flat_map-cons (λ (line : ℕ × List ℕ). reply loaded line.0 (parsed_line line.1)) line more) at left in
    pushed_cut all (reply loaded line.0 (parsed_line line.1)) (output loaded more) old mid new next cut
