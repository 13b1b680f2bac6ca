-- The lines of query bytes, one after the other.
use Rattle.std.proofs.Common.{◌≡◌, ◌∙◌, ◌+◌, ◌<◌, ℕ, Bool, true, false, List, [], ◌∷◌, ◌++◌, length, take, drop, get_or, refl}
use Rattle.std.proofs.{Common.{sym, ap, arith, rules, append_assoc, append-nil, Some, None}, Math.Seq.{drop-append_seam}}
use Rattle.std.proofs.lemmas.{Bool.{eqb-true, false_from_ne_true}, List.{drop_more, get_or-take, length-take-le}}
use Rattle.std.proofs.lemmas.List.{take-append-drop, Elements.{All-from_get_or, All-from_recursion, recursion_from_All}}
use Rattle.std.proofs.lemmas.List.{FromFn.{length-enumerate_from}, Splits.{length-slice_split, slice_split_at, slice_split_none}}
use Rattle.std.specs.List.{enumerate_from, slice_split}
use Rattle.memchr.specs.Find.{IsFirstByte, is_byte}
use Rattle.rt_filter.specs.{Lines.{is_line_feed, lines_of_parts, numbered_lines}, Progresses.{begun_line, completed, last_part}}
use Rattle.rt_filter.specs.Stages.{HasNoLineFeed, line_feed, lines_from}

-- ---- where the first line feed stands

-- what stands before the one that was found has none, and what stands behind it follows it
pub record IsCutAt (xs front back : List ℕ) : Type 0 where
  pub parts : xs ≡ front ++ line_feed ∷ back
  pub clear : HasNoLineFeed front

pub found : (xs : List ℕ) (n : ℕ) → IsFirstByte (is_byte line_feed) xs (Some n) → IsCutAt xs (take n xs) (drop (n + 1) xs)
found xs n h =
    let is : get_or xs n 0 ≡ line_feed = eqb-true (get_or xs n 0) line_feed h.1 in
    let long : length (take n xs) ≡ n = length-take-le n xs (omega (arith, h.0.high)) in
    record {
      parts = sym (take-append-drop n xs) ∙ ap (λ back. take n xs ++ back) (drop_more xs n 0 h.0.high ∙ ap (λ c. c ∷ drop (n + 1) xs) is);
      clear = recursion_from_All (λ c. is_line_feed c ≡ false) (take n xs) (All-from_get_or (λ c. is_line_feed c ≡ false) (take n xs) 0 (λ k lt.
          let below : k < n = omega (arith, lt, long) in
          rw (get_or-take n xs k 0 below) (false_from_ne_true _ (h.0.before k (omega arith) below))));
    }

pub found_none : (xs : List ℕ) → IsFirstByte (is_byte line_feed) xs None → HasNoLineFeed xs
found_none xs h = recursion_from_All (λ c. is_line_feed c ≡ false) xs (All-from_get_or (λ c. is_line_feed c ≡ false) xs 0 (λ k lt. false_from_ne_true _ (h k (omega arith) lt)))

-- ---- bytes without a line feed

pub clear-append : (xs ys : List ℕ) → HasNoLineFeed xs → HasNoLineFeed ys → HasNoLineFeed (xs ++ ys)
clear-append [] ys h k = k
clear-append (x ∷ xs) ys h k = (h.0, clear-append xs ys h.1 k)

-- they are one part
pub one_part : (xs : List ℕ) → HasNoLineFeed xs → slice_split is_line_feed xs ≡ xs ∷ []
one_part xs h = slice_split_none is_line_feed xs (All-from_recursion _ xs h)

-- before a line feed they are the first
first_part : (xs ys : List ℕ) → HasNoLineFeed xs → slice_split is_line_feed (xs ++ line_feed ∷ ys) ≡ xs ∷ slice_split is_line_feed ys
first_part xs ys h = slice_split_at is_line_feed xs line_feed ys (All-from_recursion _ xs h) refl

-- no list of parts is empty
some_part : (xs : List ℕ) → (part : List ℕ) × (more : List (List ℕ)) × (slice_split is_line_feed xs ≡ part ∷ more)
some_part xs =
    let parts = slice_split is_line_feed xs in
    (get_or parts 0 [], drop 1 parts, drop_more parts 0 [] (omega (arith, length-slice_split is_line_feed xs)))

-- ---- lines

line_first : (ended : Bool) (part xs : List ℕ) → lines_of_parts ended (part ∷ slice_split is_line_feed xs) ≡ part ∷ lines_of_parts ended (slice_split is_line_feed xs)
line_first ended part xs = let m = some_part xs in rw m.2 refl

-- what stands before a line feed is a line, and those behind it follow
pub lines_from-found : (number : ℕ) (xs ys : List ℕ) (ended : Bool) → HasNoLineFeed xs
    → lines_from number (xs ++ line_feed ∷ ys) ended ≡ (number + 1, xs) ∷ lines_from (number + 1) ys ended
lines_from-found number xs ys ended h = search (rules, first_part, line_first)

-- without a line feed there is none yet
pub lines_from-none : (number : ℕ) (xs : List ℕ) → HasNoLineFeed xs → lines_from number xs false ≡ []
lines_from-none number xs h = ap (λ parts. enumerate_from (number + 1) (lines_of_parts false parts)) (one_part xs h)

-- and one at the end, unless it is empty
pub lines_from-last : (number x : ℕ) (xs : List ℕ) → HasNoLineFeed (x ∷ xs) → lines_from number (x ∷ xs) true ≡ (number + 1, x ∷ xs) ∷ []
lines_from-last number x xs h = ap (λ parts. enumerate_from (number + 1) (lines_of_parts true parts)) (one_part (x ∷ xs) h)

-- ---- bytes that go on

-- their parts are those that are complete, and then those of the last one with what follows
parts-append : (xs ys : List ℕ)
    → slice_split is_line_feed (xs ++ ys) ≡ lines_of_parts false (slice_split is_line_feed xs) ++ slice_split is_line_feed (begun_line xs ++ ys)
parts-append [] ys = refl
parts-append (x ∷ xs) ys = grind (arith, parts-append xs ys, some_part xs)

-- no line feed stands behind the last one
pub begun_clear : (xs : List ℕ) → HasNoLineFeed (begun_line xs)
begun_clear [] = tt
begun_clear (x ∷ xs) = grind (arith, begun_clear xs)

lines_of_parts-append : (ended : Bool) (xs : List (List ℕ)) (part : List ℕ) (more : List (List ℕ))
    → lines_of_parts ended (xs ++ part ∷ more) ≡ xs ++ lines_of_parts ended (part ∷ more)
lines_of_parts-append ended [] part more = refl
lines_of_parts-append ended (x ∷ []) part more = refl
lines_of_parts-append ended (x ∷ y ∷ xs) part more = ap (λ ls. x ∷ ls) (lines_of_parts-append ended (y ∷ xs) part more)

last_part-append : (xs : List (List ℕ)) (part : List ℕ) (more : List (List ℕ)) → last_part (xs ++ part ∷ more) ≡ last_part (part ∷ more)
last_part-append [] part more = refl
last_part-append (x ∷ []) part more = refl
last_part-append (x ∷ y ∷ xs) part more = last_part-append (y ∷ xs) part more

enumerate_from-append : (n : ℕ) (xs ys : List (List ℕ)) → enumerate_from n (xs ++ ys) ≡ enumerate_from n xs ++ enumerate_from (n + length xs) ys
enumerate_from-append n [] ys = ap (λ k. enumerate_from k ys) (omega arith)
enumerate_from-append n (x ∷ xs) ys = grind (arith, enumerate_from-append (n + 1) xs ys)

-- the lines of bytes that go on are those that are complete, and then those of what was begun with what follows
pub numbered_lines-append : (xs ys : List ℕ) (ended : Bool)
    → numbered_lines (xs ++ ys) ended ≡ numbered_lines xs false ++ lines_from (length (numbered_lines xs false)) (begun_line xs ++ ys) ended
numbered_lines-append xs ys ended =
    let whole : List (List ℕ) = lines_of_parts false (slice_split is_line_feed xs) in
    let m = some_part (begun_line xs ++ ys) in
    let lines : lines_of_parts ended (slice_split is_line_feed (xs ++ ys)) ≡ whole ++ lines_of_parts ended (slice_split is_line_feed (begun_line xs ++ ys)) =
    ap (lines_of_parts ended) (parts-append xs ys) ∙ rw m.2 (lines_of_parts-append ended whole m.0 m.1) in
    let count : 1 + length whole ≡ length (numbered_lines xs false) + 1 = omega (arith, length-enumerate_from 1 whole) in
    ap (enumerate_from 1) lines ∙ enumerate_from-append 1 whole (lines_of_parts ended (slice_split is_line_feed (begun_line xs ++ ys)))
    ∙ ap (λ k. numbered_lines xs false ++ enumerate_from k (lines_of_parts ended (slice_split is_line_feed (begun_line xs ++ ys)))) count

begun_line-append : (xs ys : List ℕ) → begun_line (xs ++ ys) ≡ begun_line (begun_line xs ++ ys)
begun_line-append xs ys = let m = some_part (begun_line xs ++ ys) in let is = m.2 in search (rules, parts-append, last_part-append, is)

-- ---- what more bytes complete

pub completed-is : (xs ys : List ℕ) (ended : Bool) → completed xs ys ended ≡ lines_from (length (numbered_lines xs false)) (begun_line xs ++ ys) ended
completed-is xs ys ended = search (rules, numbered_lines-append, drop-append_seam)

pub completed-all : (xs ys : List ℕ) (ended : Bool) → numbered_lines (xs ++ ys) ended ≡ numbered_lines xs false ++ completed xs ys ended
completed-all xs ys ended = numbered_lines-append xs ys ended ∙ ap (λ ls. numbered_lines xs false ++ ls) (sym (completed-is xs ys ended))

-- what completes some and then more
pub completed-append : (xs ys zs : List ℕ) (ended : Bool) → completed xs (ys ++ zs) ended ≡ completed xs ys false ++ completed (xs ++ ys) zs ended
completed-append xs ys zs ended = search (rules, append_assoc, completed-all, drop-append_seam)

-- a line feed completes one line, and what follows completes the others
pub completed-found : (xs line ys : List ℕ) (ended : Bool) → HasNoLineFeed line
    → completed xs (line ++ line_feed ∷ ys) ended ≡ (length (numbered_lines xs false) + 1, begun_line xs ++ line) ∷ lines_from (length (numbered_lines xs false) + 1) ys ended
completed-found xs line ys ended clear = search (rules, completed-is, append_assoc, lines_from-found, clear-append, begun_clear)

pub begun-found : (xs line : List ℕ) → HasNoLineFeed line → begun_line (xs ++ (line ++ line_feed ∷ [])) ≡ []
begun-found xs line clear = search (rules, begun_line-append, append_assoc, first_part, clear-append, begun_clear)

-- without one nothing is complete
pub completed-none : (xs ys : List ℕ) → HasNoLineFeed ys → completed xs ys false ≡ []
completed-none xs ys clear = search (rules, completed-is, lines_from-none, clear-append, begun_clear)

pub begun-none : (xs ys : List ℕ) → HasNoLineFeed ys → begun_line (xs ++ ys) ≡ begun_line xs ++ ys
begun-none xs ys clear = begun_line-append xs ys ∙ ap last_part (one_part (begun_line xs ++ ys) (clear-append (begun_line xs) ys (begun_clear xs) clear))

-- at the end a line is complete without one, unless it is empty
pub completed-ended : (xs : List ℕ) → (x : ℕ) (begun : List ℕ) → begun_line xs ≡ x ∷ begun
    → completed xs [] true ≡ (length (numbered_lines xs false) + 1, begun_line xs) ∷ []
completed-ended xs x begun e =
    completed-is xs [] true ∙ ap (λ line. lines_from (length (numbered_lines xs false)) line true) (append-nil (begun_line xs) ∙ e)
    ∙ lines_from-last (length (numbered_lines xs false)) x begun (rw e at (begun_clear xs))
    ∙ ap (λ line. (length (numbered_lines xs false) + 1, line) ∷ []) (sym e)

pub completed-ended_none : (xs : List ℕ) → begun_line xs ≡ [] → completed xs [] true ≡ []
completed-ended_none xs e = search (rules, completed-is)
