-- How far lines are answered.
use Rattle.std.proofs.Common.{◌≡◌, ◌∙◌, ◌+◌, ℕ, Bool, true, false, ◌||◌, List, [], ◌∷◌, ◌++◌, ◌≤◌, length, take, drop, Option, Some}
use Rattle.std.proofs.{Common.{refl, sym, ap, arith, append_assoc, append-nil}, Math.Bool.{or-false}}
use Rattle.std.proofs.lemmas.{Bool.Decides.{nat_tests}, Grind.{flat_map-append}, List.{length-append, Folds.{list_any-append}}}
use Rattle.std.specs.{Io.KnownBytes.{Appends, Keeps}}
use Rattle.memchr.specs.Find.{IsFirstByte, is_byte}
use Rattle.rt_filter.specs.{Lines.{is_too_long, longest_line, numbered_lines}, Pushes.{WasCut}}
use Rattle.rt_text.specs.declared.query.Parsed.{Parsed}
use Rattle.rt_filter.specs.Replies.{Loaded, any_fault, is_fault, output, parsed_line, reply}
use Rattle.rt_filter.specs.Progresses.{IsAfter, IsLeft, LeftOf, begun_line, completed, kept_of, parsed_of, progress_of}
use Rattle.rt_filter.specs.declared.progress.Progress.{Progress}
use Rattle.rt_filter.specs.Stages.{HasNoLineFeed, IsAnswering, line_feed, lines_from}
use Rattle.rt_filter.proofs.LineLemmas.{IsCutAt, begun-found, begun-none, completed-all, completed-append, completed-ended}
use Rattle.rt_filter.proofs.{LineLemmas.{completed-ended_none, completed-found, completed-none, found}, PushLemmas.{pushed_cut}}
use Rattle.rt_filter.proofs.PushLemmas.{nothing_pushed, pushed_next, pushed_none, pushed_prefix, kept_none, pushed_then}
use Rattle.rt_filter.proofs.WorkLemmas.{counts_none, counts_then, opened_by_lines-append, opened_by_lines-one}
use Rattle.rt_search.specs.Work.{CountsOn}
use Rattle.rt_filter.specs.LineCosts.{opened_by_line, opened_by_lines}
use Rattle.std.proofs.Common.{rules}

-- ---- replies to some lines and then others

pub output-append : (loaded : Loaded) (xs ys : List (ℕ × List ℕ)) → output loaded (xs ++ ys) ≡ output loaded xs ++ output loaded ys
output-append loaded xs ys = flat_map-append (λ (line : ℕ × List ℕ). reply loaded line.0 (parsed_line line.1)) xs ys

pub any_fault-append : (xs ys : List (ℕ × List ℕ)) → any_fault (xs ++ ys) ≡ (any_fault xs || any_fault ys)
any_fault-append xs ys = list_any-append (λ (line : ℕ × List ℕ). is_fault (parsed_line line.1)) xs ys

pub cut_then : (old mid new : Option (List ℕ)) (xs ys zs : List ℕ) → Appends old mid xs → WasCut mid new ys → WasCut old new (xs ++ (ys ++ zs))
cut_then old mid new xs ys zs h k =
    pushed_cut (xs ++ (ys ++ zs)) ys zs old mid new (pushed_next (xs ++ (ys ++ zs)) xs (ys ++ zs) old old mid (pushed_none (xs ++ (ys ++ zs)) old) h) k

-- ---- the line that is begun

longer_too : (begun end : List ℕ) → is_too_long begun ≡ true → is_too_long (begun ++ end) ≡ true
longer_too begun end long = grind (arith, long, nat_tests, length-append begun end)

fitting : (line : List ℕ) → length line ≤ longest_line → is_too_long line ≡ false
fitting line few = grind (arith, few, nat_tests)

-- its kept part asks with its end what it does
pub parsed-begun : (begun end : List ℕ) → length (kept_of begun ++ end) ≤ longest_line
    → parsed_of (is_too_long begun) (kept_of begun ++ end) ≡ parsed_line (begun ++ end)
parsed-begun begun end fits = by (is_too_long begun) refl
  where
    by : (b : Bool) → is_too_long begun ≡ b → parsed_of (is_too_long begun) (kept_of begun ++ end) ≡ parsed_line (begun ++ end)
    by true long =
        let longer : is_too_long (begun ++ end) ≡ true = longer_too begun end long in
        rw (long, longer) refl
    by false short =
        let whole : is_too_long (begun ++ end) ≡ false = fitting (begun ++ end) (rw short at fits) in
        rw (short, whole) refl

progress_with : (pulled : List ℕ) (lines : List (ℕ × List ℕ)) (begun : List ℕ) → numbered_lines pulled false ≡ lines → begun_line pulled ≡ begun
    → progress_of pulled ≡ record { lines = length lines; bad = any_fault lines; is_too_long = is_too_long begun }
progress_with pulled lines begun l b = rw (l, b) refl

pub or_first : (a b : Bool) → a ≡ true → (a || b) ≡ true
or_first a b h = rw h refl

or_more : (a b c : Bool) → (a || b) ≡ true → (a || (b || c)) ≡ true
or_more a b c h = grind (arith, h)

module _ (pulled line : List ℕ) (clear : HasNoLineFeed line) where
  abbrev number : ℕ
  number = length (numbered_lines pulled false) + 1

  -- the line that these bytes end, with a line feed
  one_more : numbered_lines (pulled ++ (line ++ line_feed ∷ [])) false ≡ numbered_lines pulled false ++ (number, begun_line pulled ++ line) ∷ []
  one_more = completed-all pulled (line ++ line_feed ∷ []) false ∙ ap (λ ls. numbered_lines pulled false ++ ls) (completed-found pulled line [] false clear)

  after-line : (progress : Progress) (kept : List ℕ) → IsAfter progress kept pulled → length (kept ++ line) ≤ longest_line
      → IsAfter (record { lines = progress.lines + 1; bad = progress.bad || is_fault (parsed_of progress.is_too_long (kept ++ line)); is_too_long = false }) [] (pulled ++ (line ++ line_feed ∷ []))
  after-line progress kept h fits = search (rules, length-append, parsed-begun, or-false, any_fault-append, progress_with, one_more, begun-found)

-- more bytes without a line feed
pub left-rest : (pulled rest : List ℕ) → HasNoLineFeed rest → (progress : Progress) (kept : List ℕ) → IsAfter progress kept pulled
    → IsLeft progress (kept ++ rest) (pulled ++ rest)
left-rest pulled rest clear progress kept h =
    let none : numbered_lines (pulled ++ rest) false ≡ numbered_lines pulled false =
    completed-all pulled rest false ∙ ap (λ ls. numbered_lines pulled false ++ ls) (completed-none pulled rest clear) ∙ append-nil (numbered_lines pulled false) in
    record {
      lines = ap (λ (p : Progress). p.lines) h.0 ∙ ap length (sym none);
      bad = ap (λ (p : Progress). p.bad) h.0 ∙ ap any_fault (sym none);
      begun = rw (begun-none pulled rest clear, h.0, h.1) (by (is_too_long (begun_line pulled)) refl);
    }
  where
    by : (b : Bool) → is_too_long (begun_line pulled) ≡ b → LeftOf (is_too_long (begun_line pulled)) (kept_of (begun_line pulled) ++ rest) (begun_line pulled ++ rest)
    by true long = rw long (longer_too (begun_line pulled) rest long)
    by false short = rw short refl

-- ---- what was answered

pub answered-first : (loaded : Loaded) (progress : Progress) (out : Option (List ℕ)) (opened : ℕ) (kept given : List ℕ)
    → IsAnswering loaded progress progress out out opened opened kept given kept given
answered-first loaded progress out opened kept given = record {
  front = [];
  parts = refl;
  so = λ pulled is. (
    rw (append-nil pulled) is,
    rw (completed-none pulled [] tt) (nothing_pushed out),
    rw (completed-none pulled [] tt) (counts_none opened),
  );
}

module _ (loaded : Loaded) (old progress : Progress) (old_out out : Option (List ℕ)) (old_opened opened : ℕ) (kept given begun rest : List ℕ) (s : IsAnswering loaded old progress old_out out old_opened opened kept given begun rest) where
  -- a line was answered
  module _ (n : ℕ) (at : IsFirstByte (is_byte line_feed) rest (Some n)) (line : List ℕ) (line-is : line ≡ begun ++ take n rest) (fits : length line ≤ longest_line) where
    abbrev requested : Parsed
    requested = parsed_of progress.is_too_long line

    short : length (begun ++ take n rest) ≤ longest_line
    short = rw (← line-is) fits

    cut : IsCutAt rest (take n rest) (drop (n + 1) rest)
    cut = found rest n at

    -- it is the line that is complete now
    requested-is : (pulled : List ℕ) → IsAfter old kept pulled → requested ≡ parsed_line (begun_line (pulled ++ s.front) ++ take n rest)
    requested-is pulled is = rw line-is (search (rules, parsed-begun, short))

    -- so the reply is the one to it
    reply-is : (pulled : List ℕ) → IsAfter old kept pulled
        → reply loaded (progress.lines + 1) requested ≡ reply loaded (length (numbered_lines (pulled ++ s.front) false) + 1) (parsed_line (begun_line (pulled ++ s.front) ++ take n rest))
    reply-is pulled is = search (rules, requested-is)

    -- the nodes that it opens are those that the line opens
    opened-more : (pulled : List ℕ) → IsAfter old kept pulled
        → opened_by_lines loaded (completed pulled (s.front ++ (take n rest ++ line_feed ∷ [])) false)
        ≡ opened_by_lines loaded (completed pulled s.front false) + opened_by_line loaded requested
    opened-more pulled is =
        ap (opened_by_lines loaded) (completed-append pulled s.front (take n rest ++ line_feed ∷ []) false)
        ∙ opened_by_lines-append loaded (completed pulled s.front false) (completed (pulled ++ s.front) (take n rest ++ line_feed ∷ []) false)
        ∙ ap (λ lines. opened_by_lines loaded (completed pulled s.front false) + opened_by_lines loaded lines) (completed-found (pulled ++ s.front) (take n rest) [] false cut.clear)
        ∙ ap (λ n. opened_by_lines loaded (completed pulled s.front false) + n)
        (opened_by_lines-one loaded (length (numbered_lines (pulled ++ s.front) false) + 1, begun_line (pulled ++ s.front) ++ take n rest)
        ∙ ap (opened_by_line loaded) (sym (requested-is pulled is)))

    pub answered-more : (left : List ℕ) (now : Progress) (sent : Option (List ℕ)) (total : ℕ) → left ≡ drop (n + 1) rest
        → now ≡ record { lines = progress.lines + 1; bad = progress.bad || is_fault requested; is_too_long = false }
        → Appends out sent (reply loaded (progress.lines + 1) requested) → CountsOn opened (opened_by_line loaded requested) total
        → IsAnswering loaded old now old_out sent old_opened total kept given [] left
    answered-more left now sent total l e w count =
        let ended : List ℕ = take n rest ++ line_feed ∷ [] in
        let parts : rest ≡ ended ++ left = cut.parts ∙ ap (λ zs. take n rest ++ line_feed ∷ zs) (sym l) ∙ sym (append_assoc (take n rest) (line_feed ∷ []) left) in
        record {
          front = s.front ++ ended;
          parts = s.parts ∙ ap (λ zs. s.front ++ zs) parts ∙ sym (append_assoc s.front ended left);
          so = λ pulled is.
              let sent_so_far = s.so pulled is in
              let one : output loaded (completed (pulled ++ s.front) ended false) ≡ reply loaded (progress.lines + 1) requested =
              ap (output loaded) (completed-found (pulled ++ s.front) (take n rest) [] false cut.clear) ∙ append-nil _ ∙ sym (reply-is pulled is) in
              let all : output loaded (completed pulled (s.front ++ ended) false) ≡ output loaded (completed pulled s.front false) ++ reply loaded (progress.lines + 1) requested =
              ap (output loaded) (completed-append pulled s.front ended false) ∙ output-append loaded (completed pulled s.front false) (completed (pulled ++ s.front) ended false)
              ∙ ap (λ zs. output loaded (completed pulled s.front false) ++ zs) one in (
                rw (e, line-is, ← append_assoc pulled s.front ended) (after-line (pulled ++ s.front) (take n rest) cut.clear progress begun sent_so_far.0 short),
                rw all (pushed_then old_out out sent _ _ sent_so_far.1 w),
                rw (opened-more pulled is) (counts_then old_opened opened total _ _ sent_so_far.2 count),
              );
        }

    -- the lines of all bytes are those that were answered, this one, and later ones
    lines-later : (pulled : List ℕ) → completed pulled given false
        ≡ completed pulled s.front false ++ (length (numbered_lines (pulled ++ s.front) false) + 1, begun_line (pulled ++ s.front) ++ take n rest) ∷ lines_from (length (numbered_lines (pulled ++ s.front) false) + 1) (drop (n + 1) rest) false
    lines-later pulled = search (rules, cut, completed-append, completed-found)

    -- a line couldn't be answered
    pub answered-cut : (sent : Option (List ℕ)) → WasCut out sent (reply loaded (progress.lines + 1) requested) → (pulled : List ℕ) → IsAfter old kept pulled
        → WasCut old_out sent (output loaded (completed pulled given false))
    answered-cut sent w pulled is = search (rules, lines-later, output-append, cut_then, reply-is)

    pub fault-cut : (bad : Bool) → bad ≡ (progress.bad || is_fault requested) → (pulled : List ℕ) → IsAfter old kept pulled
        → bad ≡ true → any_fault (numbered_lines (pulled ++ given) false) ≡ true
    fault-cut bad b pulled is h =
        let so : (any_fault (numbered_lines (pulled ++ s.front) false) || is_fault (parsed_line (begun_line (pulled ++ s.front) ++ take n rest))) ≡ true = search (rules, requested-is) in
        let whole = ap (λ zs. numbered_lines (pulled ++ zs) false) (s.parts ∙ ap (λ zs. s.front ++ zs) cut.parts)
        ∙ ap (λ zs. numbered_lines zs false) (sym (append_assoc pulled s.front (take n rest ++ line_feed ∷ drop (n + 1) rest)))
        ∙ completed-all (pulled ++ s.front) (take n rest ++ line_feed ∷ drop (n + 1) rest) false
        ∙ ap (λ ls. numbered_lines (pulled ++ s.front) false ++ ls) (completed-found (pulled ++ s.front) (take n rest) (drop (n + 1) rest) false cut.clear) in
        rw (whole, any_fault-append (numbered_lines (pulled ++ s.front) false)) (or_more (any_fault (numbered_lines (pulled ++ s.front) false)) (is_fault (parsed_line (begun_line (pulled ++ s.front) ++ take n rest))) _ so)

  -- all lines are answered, and the rest is left
  pub answered-left : HasNoLineFeed rest → (pulled : List ℕ) → IsAfter old kept pulled → IsLeft progress (begun ++ rest) (pulled ++ given)
  answered-left clear pulled is =
      rw (s.parts, ← append_assoc pulled s.front rest) (left-rest (pulled ++ s.front) rest clear progress begun (s.so pulled is).0)

  pub answered-all : HasNoLineFeed rest → (pulled : List ℕ) → IsAfter old kept pulled → Appends old_out out (output loaded (completed pulled given false))
  answered-all clear pulled is = search (rules, completed-append, completed-none, append-nil)

  -- and so are the nodes that they open
  pub opened-all : HasNoLineFeed rest → (pulled : List ℕ) → IsAfter old kept pulled
      → CountsOn old_opened (opened_by_lines loaded (completed pulled given false)) opened
  opened-all clear pulled is = search (rules, completed-append, completed-none, append-nil)

-- a line that is known to be faulty is one of those that are complete
pub left-bad : (progress : Progress) (left pulled : List ℕ) → IsLeft progress left pulled → progress.bad ≡ true → any_fault (numbered_lines pulled false) ≡ true
left-bad progress left pulled h e = sym h.bad ∙ e

-- ---- a flush

pub pushed_kept : (old mid new : Option (List ℕ)) (bytes : List ℕ) → Appends old mid bytes → Keeps mid new → Appends old new bytes
pushed_kept old mid new bytes w k = grind (arith, w, k)

pub pushed_lost : (old mid new : Option (List ℕ)) (bytes : List ℕ) → Appends old mid bytes → Keeps mid new → WasCut old new bytes
pushed_lost old mid new bytes w k =
    pushed_prefix bytes [] old mid new (pushed_next bytes bytes [] old old mid (rw append-nil (pushed_none bytes old)) w) (kept_none mid new k)

-- ---- the end

-- what stands behind the last line feed is a line, unless it is empty: then that line would have no reply
ended-with : {A : Type 0} (f : List (ℕ × List ℕ) → A) → ((number : ℕ) → f ((number, []) ∷ []) ≡ f [])
    → (pulled : List ℕ) → f (completed pulled [] true) ≡ f ((length (numbered_lines pulled false) + 1, begun_line pulled) ∷ [])
ended-with f empty pulled = by (begun_line pulled) refl
  where
    number : ℕ
    number = length (numbered_lines pulled false) + 1

    by : (begun : List ℕ) → begun_line pulled ≡ begun → f (completed pulled [] true) ≡ f ((number, begun_line pulled) ∷ [])
    by [] b = ap f (completed-ended_none pulled b) ∙ sym (ap (λ begun. f ((number, begun) ∷ [])) b ∙ empty number)
    by (x ∷ begun) b = ap f (completed-ended pulled x begun b)

-- all lines, those that the end completes with them
pub ended-lines : (pulled : List ℕ) → numbered_lines pulled true ≡ numbered_lines pulled false ++ completed pulled [] true
ended-lines pulled = ap (λ zs. numbered_lines zs true) (sym (append-nil pulled)) ∙ completed-all pulled [] true

-- it is one as if a line feed followed
ended-line : (pulled : List ℕ) → completed pulled (line_feed ∷ []) false ≡ (length (numbered_lines pulled false) + 1, begun_line pulled) ∷ []
ended-line pulled = completed-found pulled [] [] false tt ∙ ap (λ begun. (length (numbered_lines pulled false) + 1, begun) ∷ []) (append-nil (begun_line pulled))

pub ended-output : (loaded : Loaded) (pulled : List ℕ) → output loaded (completed pulled (line_feed ∷ []) false) ≡ output loaded (completed pulled [] true)
ended-output loaded pulled = ap (output loaded) (ended-line pulled) ∙ sym (ended-with (output loaded) (λ number. refl) pulled)

pub ended-fault : (pulled : List ℕ) → any_fault (numbered_lines (pulled ++ line_feed ∷ []) false) ≡ any_fault (numbered_lines pulled true)
ended-fault pulled =
    let lines = numbered_lines pulled false in
    ap any_fault (completed-all pulled (line_feed ∷ []) false) ∙ any_fault-append lines _
    ∙ ap (λ fault. any_fault lines || fault) (ap any_fault (ended-line pulled) ∙ sym (ended-with any_fault (λ number. refl) pulled))
    ∙ sym (ap any_fault (ended-lines pulled) ∙ any_fault-append lines _)
