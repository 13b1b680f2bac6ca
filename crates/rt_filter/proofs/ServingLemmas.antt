-- One turn after the other, and how serving ends.
use Rattle.std.proofs.Common.{◌≡◌, ◌∙◌, ◌+◌, ◌<◌, ◌≤◌, ℕ, Bool, true, false, List, [], ◌++◌, length, take, Option, Some}
use Rattle.std.proofs.Common.{None, refl, sym, ap, subst, arith, append_assoc, append-nil, rules}
use Rattle.std.proofs.{Math.Seq.{take-append_seam}, lemmas.List.{length-append, length-take-le}}
use Rattle.std.specs.{Io.{StartsWith, KnownBytes.{Appends, Consumes, IsAtEnd, Keeps}}, Prelude.{unwrap_or}}
use Rattle.rt_device.specs.Devices.{PulledTimes}
use Rattle.rt_text.specs.Words.{is_empty}
use Rattle.rt_filter.specs.{Endings.{ConsumedAtLeast, Happened, Known, Serves, ServesWith, SourceTells}}
use Rattle.rt_filter.specs.{Lines.{longest_line, numbered_lines}, Pushes.{WasCut}, Replies.{Loaded}}
use Rattle.rt_filter.specs.{Progresses.{IsAfter, completed}, Replies.{any_fault, output}, Stages.{IsServing}}
use Rattle.rt_filter.specs.declared.progress.Progress.{Progress}
use Rattle.rt_filter.specs.declared.serving.{ServeFault.{ServeFault}, Served.{Served}}
use Rattle.rt_filter.proofs.{LineLemmas.{completed-all}, PushLemmas.{behind, pushed_then}}
use Rattle.rt_filter.proofs.ProgressLemmas.{any_fault-append, ended-lines, or_first, output-append}
use Rattle.rt_filter.specs.declared.serving.ServeFault.TheVariants as serve

-- ---- what a source and a sink tell

-- what is known of their bytes
abbrev pub known : (coming written : Option (List ℕ)) → Known
known coming written = record { coming = coming; written = written }

pub consumes_none : (old : Option (List ℕ)) → Consumes old old []
consumes_none old = grind arith

consumes_more : (old mid new : Option (List ℕ)) (xs ys : List ℕ) → Consumes old mid xs → Consumes mid new ys → Consumes old new (xs ++ ys)
consumes_more old mid new xs ys h k = grind (arith, append_assoc xs ys)

-- a pull failed, which keeps what is to come
consumes_kept : (old mid new : Option (List ℕ)) (xs : List ℕ) → Consumes old mid xs → Keeps mid new → Consumes old new xs
consumes_kept old mid new xs h k = grind (arith, h, k)

-- a pull gave a byte at least
pub consumed_more : (count n : ℕ) (buffer : List ℕ) (old mid new : Option (List ℕ)) → ConsumedAtLeast count old mid → 1 ≤ n → n ≤ length buffer
    → Consumes mid new (take n buffer) → ConsumedAtLeast (count + 1) old new
consumed_more count n buffer old mid new h some bound k = search (rules, consumes_more, length-append, length-take-le)

pub pulled_more : (times : ℕ) (old mid new : Option ℕ) → PulledTimes times old mid → PulledTimes 1 mid new → PulledTimes (times + 1) old new
pulled_more times old mid new h k = grind (arith, h, k)

-- one pull more, where a turn is left
pub pulled_within : (times turns : ℕ) (old mid new : Option ℕ) → PulledTimes times old mid → PulledTimes 1 mid new → times < turns
    → (more : ℕ) × PulledTimes more old new × (more ≤ turns)
pulled_within times turns old mid new h k left = (times + 1, pulled_more times old mid new h k, omega arith)

-- what rests, where it is known
abbrev pub rest_of : Option (List ℕ) → List ℕ
rest_of coming = unwrap_or coming []

ended : (now : Option (List ℕ)) → IsAtEnd now → rest_of now ≡ []
ended now at = grind (arith, at)

abbrev pub so_far : (consumed : List ℕ) (coming : Option (List ℕ)) (out : List ℕ) → Happened
so_far consumed coming out = record { consumed = consumed; rest = rest_of coming; out = out }

pub source_tells : (old now : Option (List ℕ)) (consumed out : List ℕ) → Consumes old now consumed → SourceTells old now (so_far consumed now out)
source_tells old now consumed out h = grind (arith, h)

-- ---- prefixes

starts-between : (before xs front back : List ℕ) → StartsWith xs front → StartsWith (before ++ (xs ++ back)) (before ++ front)
starts-between before xs front back h = let is = behind xs front h in grind (arith, is, append_assoc, take-append_seam)

-- ---- serving

module _ (loaded : Loaded) (coming0 coming written0 written : Option (List ℕ)) (progress : Progress) (kept : List ℕ) (s : IsServing loaded coming0 coming written0 written progress kept) where
  abbrev replied : List ℕ
  replied = output loaded (numbered_lines s.pulled false)

  -- a pull, and its lines answered
  pub serving_more : (now out : Option (List ℕ)) (more : Progress) (left given : List ℕ) → Consumes coming now given → IsAfter more left (s.pulled ++ given)
      → Appends written out (output loaded (completed s.pulled given false)) → IsServing loaded coming0 now written0 out more left
  serving_more now out more left given h e w = search (rules, consumes_more, completed-all, output-append, pushed_then)

  -- a failed pull, or turns that are used up
  pub serves_read : (now : Option (List ℕ)) (served : Served) → Keeps coming now → served.bad ≡ progress.bad → served.fault ≡ Some serve.Read
      → Serves loaded (known coming0 written0) (known now written) served
  serves_read now served h b f = rw (b, f) (
    so_far s.pulled now replied,
    source_tells coming0 now s.pulled replied (consumes_kept coming0 coming now s.pulled s.given h),
    s.pushed,
    record { replies = refl; faults = ap (λ (p : Progress). p.bad) s.so.0 },
  )

  -- all was read and written
  pub serves_all : (now out : Option (List ℕ)) (served : Served) → Consumes coming now [] → IsAtEnd now → Appends written out (output loaded (completed s.pulled [] true))
      → served.bad ≡ any_fault (numbered_lines s.pulled true) → served.fault ≡ None → Serves loaded (known coming0 written0) (known now out) served
  serves_all now out served h at w b f =
      let all : Appends written0 out (output loaded (numbered_lines s.pulled true)) =
      search (rules, ended-lines, output-append, pushed_then) in
      rw (b, f) (
        so_far s.pulled now (output loaded (numbered_lines s.pulled true)),
        source_tells coming0 now s.pulled (output loaded (numbered_lines s.pulled true)) (subst (Consumes coming0 now) (append-nil s.pulled) (consumes_more coming0 coming now s.pulled [] s.given h)),
        all,
        (ended now at, record { replies = refl; faults = refl }),
      )

  -- a push or a flush failed on the way
  cut_row : (now out : Option (List ℕ)) (served : Served) (given : List ℕ) (lines later : List (ℕ × List ℕ)) → Consumes coming now given → length given ≤ longest_line + 1
      → WasCut written out (output loaded lines) → numbered_lines (s.pulled ++ given) (is_empty (rest_of now)) ≡ numbered_lines s.pulled false ++ (lines ++ later)
      → (served.bad ≡ true → any_fault (numbered_lines (s.pulled ++ given) (is_empty (rest_of now))) ≡ true) → served.fault ≡ Some serve.Write
      → Serves loaded (known coming0 written0) (known now out) served
  cut_row now out served given lines later h few cut all b f =
      rw f (
        so_far (s.pulled ++ given) now (replied ++ cut.went),
        source_tells coming0 now (s.pulled ++ given) (replied ++ cut.went) (consumes_more coming0 coming now s.pulled given s.given h),
        pushed_then written0 written out replied cut.went s.pushed cut.pushed,
        record {
          replies = search (rules, output-append, starts-between);
          faults = b;
          answered = length s.pulled;
          shorter = omega (arith, length-append s.pulled given, few);
          replied = rw (take-append_seam s.pulled given) (take-append_seam replied cut.went);
        },
      )

  pub serves_cut : (now out : Option (List ℕ)) (served : Served) (given : List ℕ) → Consumes coming now given → length given ≤ longest_line + 1
      → WasCut written out (output loaded (completed s.pulled given false))
      → (served.bad ≡ true → any_fault (numbered_lines (s.pulled ++ given) false) ≡ true) → served.fault ≡ Some serve.Write
      → Serves loaded (known coming0 written0) (known now out) served
  serves_cut now out served given h few cut b f =
      let ended = is_empty (rest_of now) in
      let later : List (ℕ × List ℕ) = completed (s.pulled ++ given) [] ended in
      let more : numbered_lines (s.pulled ++ given) ended ≡ numbered_lines (s.pulled ++ given) false ++ later =
      ap (λ zs. numbered_lines zs ended) (sym (append-nil (s.pulled ++ given))) ∙ completed-all (s.pulled ++ given) [] ended in
      cut_row now out served given (completed s.pulled given false) later h few cut
      (more ∙ ap (λ ls. ls ++ later) (completed-all s.pulled given false) ∙ append_assoc (numbered_lines s.pulled false) (completed s.pulled given false) later)
      (λ e. rw (more, any_fault-append (numbered_lines (s.pulled ++ given) false)) (or_first (any_fault (numbered_lines (s.pulled ++ given) false)) (any_fault later) (b e))) f

  -- at the end
  pub serves_cut_at_end : (now out : Option (List ℕ)) (served : Served) → Consumes coming now [] → IsAtEnd now → WasCut written out (output loaded (completed s.pulled [] true))
      → (served.bad ≡ true → any_fault (numbered_lines s.pulled true) ≡ true) → served.fault ≡ Some serve.Write → Serves loaded (known coming0 written0) (known now out) served
  serves_cut_at_end now out served h at cut b f =
      cut_row now out served [] (completed s.pulled [] true) [] h (omega arith) cut
      (rw (ended now at, append-nil (completed s.pulled [] true)) (completed-all s.pulled [] true))
      (rw (ended now at, append-nil s.pulled) b) f

-- ---- other entries

-- serving ends with the same replies over other entries
pub serves_same : (loaded other : Loaded) → ((lines : List (ℕ × List ℕ)) → output other lines ≡ output loaded lines)
    → (coming coming' written written' : Option (List ℕ)) (served : Served) → Serves loaded (known coming written) (known coming' written') served
    → Serves other (known coming written) (known coming' written') served
serves_same loaded other same coming coming' written written' served s = (s.0, s.1, s.2, with_same s.0 served.bad served.fault s.3)
  where
    with_same : (what : Happened) (bad : Bool) (fault : Option ServeFault) → ServesWith loaded what bad fault → ServesWith other what bad fault
    with_same what bad None h = (h.0, record { replies = h.1.replies ∙ sym (same (numbered_lines what.consumed true)); faults = h.1.faults })
    with_same what bad (Some serve.Read) h = record { replies = h.replies ∙ sym (same (numbered_lines what.consumed false)); faults = h.faults }
    with_same what bad (Some serve.Write) h = record {
      replies = rw (same (numbered_lines what.consumed (is_empty what.rest))) h.replies;
      faults = h.faults;
      answered = h.answered;
      shorter = h.shorter;
      replied = rw (same (numbered_lines (take h.answered what.consumed) false)) h.replied;
    }
