-- What pushes add up to.
use Rattle.std.proofs.Common.{◌≡◌, ◌∙◌, ◌+◌, ℕ, List, [], ◌∷◌, ◌++◌, length, take, drop, Option, Some, None, refl, sym, ap}
use Rattle.std.proofs.{Common.{arith, append_assoc, append-nil, rules}, Math.Seq.{take-append_seam}}
use Rattle.std.proofs.lemmas.List.{take-append-drop}
use Rattle.std.specs.{Io.{StartsWith, KnownBytes.{Appends, Keeps}}, Prelude.{IsErrAnd, MatchResult, Result, Ok, Err}, Result.{result_and}}
use Rattle.rt_filter.specs.Pushes.{Pushed, WasCut}

-- what holds anyway holds of a failure
pub at_failure : {T E B : Type 0} (r : Result T E) (P : E → Type 0) (A : T → Type 0) → IsErrAnd r P → B → MatchResult r A (λ _. B)
at_failure r P A is h = grind (arith, is, h)

-- a sink that is left alone
pub nothing_pushed : (written : Option (List ℕ)) → Appends written written []
nothing_pushed None = tt
nothing_pushed (Some xs) = sym (append-nil xs)

-- some bytes were pushed, and then others
pub pushed_then : (old mid new : Option (List ℕ)) (xs ys : List ℕ) → Appends old mid xs → Appends mid new ys → Appends old new (xs ++ ys)
pushed_then old mid new xs ys h k = grind (arith, append_assoc, h, k)

-- of all bytes, what isn't left was pushed
pub record AllBut (all : List ℕ) (old now : Option (List ℕ)) (rest : List ℕ) : Type 0 where
  pub out : List ℕ
  pub parts : all ≡ out ++ rest
  pub pushed : Appends old now out

pub pushed_none : (all : List ℕ) (old : Option (List ℕ)) → AllBut all old old all
pushed_none all old = record { out = []; parts = refl; pushed = nothing_pushed old }

-- nothing is left
pub pushed_whole : (all : List ℕ) (old now : Option (List ℕ)) (rest : List ℕ) → AllBut all old now rest → length rest ≡ 0
    → Appends old now all
pushed_whole all old now [] p z = rw (p.parts, append-nil p.out) p.pushed
pushed_whole all old now (c ∷ rest) p z = absurd (omega (arith, z))

-- the next bytes were pushed too
pub pushed_next : (all next rest : List ℕ) (old mid new : Option (List ℕ)) → AllBut all old mid (next ++ rest) → Appends mid new next
    → AllBut all old new rest
pushed_next all next rest old mid new p h = record {
  out = p.out ++ next;
  parts = p.parts ∙ sym (append_assoc p.out next rest);
  pushed = pushed_then old mid new p.out next p.pushed h;
}

-- so many of those that were left
pub pushed_some : (all rest : List ℕ) (n : ℕ) (old mid new : Option (List ℕ)) → AllBut all old mid rest → Appends mid new (take n rest)
    → AllBut all old new (drop n rest)
pushed_some all rest n old mid new p h = pushed_next all (take n rest) (drop n rest) old mid new (rw (take-append-drop n rest) p) h

-- all that was left was pushed
pub pushed_rest : (all last : List ℕ) (old mid new : Option (List ℕ)) → AllBut all old mid last → Appends mid new last
    → Appends old new all
pushed_rest all last old mid new p h =
    pushed_whole all old new [] (pushed_next all last [] old mid new (rw append-nil p) h) refl

-- ---- what was cut short

-- the front of a list is a prefix of it
prefix : (out rest all : List ℕ) → all ≡ out ++ rest → StartsWith all out
prefix out rest all e = rw e (take-append_seam out rest)

-- what stands behind a prefix
pub behind : (xs out : List ℕ) → StartsWith xs out → xs ≡ out ++ drop (length out) xs
behind xs out h = sym (take-append-drop (length out) xs) ∙ ap (λ zs. zs ++ drop (length out) xs) h

-- of the next bytes a prefix was pushed
pub pushed_cut : (all next rest : List ℕ) (old mid new : Option (List ℕ)) → AllBut all old mid (next ++ rest) → WasCut mid new next
    → WasCut old new all
pushed_cut all next rest old mid new p h =
    let parts = ap (λ zs. zs ++ rest) (behind next h.went h.prefix) in
    let whole : all ≡ (p.out ++ h.went) ++ (drop (length h.went) next ++ rest) = search (rules, append_assoc) in
    record {
      went = p.out ++ h.went;
      prefix = prefix (p.out ++ h.went) (drop (length h.went) next ++ rest) all whole;
      pushed = pushed_then old mid new p.out h.went p.pushed h.pushed;
    }

-- none of them was
pub pushed_prefix : (all rest : List ℕ) (old mid new : Option (List ℕ)) → AllBut all old mid rest → Appends mid new []
    → WasCut old new all
pushed_prefix all rest old mid new p h =
    pushed_cut all rest [] old mid new (rw append-nil p) (record { went = []; prefix = refl; pushed = h })

-- a push or a flush that failed keeps what was written
pub kept_none : (old new : Option (List ℕ)) → Keeps old new → Appends old new []
kept_none old new h = grind (arith, append-nil, h)

pub kept_same : (now : Option (List ℕ)) → Keeps now now
kept_same now = grind arith

-- ---- calls that push

-- a success that is given a value
pub pushed_and : {T U E K : Type 0} (written : K → Option (List ℕ)) (failed : K → ℕ) (old new : K) (r : Result T E) (all : Result U E)
    (x : U) → all ≡ result_and r (Ok x) → (bytes : List ℕ) → Pushed written failed old new r bytes
    → Pushed written failed old new all bytes
pushed_and written failed old new (Ok _) all x is bytes h = rw is h
pushed_and written failed old new (Err _) all x is bytes h = rw is h

module _ {T E K : Type 0} (written : K → Option (List ℕ)) (failed : K → ℕ) (old mid new : K) where
  -- a failure is one at each type
  pub as_failed : (r : Result T E) (P : E → Type 0) (bytes : List ℕ) → IsErrAnd r P
      → WasCut (written old) (written new) bytes × (failed new ≡ failed old + 1) → Pushed written failed old new r bytes
  as_failed r P bytes is h = grind (arith, is, h)

  -- what was left was pushed
  pub pushed_last : (all last : List ℕ) (r : Result T E) → AllBut all (written old) (written mid) last → failed mid ≡ failed old
      → Pushed written failed mid new r last → Pushed written failed old new r all
  pushed_last all last (Ok x) p count h = search (rules, pushed_rest)
  pushed_last all last (Err e) p count h = (
    pushed_cut all last [] _ _ _ (rw append-nil p) h.0,
    h.1 ∙ ap (λ n. n + 1) count,
  )
