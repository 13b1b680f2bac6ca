-- The nodes that queries of lines open, one after the other.
use Rattle.std.proofs.Common.{◌+◌, ◌^◌, ◌%◌, ◌≡◌, ℕ, List, [], ◌∷◌, ◌++◌, ap, arith}
use Rattle.std.proofs.lemmas.List.Sums.{sum_by-append}
use Rattle.std.specs.{Prelude.{IfOk, Result, Ok, Err}, Result.{result_and}}
use Rattle.rt_search.specs.Work.{CountsOn}
use Rattle.rt_filter.specs.{Replies.{Loaded, parsed_line}, LineCosts.{opened_by_line, opened_by_lines}}

-- ---- counts of 64 bits

pub counts_none : (n : ℕ) → CountsOn n 0 n
counts_none n = ap (λ m. m % 2 ^ 64) (omega arith)

pub counts_then : (old mid new first second : ℕ) → CountsOn old first mid → CountsOn mid second new
    → CountsOn old (first + second) new
counts_then old mid new first second h k = omega (arith, h, k)

-- a frontier that is left as it was, where what was pushed went out
pub counts_and : {T U E : Type 0} (r : Result T E) (all : Result U E) (x : U) → all ≡ result_and r (Ok x)
    → (P : U → Type 0) → P x → IfOk all P
counts_and (Ok t) all x is P h = rw is h
counts_and (Err e) all x is P h = rw is tt

-- ---- lines

pub opened_by_lines-one : (loaded : Loaded) (line : ℕ × List ℕ)
    → opened_by_lines loaded (line ∷ []) ≡ opened_by_line loaded (parsed_line line.1)
opened_by_lines-one loaded line = omega arith

pub opened_by_lines-append : (loaded : Loaded) (xs ys : List (ℕ × List ℕ))
    → opened_by_lines loaded (xs ++ ys) ≡ opened_by_lines loaded xs + opened_by_lines loaded ys
opened_by_lines-append loaded xs ys = sum_by-append (λ (line : ℕ × List ℕ). opened_by_line loaded (parsed_line line.1)) xs ys
