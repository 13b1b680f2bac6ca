use Rattle.std.proofs.Common.{◌≡◌, ◌∙◌, ap, codes, sym, refl, Some, Option, List, ℕ, option_map}
use Rattle.std.specs.Borrow.{Bor}
use Rattle.clap.specs.Words.{Row, first_of, found_of, rows_of}
use Rattle.clap.proofs.WalkLemmas.{first_value-rows}
use Rattle.clap.proofs.CallerLemmas.{some_of_text}
use Rattle.rt_command.specs.Invocations.{invocation_in, is_given, option_number}
use Rattle.rt_command.specs.Choices.{Choices}
use Rattle.rt_command.proofs.invocation.settings_of.Goals as goal

-- an invocation is that of its parts
joined : (rows : List Row) (settings : Choices) (table : List ℕ) (queries : Option (List ℕ)) → settings.header ≡ is_given (codes "header") rows
    → option_number (codes "fanout") rows ≡ Some settings.fanout → option_number (codes "max-entries") rows ≡ Some settings.max_entries
    → Some table ≡ first_of (codes "table") rows → queries ≡ first_of (codes "queries") rows
    → invocation_in rows ≡ Some (record { settings = settings; table = table; queries = queries })
joined rows settings table queries h f m t q = rw (f, m, ← h, ← t, ← q) refl

pub unwrap-requires : goal.unwrap-requires
unwrap-requires c = some_of_text (λ (s : Bor (List ℕ)). s.now) c.get_str.result _ (c.get_str.ensures ∙ first_value-rows (found_of c.in_ok-matches.matches) (codes "table")) c.in_ok-matches.ensures.filled.table

pub returns-clause-ok : goal.returns-clause-ok
returns-clause-ok c =
    let f = found_of c.in_ok-matches.matches in
    let table : Some c.in_ok-new.field-0 ≡ first_of (codes "table") (rows_of f) =
    ap Some c.in_ok-new.ensures ∙ ap (option_map (λ (s : Bor (List ℕ)). s.now)) (sym c.unwrap.ensures) ∙ c.get_str.ensures ∙ first_value-rows f (codes "table") in
    let queries : c.in_ok-named.field-0 ≡ first_of (codes "queries") (rows_of f) =
    c.in_ok-named.ensures ∙ c.get_str-2.ensures ∙ first_value-rows f (codes "queries") in
    ap invocation_in (sym c.in_ok-matches.ensures.rows) ∙ joined (rows_of f) c.settings.result c.in_ok-new.field-0 c.in_ok-named.field-0 c.settings.ensures.header c.settings.ensures.fanout c.settings.ensures.max_entries table queries
