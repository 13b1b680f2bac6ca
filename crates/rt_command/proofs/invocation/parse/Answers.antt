use Rattle.std.proofs.Common.{ap, subst, refl, true, ◌≡◌, ◌∙◌, inl, inr, List, ℕ, [], map}
use Rattle.std.proofs.lemmas.List.{map-id}
use Rattle.std.proofs.lemmas.Result.{err_from_is_err_and}
use Rattle.clap.specs.Words.{App, HasKind, HasMatchesOf, Kinds, app_of, fault_of, found_of, is_simple, is_simple_and_free, kind_of, matches_of, rows_of, takes}
use Rattle.clap.specs.declared.error.Error.{Error}
use Rattle.clap.specs.declared.error.kind.ErrorKind.TheVariants as kind
use Rattle.clap.specs.declared.parser.matches.ArgMatches.{ArgMatches}
use Rattle.rt_command.specs.Invocations.{IsFaultAmong, arg_fault_of, filter_app}
use Rattle.rt_command.proofs.CommandLemmas.{filter_app-filled, filter_app-is_simple, filter_app-simple}
use Rattle.rt_command.proofs.invocation.parse.Goals as goal

-- a kind of clap's as we tell it
reported : (kinds : Kinds) (e : Error) → HasKind kinds e → IsFaultAmong kinds (arg_fault_of (kind_of e))
reported kinds e (inl h) = inl (ap arg_fault_of h)
reported kinds e (inr h) = inr (kind_of e, h, refl)

-- what clap says of the command that it was given and of the words one by one, of our command and the words
kinds_of : (a b : App) (words : List (List ℕ)) (e : Error) → a ≡ b → is_simple_and_free b ≡ true → (is_simple_and_free a ≡ true → HasKind (fault_of a (map (λ w. w) words)) e) → HasKind (fault_of b words) e
kinds_of a b words e same free h = subst (λ (ws : List (List ℕ)). HasKind (fault_of b ws) e) (map-id words) (subst (λ (x : App). (is_simple_and_free x ≡ true → HasKind (fault_of x (map (λ w. w) words)) e)) same h free)

no_kinds_of : (a b : App) (words : List (List ℕ)) → a ≡ b → is_simple_and_free b ≡ true → (is_simple_and_free a ≡ true → fault_of a (map (λ w. w) words) ≡ []) → fault_of b words ≡ []
no_kinds_of a b words same free h = subst (λ (ws : List (List ℕ)). fault_of b ws ≡ []) (map-id words) (subst (λ (x : App). (is_simple_and_free x ≡ true → fault_of x (map (λ w. w) words) ≡ [])) same h free)

memory_of : (a b : App) (words : List (List ℕ)) (e : Error) → a ≡ b → (takes a (map (λ w. w) words) ≡ true → kind_of e ≡ kind.OutOfMemory) → takes b words ≡ true → kind_of e ≡ kind.OutOfMemory
memory_of a b words e same h = subst (λ (ws : List (List ℕ)). (takes b ws ≡ true → kind_of e ≡ kind.OutOfMemory)) (map-id words) (subst (λ (x : App). (takes x (map (λ w. w) words) ≡ true → kind_of e ≡ kind.OutOfMemory)) same h)

rows_of_app : (a b : App) (words : List (List ℕ)) (m : ArgMatches) → a ≡ b → is_simple b ≡ true → HasMatchesOf a (map (λ w. w) words) m → rows_of (found_of m) ≡ matches_of b words
rows_of_app a b words m same simple h = (subst (λ (x : App). HasMatchesOf x (map (λ w. w) words) m) same h simple).0 ∙ ap (matches_of b) (map-id words)

pub returns-in_err-try_get_matches_from-clause-faults : goal.returns-in_err-try_get_matches_from-clause-faults
returns-in_err-try_get_matches_from-clause-faults c =
    let p = err_from_is_err_and c.from_residual-in_err-try_get_matches_from.result c.from_residual-in_err-try_get_matches_from.ensures.1 in
    let h = kinds_of (app_of c.in_ok-command.command) filter_app c.args.words.now c.in_err-try_get_matches_from.field-0.0 c.in_ok-command.ensures filter_app-simple c.in_err-try_get_matches_from.ensures.kinds in
    rw (p.1, p.2) (reported _ c.in_err-try_get_matches_from.field-0.0 h)

pub returns-in_err-try_get_matches_from-clause-takes : goal.returns-in_err-try_get_matches_from-clause-takes
returns-in_err-try_get_matches_from-clause-takes c =
    let p = err_from_is_err_and c.from_residual-in_err-try_get_matches_from.result c.from_residual-in_err-try_get_matches_from.ensures.1 in
    let h = memory_of (app_of c.in_ok-command.command) filter_app c.args.words.now c.in_err-try_get_matches_from.field-0.0 c.in_ok-command.ensures c.in_err-try_get_matches_from.ensures.passes in
    rw (p.1, p.2) (λ t. ap arg_fault_of (h t))

pub returns-clause-rows : goal.returns-clause-rows
returns-clause-rows c = rows_of_app (app_of c.in_ok-command.command) filter_app c.args.words.now c.in_ok-try_get_matches_from.field-0 c.in_ok-command.ensures filter_app-is_simple c.in_ok-try_get_matches_from.ensures.matches

pub returns-clause-filled : goal.returns-clause-filled
returns-clause-filled c = filter_app-filled c.in_ok-command.command c.in_ok-try_get_matches_from.field-0 c.in_ok-command.ensures c.in_ok-try_get_matches_from.ensures.parsed

pub returns-clause-faults : goal.returns-clause-faults
returns-clause-faults c = no_kinds_of (app_of c.in_ok-command.command) filter_app c.args.words.now c.in_ok-command.ensures filter_app-simple c.in_ok-try_get_matches_from.ensures.kinds
