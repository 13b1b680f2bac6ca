-- What a parse that succeeds has of an argument, by the argument's rule, of a command in which nothing excludes anything.
use Rattle.std.proofs.Common.{◌≡◌, ◌∙◌, ◌<◌, ◌≤◌, ap, zero, suc, ℕ, pos, Bool, true, false, ◌&&◌, ◌||◌, not, List, [], ◌∷◌, length, map, is_some, Option, Some, None, refl, sym, subst, inl, inr, arith, codes}
use Rattle.std.specs.Borrow.{Bor}
use Rattle.std.specs.List.{list_all, list_any, slice_index_or}
use Rattle.std.specs.Str.{bytes_eq}
use Rattle.std.proofs.lemmas.Bool.{and_parts, not-true, or_parts}
use Rattle.std.proofs.lemmas.Bool.Decides.{nat_tests}
use Rattle.std.proofs.lemmas.List.{get_or-map, length-map}
use Rattle.std.proofs.lemmas.List.Folds.{list_any_at}
use Rattle.std.proofs.lemmas.Slice.Eq.{bytes_eq-Decides}
use Rattle.clap.specs.Built.{IsAuto, IsParsedFrom, IsPlain, IsPlainArg}
use Rattle.clap.specs.Facts.{args_of, least_values}
use Rattle.clap.specs.Texts.{items_of}
use Rattle.clap.specs.Walk.{is_empty, is_free_arg, is_simple_arg, texts}
use Rattle.clap.specs.Words.{App, Rule, app_of, first_of, first_value, found_of, one_text, rows_of, rule_of, without_minus}
use Rattle.clap.specs.declared.builder.arg.Arg.{Arg}
use Rattle.clap.specs.declared.builder.command.Command.{Command}
use Rattle.clap.specs.declared.builder.command.Command.TheViews.{out-Command}
use Rattle.clap.specs.declared.builder.value_parser.ValueParser.TheVariants as vp
use Rattle.clap.specs.declared.parser.matches.ArgMatches.{ArgMatches}
use Rattle.clap.proofs.CallerLemmas.{required_has_value}
use Rattle.clap.proofs.WalkLemmas.{first_value-rows, one_text-rows}
use Rattle.rt_command.proofs.OptionLemmas.{default_reads}
use Rattle.rt_command.specs.Invocations.{HasNumber, number_rule, word_rule}

-- ---- tests

empty : {X : Type 0} (xs : List X) → is_empty xs ≡ true → xs ≡ []
empty [] e = refl
empty (x ∷ xs) e = let bad : length (x ∷ xs) ≡ 0 = grind (arith, nat_tests) in absurd (omega arith)

none : {X : Type 0} (o : Option X) → not (is_some o) ≡ true → o ≡ None
none None e = refl
none (Some x) e = cc

differ : (a b : List ℕ) → bytes_eq a b ≡ false → a ≡ b → ⊥
differ a b apart e = let bad : false ≡ true = sym apart ∙ (bytes_eq-Decides a b).1 e in cc

-- ---- the arguments of a command by their rules

-- what a simple argument leaves out
record LeavesOut (a : Arg) : Type 0 where
  pub overrides : a.overrides.items ≡ []
  pub default_ifs : a.default_vals_ifs.items ≡ []
  pub groups : a.groups.items ≡ []
  pub delimiter : a.val_delim ≡ None

leaves_out : (a : Arg) → is_simple_arg a ≡ true → LeavesOut a
leaves_out a h =
    let overrides = and_parts _ _ h in
    let ifs = and_parts _ _ overrides.1 in
    let groups = and_parts _ _ ifs.1 in
    let delimiter = and_parts _ _ groups.1 in
    record { overrides = empty _ overrides.0; default_ifs = empty _ ifs.0; groups = empty _ groups.0; delimiter = none _ delimiter.0 }

-- an argument that is simple and free excludes nothing
plain_arg : (a : Arg) → is_simple_arg a ≡ true → is_free_arg a ≡ true → IsPlainArg a
plain_arg a simple free =
    let out = leaves_out a simple in
    let exclusive = and_parts _ _ free in
    let conflicts = and_parts _ _ exclusive.1 in
    (not-true _ exclusive.0, empty _ conflicts.0, out.overrides, out.groups)

plain_args : (xs : List Arg) → list_all (λ r. r.is_simple && r.is_free) (map rule_of xs) ≡ true → (k : ℕ) (d : Arg) → k < length xs → IsPlainArg (slice_index_or xs k d)
plain_args [] h k d lt = absurd (omega arith)
plain_args (x ∷ xs) h zero d lt = let here = and_parts _ _ (and_parts _ _ h).0 in plain_arg x here.0 here.1
plain_args (x ∷ xs) h (suc k) d lt = plain_args xs (and_parts _ _ h).1 k d (omega arith)

-- a name that no rule at another place has
abbrev has_name : List ℕ → Rule → Bool
has_name name r = bytes_eq r.id name

abbrev is_elsewhere : List Rule → ℕ → List ℕ → Bool
is_elsewhere [] k name = false
is_elsewhere (r ∷ rs) zero name = list_any (has_name name) rs
is_elsewhere (r ∷ rs) (suc k) name = has_name name r || is_elsewhere rs k name

only_place : (rs : List Rule) (k : ℕ) (name : List ℕ) → is_elsewhere rs k name ≡ false → (j : ℕ) (d : Rule) → j < length rs → has_name name (slice_index_or rs j d) ≡ true → j ≡ k
only_place [] k name apart j d lt hit = absurd (omega arith)
only_place (r ∷ rs) zero name apart zero d lt hit = refl
only_place (r ∷ rs) zero name apart (suc j) d lt hit =
    let bad : false ≡ true = sym apart ∙ list_any_at (has_name name) rs j d (omega arith) hit in
    absurd cc
only_place (r ∷ rs) (suc k) name apart zero d lt hit =
    let bad : false ≡ true = sym (or_parts _ _ apart).0 ∙ hit in
    absurd cc
only_place (r ∷ rs) (suc k) name apart (suc j) d lt hit = ap suc (only_place rs k name (or_parts _ _ apart).1 j d (omega arith) hit)

-- a rule at a place among others, under a name of its own that isn't one of those that clap adds
pub record IsRuleAt (rules : List Rule) (k : ℕ) (r : Rule) : Type 0 where
  pub inside : k < length rules
  pub at : slice_index_or rules k r ≡ r
  pub alone : is_elsewhere rules k r.id ≡ false
  pub named : bytes_eq r.id [] ≡ false
  pub no_help : bytes_eq r.id (codes "help") ≡ false
  pub no_version : bytes_eq r.id (codes "version") ≡ false

-- the same of its argument
record IsArgAt (c : Command) (k : ℕ) (d : Arg) (r : Rule) : Type 0 where
  pub inside : k < length (args_of c)
  pub rule : rule_of (slice_index_or (args_of c) k d) ≡ r
  pub alone : (j : ℕ) (e : Arg) → j < length (args_of c) → bytes_eq (slice_index_or (args_of c) j e).id.now (slice_index_or (args_of c) k d).id.now ≡ true → j ≡ k
  pub named : (slice_index_or (args_of c) k d).id.now ≡ [] → ⊥
  pub own : IsAuto (slice_index_or (args_of c) k d) → ⊥

arg_at : (c : Command) (rules : List Rule) (k : ℕ) (d : Arg) (r : Rule) → map rule_of (args_of c) ≡ rules → IsRuleAt rules k r → IsArgAt c k d r
arg_at c rules k d r are h =
    let len : length rules ≡ length (args_of c) = ap length (sym are) ∙ length-map (args_of c) rule_of in
    let inside : k < length (args_of c) = subst (λ n. k < n) len h.inside in
    let rule : rule_of (slice_index_or (args_of c) k d) ≡ r = sym (get_or-map rule_of (args_of c) k d r inside) ∙ ap (λ l. slice_index_or l k r) are ∙ h.at in
    let id : (slice_index_or (args_of c) k d).id.now ≡ r.id = ap (λ (x : Rule). x.id) rule in
    let other : (j : ℕ) (e : Arg) → j < length (args_of c) → (slice_index_or (args_of c) j e).id.now ≡ (slice_index_or rules j r).id =
    λ j e lt. ap (λ (x : Rule). x.id) (sym (get_or-map rule_of (args_of c) j e r lt) ∙ ap (λ l. slice_index_or l j r) are) in
    record {
      inside = inside;
      rule = rule;
      alone = λ j e lt same. only_place rules k r.id h.alone j r (subst (λ n. j < n) (sym len) lt) (rw (← other j e lt, ← id) same);
      named = λ e. differ r.id [] h.named (sym id ∙ e);
      own = λ auto. elim auto [ inl e ↦ differ r.id (codes "help") h.no_help (sym id ∙ e) | inr e ↦ differ r.id (codes "version") h.no_version (sym id ∙ e) ];
    }

least_one : (a : Arg) → a.num_vals ≡ None → 1 ≤ least_values a
least_one a e = rw e (omega arith)

some_text : (vs : List (Bor (List ℕ))) (t : List ℕ) → texts vs ≡ t ∷ [] → 0 < length vs
some_text [] t e = absurd cc
some_text (v ∷ vs) t e = omega arith

-- ---- what the matches have

-- a parse that succeeds, of a command with these rules in which nothing excludes anything
pub record IsPlainParse (c : Command) (rules : List Rule) (m : ArgMatches) : Type 0 where
  pub parsed : IsParsedFrom c m
  pub are : map rule_of (args_of c) ≡ rules
  pub plain : IsPlain c
  pub globals : (out-Command c).has_globals ≡ false
  pub negates : (out-Command c).subcommand_negates_reqs ≡ false

-- by what a parse reads of the command
pub plain_parse : (c : Command) (app : App) (m : ArgMatches) → app_of c ≡ app → app.top.is_plain ≡ true → app.top.subcommand_negates_reqs ≡ false
    → list_all (λ r. r.is_simple && r.is_free) app.top.rules ≡ true → IsParsedFrom c m → IsPlainParse c app.top.rules m
plain_parse c app m same plain negates simple parsed =
    let are : map rule_of (args_of c) ≡ app.top.rules = ap (λ (a : App). a.top.rules) same in
    let fields = and_parts _ _ (ap (λ (a : App). a.top.is_plain) same ∙ plain) in
    let external = and_parts _ _ fields.1 in
    let globals = and_parts _ _ external.1 in
    record {
      parsed = parsed;
      are = are;
      plain = (plain_args (args_of c) (ap (list_all (λ r. r.is_simple && r.is_free)) are ∙ simple), empty _ fields.0);
      globals = not-true _ globals.0;
      negates = ap (λ (a : App). a.top.subcommand_negates_reqs) same ∙ negates;
    }

-- a command with a rule has an argument
some_arg : (xs : List Arg) (rules : List Rule) (k : ℕ) → map rule_of xs ≡ rules → k < length rules → Arg
some_arg [] rules k e lt = let bad : k < 0 = rw (← e) at lt in absurd (omega arith)
some_arg (x ∷ xs) rules k e lt = x

-- a word that is required
pub required_word : (c : Command) (rules : List Rule) (m : ArgMatches) (k : ℕ) (name : List ℕ) → IsPlainParse c rules m → IsRuleAt rules k (word_rule name true)
    → is_some (first_of name (rows_of (found_of m))) ≡ true
required_word c rules m k name p at =
    let d = some_arg (args_of c) rules k p.are at.inside in
    let a = slice_index_or (args_of c) k d in
    let here = arg_at c rules k d (word_rule name true) p.are at in
    let out = leaves_out a (ap (λ (x : Rule). x.is_simple) here.rule) in
    let has = required_has_value c m p.parsed p.plain p.globals p.negates k d here.inside (ap (λ (x : Rule). x.required) here.rule) (ap (λ (x : Rule). x.action) here.rule)
    out.delimiter (least_one a (ap (λ (x : Rule). x.range) here.rule)) here.alone here.named here.own in
    let id : a.id.now ≡ name = ap (λ (x : Rule). x.id) here.rule in
    rw (← first_value-rows (found_of m) name) (subst (λ (w : List ℕ). is_some (first_value (found_of m) w) ≡ true) id has)

-- an option that takes a number of a range, and has one where it isn't given
pub number_option : (c : Command) (rules : List Rule) (m : ArgMatches) (k : ℕ) (name default : List ℕ) (low high : ℕ) → IsPlainParse c rules m
    → IsRuleAt rules k (number_rule name low high default) → HasNumber name low high (rows_of (found_of m))
number_option c rules m k name default low high p at =
    let d = some_arg (args_of c) rules k p.are at.inside in
    let a = slice_index_or (args_of c) k d in
    let here = arg_at c rules k d (number_rule name low high default) p.are at in
    let out = leaves_out a (ap (λ (x : Rule). x.is_simple) here.rule) in
    let reads = default_reads c m p.parsed p.plain p.globals k d here.inside (out.default_ifs, some_text (items_of a.default_vals) default (ap (λ (x : Rule). x.defaults) here.rule))
    (ap (λ (x : Rule). x.action) here.rule) out.delimiter (least_one a (ap (λ (x : Rule). x.range) here.rule)) here.alone here.named here.own
    (vp.Signed (pos low) (pos high)) (ap (λ (x : Rule). x.parser) here.rule) in
    let id : a.id.now ≡ name = ap (λ (x : Rule). x.id) here.rule in (
      reads.0,
      sym (first_value-rows (found_of m) name) ∙ subst (λ (w : List ℕ). first_value (found_of m) w ≡ Some reads.0) id reads.1,
      sym (one_text-rows (found_of m) name) ∙ subst (λ (w : List ℕ). one_text (found_of m) w ≡ Some (without_minus reads.0)) id reads.2,
      reads.3,
    )
