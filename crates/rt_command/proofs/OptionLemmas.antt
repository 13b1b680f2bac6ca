-- What a parse that succeeds has of an option with a default: a text that passed the option's parser, as clap's own lemmas have it of an argument that is required.
use Rattle.std.proofs.Common.{◌≡◌, ◌∙◌, ◌<◌, ◌≤◌, ap, zero, suc, ℕ, Bool, true, false, List, [], ◌∷◌, length, is_some, Option, Some, None, refl, sym, subst, inl, inr, arith}
use Rattle.std.specs.Borrow.{Bor}
use Rattle.std.specs.List.{All, slice_index_or}
use Rattle.std.specs.Prelude.{find, option_map}
use Rattle.std.specs.Str.{bytes_eq}
use Rattle.std.proofs.lemmas.List.Elements.{All-get_or}
use Rattle.std.proofs.lemmas.Slice.Eq.{bytes_eq-Decides}
use Rattle.clap.specs.Built.{IsAuto, IsParsedFrom, IsPlain, SameRules}
use Rattle.clap.specs.Facts.{AllowsNone, Entry, EntryPasses, EntryValuesPass, HasReading, IsCountArg, IsFilledEntry, MayBeEmpty, PassesArg, ReadsByParser, WantsDefault, args_of, groups_of, least_values, parser_of, parser_of_value}
use Rattle.clap.specs.Matches.{first_value, found_of, matched_of, one_text}
use Rattle.clap.specs.Values.{Accepts, read_as, reading_of}
use Rattle.clap.specs.declared.builder.action.ArgAction.TheVariants.{Count, Set}
use Rattle.clap.specs.declared.builder.arg.Arg.{Arg}
use Rattle.clap.specs.declared.builder.command.Command.{Command}
use Rattle.clap.specs.declared.builder.command.Command.TheViews.{out-Command}
use Rattle.clap.specs.declared.builder.value_parser.ValueParser.{ValueParser}
use Rattle.clap.specs.declared.parser.matches.ArgMatches.{ArgMatches}
use Rattle.clap.specs.declared.parser.matches.Found.{Found}
use Rattle.clap.specs.declared.parser.matches.MatchedArg.{MatchedArg}
use Rattle.clap.proofs.CallerLemmas.{default_present, entry_by_id, same_rules_by_id}

-- an id that has an entry has what was matched
has_match : (xs : List Entry) (id : List ℕ) (i : ℕ) → i < length xs → ((d : Entry) → bytes_eq (slice_index_or xs i d).0.now id ≡ true)
    → is_some (option_map (λ e. e.1) (find (λ e. bytes_eq e.0.now id) xs)) ≡ true
has_match [] id i lt hit = absurd (omega arith)
has_match (x ∷ xs) id zero lt hit = rw (hit x) refl
has_match (x ∷ xs) id (suc i) lt hit = by (bytes_eq x.0.now id) refl (has_match xs id i (omega arith) hit)
  where
    by : (b : Bool) → bytes_eq x.0.now id ≡ b → is_some (option_map (λ e. e.1) (find (λ e. bytes_eq e.0.now id) xs)) ≡ true
        → is_some (option_map (λ e. e.1) (find (λ e. bytes_eq e.0.now id) (x ∷ xs))) ≡ true
    by true e rest = rw e refl
    by false e rest = rw e rest

-- what is read of an id, with the text that is there
abbrev Reads : Found → List ℕ → Bool → ValueParser → Type 0
Reads f id ignore_case parser =
    (text : List ℕ) × (first_value f id ≡ Some text) × (one_text f id ≡ Some (read_as (reading_of parser) text)) × Accepts ignore_case parser text

-- of its first value, where each value passed
reads_first : (f : Found) (id : List ℕ) (ignore_case : Bool) (parser : ValueParser) (x : MatchedArg) (vs : List (Bor (List ℕ))) → matched_of f id ≡ Some x → x.vals.items ≡ vs
    → x.reading ≡ reading_of parser → All (λ v. Accepts ignore_case parser v.now) vs → 0 < length vs → Reads f id ignore_case parser
reads_first f id ignore_case parser x [] found items reading all lt = absurd (omega arith)
reads_first f id ignore_case parser x (v ∷ vs) found items reading all lt =
    (v.now, rw (found, items) refl, rw (found, items, reading) refl, All-get_or (λ v. Accepts ignore_case parser v.now) (v ∷ vs) 0 v (omega arith) all)

-- the argument of the built command with this id has the rules of the caller's
abbrev HasRulesOf : Command → List ℕ → Arg → Type 0
HasRulesOf c id a = (j : ℕ) (y : Arg) → j < length (args_of c) → slice_index_or (args_of c) j y ≡ y → bytes_eq y.id.now id ≡ true → SameRules a y

accepted : (c : Command) (id : List ℕ) (a : Arg) (parser : ValueParser) (text : List ℕ) → HasRulesOf c id a → a.value_parser ≡ Some parser → PassesArg c id text
    → Accepts a.ignore_case parser text
accepted c id a parser text rules is pass =
    let same = rules pass.0 pass.1 pass.2 pass.3 pass.4.0 in
    let is_parser : parser_of pass.1 ≡ parser = ap parser_of_value (same.parser parser is) in
    subst (λ (b : Bool). Accepts b parser text) same.ignore_case (subst (λ (w : ValueParser). Accepts pass.1.ignore_case w text) is_parser pass.4.1)

not_none : (n : ℕ) → n ≡ 0 → 1 ≤ n → ⊥
not_none n e lt = omega arith

-- what an entry of the id tells: it is no group's
is_argument : (c : Command) (id : List ℕ) (e : Entry) → groups_of c ≡ [] → (id ≡ [] → ⊥) → e.0.now ≡ id → EntryPasses c e → e.1.is_group ≡ true → ⊥
is_argument c id e no_groups named key pass g = elim (pass.3 g) [
  | inl empty ↦ named (sym key ∙ empty)
  | inr some ↦ let bad : 0 < 0 = rw no_groups at some in absurd (omega arith)
]

-- its values passed
all_accepted : (c : Command) (id : List ℕ) (a : Arg) (parser : ValueParser) (e : Entry) → (e.1.is_group ≡ true → ⊥) → HasRulesOf c id a → a.value_parser ≡ Some parser
    → e.0.now ≡ id → EntryValuesPass c e → All (λ v. Accepts a.ignore_case parser v.now) e.1.vals.items
all_accepted c id a parser e no_group rules is key (inl g) = absurd (no_group g)
all_accepted c id a parser e no_group rules is key (inr values) =
    let here : All (λ v. PassesArg c id v.now) e.1.vals.items = subst (λ (w : List ℕ). All (λ v. PassesArg c w v.now) e.1.vals.items) key values in
    λ i d lt. accepted c id a parser (slice_index_or e.1.vals.items i d).now rules is (here i d lt)

-- they are read as the parser says
is_reading : (c : Command) (id : List ℕ) (a : Arg) (parser : ValueParser) (e : Entry) → (e.1.is_group ≡ true → ⊥) → HasRulesOf c id a → a.value_parser ≡ Some parser
    → e.0.now ≡ id → ReadsByParser c e → e.1.reading ≡ reading_of parser
is_reading c id a parser e no_group rules is key (inl g) = absurd (no_group g)
is_reading c id a parser e no_group rules is key (inr any) =
    let here : HasReading c id e.1.reading = subst (λ (w : List ℕ). HasReading c w e.1.reading) key any in
    let same = rules here.0 here.1 here.2 here.3 here.4.0 in
    sym here.4.1 ∙ ap reading_of (ap parser_of_value (same.parser parser is))

-- and there is one
counts_not : (c : Command) (id : List ℕ) (a : Arg) → HasRulesOf c id a → a.action ≡ Some Set → IsCountArg c id → ⊥
counts_not c id a rules set any =
    let same = rules any.0 any.1 any.2 any.3 any.4.0 in
    let is_set : any.1.action ≡ Some Set = same.action Set set in
    let bad : Set ≡ Count = rw is_set at any.4.1 in
    cc

has_value : (c : Command) (id : List ℕ) (a : Arg) → HasRulesOf c id a → a.action ≡ Some Set → a.val_delim ≡ None → 1 ≤ least_values a → AllowsNone c id → ⊥
has_value c id a rules set delim least any =
    let same = rules any.0 any.1 any.2 any.3 any.4.0 in
    by any.1 same any.4.1
  where
    by : (y : Arg) → SameRules a y → MayBeEmpty y → ⊥
    by y same (inl none) = not_none (least_values y) none (same.least set least)
    by y same (inr has) = let bad : false ≡ true = rw (same.val_delim, delim) at has in cc

is_filled : (c : Command) (id : List ℕ) (a : Arg) (e : Entry) → (e.1.is_group ≡ true → ⊥) → HasRulesOf c id a → a.action ≡ Some Set → a.val_delim ≡ None → 1 ≤ least_values a
    → e.0.now ≡ id → IsFilledEntry c e → 0 < length e.1.vals.items
is_filled c id a e no_group rules set delim least key (inl g) = absurd (no_group g.0)
is_filled c id a e no_group rules set delim least key (inr (inl v)) = v
is_filled c id a e no_group rules set delim least key (inr (inr (inl h))) = absurd (counts_not c id a rules set (subst (IsCountArg c) key h.1))
is_filled c id a e no_group rules set delim least key (inr (inr (inr h))) = absurd (has_value c id a rules set delim least (subst (AllowsNone c) key h))

reads_entry : (c : Command) (f : Found) (id : List ℕ) (a : Arg) (parser : ValueParser) (e : Entry) → groups_of c ≡ [] → (id ≡ [] → ⊥) → HasRulesOf c id a
    → a.action ≡ Some Set → a.val_delim ≡ None → 1 ≤ least_values a → a.value_parser ≡ Some parser
    → matched_of f id ≡ Some e.1 → e.0.now ≡ id → EntryPasses c e
    → Reads f id a.ignore_case parser
reads_entry c f id a parser e no_groups named rules set delim least is found key pass =
    let no_group = is_argument c id e no_groups named key pass in
    reads_first f id a.ignore_case parser e.1 e.1.vals.items found refl (is_reading c id a parser e no_group rules is key pass.4)
    (all_accepted c id a parser e no_group rules is key pass.0) (is_filled c id a e no_group rules set delim least key pass.1)

-- where nothing excludes anything and no argument is global, an option with a default has a text, given or not, that passed its parser, and is read as that parser says
pub default_reads : (old : Command) (m : ArgMatches) → IsParsedFrom old m → IsPlain old → (out-Command old).has_globals ≡ false
    → (k : ℕ) (d : Arg) → k < length (args_of old) → WantsDefault (slice_index_or (args_of old) k d)
    → (slice_index_or (args_of old) k d).action ≡ Some Set → (slice_index_or (args_of old) k d).val_delim ≡ None
    → 1 ≤ least_values (slice_index_or (args_of old) k d)
    → ((j : ℕ) (e : Arg) → j < length (args_of old) → bytes_eq (slice_index_or (args_of old) j e).id.now (slice_index_or (args_of old) k d).id.now ≡ true → j ≡ k)
    → ((slice_index_or (args_of old) k d).id.now ≡ [] → ⊥)
    → (IsAuto (slice_index_or (args_of old) k d) → ⊥)
    → (parser : ValueParser) → (slice_index_or (args_of old) k d).value_parser ≡ Some parser
    → Reads (found_of m) (slice_index_or (args_of old) k d).id.now (slice_index_or (args_of old) k d).ignore_case parser
default_reads old m p plain globals k d lt wants set delim least unique named own parser is =
    by (matched_of (found_of m) (slice_index_or (args_of old) k d).id.now) refl
    (let entry = default_present old m p globals k d lt wants in has_match (found_of m).entries.items (slice_index_or (args_of old) k d).id.now entry.0 entry.1 entry.2)
  where
    by : (o : Option MatchedArg) → matched_of (found_of m) (slice_index_or (args_of old) k d).id.now ≡ o
        → is_some (matched_of (found_of m) (slice_index_or (args_of old) k d).id.now) ≡ true
        → Reads (found_of m) (slice_index_or (args_of old) k d).id.now (slice_index_or (args_of old) k d).ignore_case parser
    by None e some = let bad : false ≡ true = rw e at some in cc
    by (Some x) e some =
        let parsed = p.parsed (p.from.globals ∙ globals) in
        let got = entry_by_id (EntryPasses p.built) (found_of m).entries.items (slice_index_or (args_of old) k d).id.now x parsed.values e in
        reads_entry p.built (found_of m) (slice_index_or (args_of old) k d).id.now (slice_index_or (args_of old) k d) parser got.0
        (p.from.plain plain).1 named (same_rules_by_id old m p k d lt unique own) set delim least is (e ∙ ap Some (sym got.1)) ((bytes_eq-Decides _ _).0 got.2) got.3
