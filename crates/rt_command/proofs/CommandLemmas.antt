-- The command of the program, and what a parse by it has.
use Rattle.std.proofs.Common.{◌≡◌, ◌&&◌, true, false, refl, arith, codes}
use Rattle.std.specs.List.{list_all}
use Rattle.clap.specs.Built.{IsParsedFrom}
use Rattle.clap.specs.Words.{app_of, found_of, is_simple, is_simple_and_free, new_app, rows_of, with_rule}
use Rattle.clap.specs.declared.builder.command.Command.{Command}
use Rattle.clap.specs.declared.parser.matches.ArgMatches.{ArgMatches}
use Rattle.clap.proofs.OnLiterals.{clap_on_literals}
use Rattle.rt_command.proofs.ArgumentLemmas.{IsRuleAt, number_option, plain_parse, required_word}
use Rattle.rt_command.specs.Invocations.{AreFilled, filter_app, header_rule, number_rule, word_rule}

-- the command is built up one argument after the other
pub filter_app-built : filter_app ≡ with_rule (with_rule (with_rule (with_rule (with_rule (new_app (codes "rtfilter")) header_rule)
    (number_rule (codes "fanout") 2 64 (codes "16"))) (number_rule (codes "max-entries") 1 16777216 (codes "16777216")))
    (word_rule (codes "table") true)) (word_rule (codes "queries") false)
unfolding filter_app
filter_app-built = refl

-- ---- the places of its arguments

fanout_at : IsRuleAt filter_app.top.rules 1 (number_rule (codes "fanout") 2 64 (codes "16"))
unfolding filter_app
fanout_at = record { inside = omega arith; at = refl; alone = refl; named = refl; no_help = refl; no_version = refl }

max_entries_at : IsRuleAt filter_app.top.rules 2 (number_rule (codes "max-entries") 1 16777216 (codes "16777216"))
unfolding filter_app
max_entries_at = record { inside = omega arith; at = refl; alone = refl; named = refl; no_help = refl; no_version = refl }

table_at : IsRuleAt filter_app.top.rules 3 (word_rule (codes "table") true)
unfolding filter_app
table_at = record { inside = omega arith; at = refl; alone = refl; named = refl; no_help = refl; no_version = refl }

-- clap's definitions of the matches and of the kinds of fault speak of this command
pub filter_app-simple : is_simple_and_free filter_app ≡ true
unfolding clap_on_literals filter_app
filter_app-simple = refl

pub filter_app-is_simple : is_simple filter_app ≡ true
unfolding clap_on_literals filter_app
filter_app-is_simple = refl

-- nothing in it excludes anything
filter_app-plain : filter_app.top.is_plain ≡ true
unfolding filter_app
filter_app-plain = refl

filter_app-negates : filter_app.top.subcommand_negates_reqs ≡ false
unfolding filter_app
filter_app-negates = refl

filter_app-each : list_all (λ r. r.is_simple && r.is_free) filter_app.top.rules ≡ true
unfolding filter_app
filter_app-each = refl

-- what is required or has a default is there after each parse by the program's command that succeeds
pub filter_app-filled : (c : Command) (m : ArgMatches) → app_of c ≡ filter_app → IsParsedFrom c m → AreFilled (rows_of (found_of m))
filter_app-filled c m same parsed =
    let p = plain_parse c filter_app m same filter_app-plain filter_app-negates filter_app-each parsed in
    record {
      fanout = number_option c filter_app.top.rules m 1 (codes "fanout") (codes "16") 2 64 p fanout_at;
      max_entries = number_option c filter_app.top.rules m 2 (codes "max-entries") (codes "16777216") 1 16777216 p max_entries_at;
      table = required_word c filter_app.top.rules m 3 (codes "table") p table_at;
    }
