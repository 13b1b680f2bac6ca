use Rattle.std.proofs.Common.{◌∙◌, ap, Bool, List, Option, codes, false, sym, option_map, ℕ}
use Rattle.std.specs.Option.{option_map_or}
use Rattle.std.specs.Str.{bytes_eq}
use Rattle.clap.specs.Words.{found_of}
use Rattle.clap.proofs.WalkLemmas.{first_value-rows}
use Rattle.rt_command.proofs.invocation.header.Goals as goal

-- the text is the one of a flag that is given
abbrev is_true : Option (List ℕ) → Bool
is_true text = option_map_or (λ text. bytes_eq text (codes "true")) text false

pub returns-in-Some : goal.returns-in-Some
returns-in-Some c = c.eq.ensures ∙ ap is_true (ap (option_map (λ s. s.now)) (sym c.in-Some.is) ∙ c.get_str.ensures ∙ first_value-rows (found_of c.args.matches.now) (codes "header"))

pub returns-in-None : goal.returns-in-None
returns-in-None c = ap is_true (ap (option_map (λ s. s.now)) (sym c.in-None.is) ∙ c.get_str.ensures ∙ first_value-rows (found_of c.args.matches.now) (codes "header"))
