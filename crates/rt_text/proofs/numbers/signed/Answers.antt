use Rattle.std.proofs.Common.{◌≡◌, ◌∙◌, ap, rules, sym}
use Rattle.std.specs.Prelude.{option_map}
use Rattle.std.specs.Str.Parse.{without_leading_sign}
use Rattle.rt_text.specs.Numbers.{digits_number, in_range}
use Rattle.rt_text.proofs.NumberLemmas.{least_i128, most_i128, number_text-signed, signed_as}
use Rattle.rt_text.proofs.numbers.signed.Goals as goal

pub returns : goal.returns
returns c =
    let text = c.args.text.now in
    let read : c.ok_or.result ≡ in_range least_i128 most_i128 (option_map (signed_as text) (digits_number (without_leading_sign text))) = search rules in
    read ∙ ap (in_range least_i128 most_i128) (sym (number_text-signed text))
