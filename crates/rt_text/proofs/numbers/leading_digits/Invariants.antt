use Rattle.std.proofs.Common.{◌≡◌, ◌<◌, ◌^◌, take, true}
use Rattle.std.specs.Char.{is_ascii_digit}
use Rattle.std.specs.List.{list_all}
use Rattle.std.specs.Str.Parse.{digits_value}
use Rattle.rt_text.proofs.numbers.leading_digits.Given as goal

abbrev pub invariant-loop-at : goal.invariant-loop-at
invariant-loop-at l = record {
  all_digits : list_all is_ascii_digit (take l.at l.text) ≡ true;
  value : l.number ≡ digits_value 10 (take l.at l.text);
  small : l.number < 10 ^ l.at;
}
