use Rattle.std.proofs.Common.{◌≡◌, take}
use Rattle.std.specs.Char.{is_ascii_digit}
use Rattle.std.specs.List.{list_all}
use Rattle.rt_text.proofs.numbers.all_digits.Given as goal

abbrev pub invariant-loop-byte : goal.invariant-loop-byte
invariant-loop-byte l = l.all ≡ list_all is_ascii_digit (take l.byte-index l.text)
