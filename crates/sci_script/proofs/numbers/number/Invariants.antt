use Rattle.std.proofs.Common.{◌≡◌, ◌<◌, ◌^◌, take, true}
use Rattle.std.specs.Char.{is_ascii_digit}
use Rattle.std.specs.List.{AllWithin}
use Rattle.std.specs.Str.Parse.{digits_value}
use Rattle.sci_script.proofs.numbers.number.Given as goal

abbrev pub invariant-loop-byte : goal.invariant-loop-byte
invariant-loop-byte l = record {
  digits : AllWithin (λ b. is_ascii_digit b ≡ true) l.word 0 l.byte-index;
  small : l.value < 2 ^ 64;
  value : l.value ≡ digits_value 10 (take l.byte-index l.word);
}
