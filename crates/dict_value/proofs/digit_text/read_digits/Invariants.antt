use Rattle.std.proofs.Common.{◌≡◌, ◌<◌, ◌^◌, take}
use Rattle.std.specs.Str.Parse.{AllDigits, digits_value}
use Rattle.dict_value.proofs.digit_text.read_digits.Given as goal

abbrev pub invariant-loop-byte : goal.invariant-loop-byte
invariant-loop-byte l = record {
  each : AllDigits 10 (take l.byte-index l.text);
  fits : l.number < 2 ^ 64;
  number : l.number ≡ digits_value 10 (take l.byte-index l.text);
}
