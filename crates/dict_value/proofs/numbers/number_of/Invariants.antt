-- The number of the digits so far, and that the rest are digits.
use Rattle.std.proofs.Common.{◌≡◌, ◌^◌, ◌-◌, min, take, drop, true}
use Rattle.std.specs.Str.{all_ascii_digits}
use Rattle.std.specs.Str.Parse.{digits_value}
use Rattle.dict_value.proofs.numbers.number_of.Given as goal

abbrev pub invariant-loop-b : goal.invariant-loop-b
invariant-loop-b l = record {
  so_far : l.n ≡ min (digits_value 10 (take l.b-index l.digits)) (2 ^ 128 - 1);
  rest : all_ascii_digits (drop l.b-index l.digits) ≡ true;
}
