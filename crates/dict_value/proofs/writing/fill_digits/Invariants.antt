-- The digits from the place on, and what stands before them.
use Rattle.std.proofs.Common.{◌≡◌, ◌/◌, ◌^◌, ◌-◌, drop, length}
use Rattle.dict_value.specs.Decimals.{last_digits}
use Rattle.dict_value.proofs.writing.fill_digits.Given as goal

abbrev pub invariant-loop-place : goal.invariant-loop-place
invariant-loop-place l = record {
  digits : drop l.place l.room ≡ last_digits (length l.room - l.place) l.n;
  rest : l.rest ≡ l.n / 10 ^ (length l.room - l.place);
}
