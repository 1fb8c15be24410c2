-- The number of the digits so far.
use Rattle.std.proofs.Common.{◌≡◌, ◌^◌, ◌-◌, ◌++◌, min, take}
use Rattle.std.specs.Str.Parse.{digits_value}
use Rattle.dict_value.specs.Decimals.{places}
use Rattle.dict_value.proofs.decimals.with_places.Given as goal

abbrev pub invariant-loop-place : goal.invariant-loop-place
invariant-loop-place l =
    l.scaled ≡ min (digits_value 10 (l.whole ++ take l.place (places l.scale l.fraction))) (2 ^ 128 - 1)
