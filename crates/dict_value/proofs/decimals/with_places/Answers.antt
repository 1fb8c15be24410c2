-- One more place.
use Rattle.std.proofs.Common.{arith, ap}
use Rattle.std.specs.Char.{digit_value}
use Rattle.dict_value.proofs.Digits.{digit_or_zero}
use Rattle.dict_value.proofs.Places.{places_more}
use Rattle.dict_value.proofs.decimals.with_places.Goals as goal

pub with_digit-scaled-requires : goal.with_digit-scaled-requires
with_digit-scaled-requires c =
    rw c.digit_at.ensures (digit_or_zero c.args.fraction.now c.loop-place.place c.requires.fraction)

pub loop-place-preserved : goal.loop-place-preserved
loop-place-preserved c =
    let more = places_more c.args.whole.now c.args.scale c.args.fraction.now c.loop-place.place (omega arith) in
    omega (arith, more, ap digit_value c.digit_at.ensures)
