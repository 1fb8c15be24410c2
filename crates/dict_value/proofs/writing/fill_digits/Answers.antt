-- One digit more at each turn.
use Rattle.std.proofs.Common.{◌≡◌, ◌-◌, ◌/◌, ◌^◌, ◌%◌, ◌+◌, length, set, drop, length-set, ap, sym, ◌∙◌, arith}
use Rattle.std.proofs.lemmas.List.{drop_all}
use Rattle.dict_value.specs.Decimals.{last_digits}
use Rattle.dict_value.proofs.LastDigits.{digits_step, shifted, no_last_digits}
use Rattle.dict_value.proofs.writing.fill_digits.Goals as goal

pub loop-place-init : goal.loop-place-init
loop-place-init c =
    let room = c.args.room.now in
    let none : length room - length room ≡ 0 = omega arith in
    record {
      digits = drop_all (length room) room (omega arith) ∙ sym (no_last_digits c.args.n) ∙ ap (λ k. last_digits k c.args.n) (sym none);
      rest = rw none (omega arith);
    }

pub loop-place-preserved : goal.loop-place-preserved
loop-place-preserved c =
    let room = c.loop-place.room in
    let place = c.loop-place.place in
    let n = c.args.n in
    let digit = 48 + c.loop-place.rest % 10 in
    let same = length-set room (place - 1) digit in
    record {
      digits = ap (λ r. drop (place - 1) (set room (place - 1) (48 + r % 10))) c.loop-place.invariant.rest
          ∙ digits_step room place n (omega arith) (omega arith) c.loop-place.invariant.digits
          ∙ ap (λ l. last_digits (l - (place - 1)) n) (sym same);
      rest = ap (λ r. r / 10) c.loop-place.invariant.rest ∙ shifted n (length room - place)
          ∙ ap (λ k. n / 10 ^ k) (omega (arith, same));
    }
