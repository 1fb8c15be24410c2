use Rattle.std.proofs.Common.{◌≡◌, ◌-◌, take, get_or, arith}
use Rattle.std.proofs.lemmas.Grind.{common_steps}
use Rattle.std.proofs.lemmas.Str.Parse.{digit_from_value}
use Rattle.std.specs.Char.{digit_value}
use Rattle.std.specs.Str.Parse.{AllDigits, digits_value}
use Rattle.dict_value.proofs.DigitTexts.{number-next, digits-next, digit-at, too-great, value-of}
use Rattle.dict_value.proofs.digit_text.read_digits.Goals as goal

pub returns-then-not-is_ascii_digit : goal.returns-then-not-is_ascii_digit
returns-then-not-is_ascii_digit c = λ d. omega (arith, digit_from_value (get_or c.args.text.now c.loop-byte.byte-index 0) (digit-at c.args.text.now c.loop-byte.byte-index c.loop-byte-test.true d.each), c.if-not-is_ascii_digit.ensures.cases)

pub returns-in_default : goal.returns-in_default
returns-in_default c = too-great _ c.loop-byte.byte-index c.loop-byte-test.true (omega (arith, c.in_default.ensures, c.loop-byte.invariant.number))

pub returns-in_default-checked_add : goal.returns-in_default-checked_add
returns-in_default-checked_add c =
    let digit = c.if-not-is_ascii_digit.ensures.cases in
    let value : digit_value (get_or c.args.text.now c.loop-byte.byte-index 0) ≡ get_or c.args.text.now c.loop-byte.byte-index 0 - 48 = value-of _ (omega (arith, digit)) (omega (arith, digit)) in
    too-great _ c.loop-byte.byte-index c.loop-byte-test.true (omega (arith, c.in_default-checked_add.ensures, c.in-Some.ensures.1, c.from-digit.ensures, c.loop-byte.invariant.number, value))

pub loop-byte-preserved : goal.loop-byte-preserved
loop-byte-preserved c =
    let digit = c.if-not-is_ascii_digit.ensures.cases in
    let value : digit_value (get_or c.args.text.now c.loop-byte.byte-index 0) ≡ get_or c.args.text.now c.loop-byte.byte-index 0 - 48 = value-of _ (omega (arith, digit)) (omega (arith, digit)) in
    record {
      each = digits-next _ c.loop-byte.byte-index c.loop-byte-test.true c.loop-byte.invariant.each (omega (arith, digit, value));
      fits = omega (arith, c.in-Some-checked_add.ensures);
      number = omega (arith, c.in-Some-checked_add.ensures.1, c.in-Some.ensures.1, c.from-digit.ensures, c.loop-byte.invariant.number, value, number-next c.args.text.now c.loop-byte.byte-index c.loop-byte-test.true);
    }

pub returns : goal.returns
returns c =
    let whole : take c.loop-byte.byte-index c.args.text.now ≡ c.args.text.now = grind (arith, common_steps) in
    let each : AllDigits 10 c.args.text.now = rw whole at c.loop-byte.invariant.each in
    let number : c.loop-byte.number ≡ digits_value 10 c.args.text.now = rw whole at c.loop-byte.invariant.number in
    (record { some = grind (arith, common_steps); few = omega arith; each = each; fits = omega (arith, number, c.loop-byte.invariant.fits) }, number)
