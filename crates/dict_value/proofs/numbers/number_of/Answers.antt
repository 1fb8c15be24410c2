-- One more digit: the number so far is capped, and a cap before or after the digit is the same.
use Rattle.std.proofs.Common.{arith}
use Rattle.std.proofs.lemmas.Int.Digits.{digits_value_more}
use Rattle.dict_value.proofs.Digits.{first_of_rest}
use Rattle.dict_value.proofs.numbers.number_of.Goals as goal

pub loop-b-preserved : goal.loop-b-preserved
loop-b-preserved c =
    let more = digits_value_more 10 c.args.digits.now c.loop-b.b-index (omega arith) in
    record {
      so_far = omega (arith, more);
      rest = (first_of_rest c.args.digits.now c.loop-b.b-index 0 (omega arith) c.loop-b.invariant.rest).1;
    }
