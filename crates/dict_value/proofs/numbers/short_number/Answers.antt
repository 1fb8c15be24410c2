-- Ten digits stay far below the cap.
use Rattle.std.proofs.Common.{arith, length}
use Rattle.dict_value.proofs.Digits.{short_value}
use Rattle.dict_value.proofs.numbers.short_number.Goals as goal

pub overflow_cast-result : goal.overflow_cast-result
overflow_cast-result c = omega (arith, short_value c.args.digits.now 10 c.requires.digits c.requires.len)

pub returns-clause-value : goal.returns-clause-value
returns-clause-value c = omega (arith, short_value c.args.digits.now 10 c.requires.digits c.requires.len)

pub returns-clause-bound : goal.returns-clause-bound
returns-clause-bound c =
    let ds = c.args.digits.now in
    omega (arith, short_value ds 10 c.requires.digits c.requires.len, short_value ds (length ds) c.requires.digits (omega arith))
