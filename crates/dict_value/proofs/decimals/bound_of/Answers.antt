-- At most 38 digits.
use Rattle.std.proofs.Common.{arith}
use Rattle.dict_value.proofs.Digits.{few_digits}
use Rattle.dict_value.proofs.decimals.bound_of.Goals as goal

pub pow-requires : goal.pow-requires
pow-requires c = rw (c.from.ensures, c.min.ensures) (omega (arith, few_digits c.args.digits))

pub returns-clause-bound : goal.returns-clause-bound
returns-clause-bound c = rw (c.pow.ensures, c.from.ensures, c.min.ensures) (few_digits c.args.digits)
