-- No power of ten is 0.
use Rattle.std.proofs.Common.{arith, min}
use Rattle.std.proofs.Math.Nat.{one-le-pow}
use Rattle.dict_value.proofs.reading.default_of.Goals as goal

pub returns-in-Decimal-clause-fits : goal.returns-in-Decimal-clause-fits
returns-in-Decimal-clause-fits c =
    rw c.in-Decimal.is (omega (arith, one-le-pow (min c.in-Decimal.field-0 38) 10 (omega arith)))
