-- Something is found exactly where a place has the key.
use Rattle.hashed_layout.proofs.KeyTableLemmas.{has-told}
use Rattle.hashed_layout.proofs.complex.Complex.has.Goals as goal

pub returns : goal.returns
returns c = λ keys table. has-told keys c.args.key.now c.find.result c.is_some.result c.is_some.ensures (c.find.ensures keys table)
