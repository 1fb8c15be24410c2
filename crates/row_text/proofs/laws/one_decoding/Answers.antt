use Rattle.row_text.proofs.EachText.{some-decoding}
use Rattle.row_text.proofs.OneDecoding.{one-decoding}
use Rattle.row_text.proofs.laws.one_decoding.Goals as goal

pub returns-clause-some : goal.returns-clause-some
returns-clause-some c = some-decoding

pub returns-clause-one : goal.returns-clause-one
returns-clause-one c = one-decoding
