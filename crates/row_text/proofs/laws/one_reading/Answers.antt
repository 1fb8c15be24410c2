use Rattle.row_text.proofs.EachText.{some-answer}
use Rattle.row_text.proofs.OneDecoding.{one-gives}
use Rattle.row_text.proofs.laws.one_reading.Goals as goal

pub returns-clause-some : goal.returns-clause-some
returns-clause-some c = some-answer

pub returns-clause-one : goal.returns-clause-one
returns-clause-one c = one-gives
