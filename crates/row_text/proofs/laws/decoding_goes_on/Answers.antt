use Rattle.row_text.proofs.Growing.{from-none, goes-on, to-none}
use Rattle.row_text.proofs.laws.decoding_goes_on.Goals as goal

pub returns-clause-alone : goal.returns-clause-alone
returns-clause-alone c format columns text answer = (to-none format columns text answer, from-none format columns text answer)

pub returns-clause-cut : goal.returns-clause-cut
returns-clause-cut c = goes-on
