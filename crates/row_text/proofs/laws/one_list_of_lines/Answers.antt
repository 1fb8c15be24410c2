use Rattle.row_text.proofs.EachText.{some-lines}
use Rattle.row_text.proofs.Tabled.{one-lines}
use Rattle.row_text.proofs.laws.one_list_of_lines.Goals as goal

pub returns-clause-some : goal.returns-clause-some
returns-clause-some c = some-lines

pub returns-clause-one : goal.returns-clause-one
returns-clause-one c = one-lines
