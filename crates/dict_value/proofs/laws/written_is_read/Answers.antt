-- The text of a value has the value.
use Rattle.dict_value.proofs.Again.{read_again}
use Rattle.dict_value.proofs.laws.written_is_read.Goals as goal

pub returns : goal.returns
returns c = read_again
