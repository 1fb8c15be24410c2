use Rattle.dict_functions.proofs.OneAnswer.{seen-once}
use Rattle.dict_functions.proofs.laws.one_answer.Goals as goal

pub returns : goal.returns
returns c = seen-once
