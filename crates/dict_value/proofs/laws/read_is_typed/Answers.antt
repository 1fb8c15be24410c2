-- Each type reads values of its own.
use Rattle.dict_value.proofs.ReadTypes.{read-typed}
use Rattle.dict_value.proofs.laws.read_is_typed.Goals as goal

pub returns : goal.returns
returns c = read-typed
