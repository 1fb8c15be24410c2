use Rattle.wire_text.proofs.RepliesApart.{value_once}
use Rattle.wire_text.proofs.laws.one_value_of_a_text.Goals as goal

pub returns : goal.returns
returns c = value_once
