use Rattle.wire_text.proofs.RepliesApart.{block_once}
use Rattle.wire_text.proofs.laws.one_block_of_a_text.Goals as goal

pub returns : goal.returns
returns c = block_once
