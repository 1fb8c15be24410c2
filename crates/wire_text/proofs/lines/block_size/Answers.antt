use Rattle.wire_text.proofs.BlockLines.{block_size_is}
use Rattle.wire_text.proofs.lines.block_size.Goals as goal

pub returns-in-Some : goal.returns-in-Some
returns-in-Some c = block_size_is c.args.line.now c.in-Some.rest.now c.first_part.result.now c.in-Some.ensures c.first_part.ensures.before c.first_part.ensures.rest c.count_in.result c.count_in.ensures
