use Rattle.row_text.proofs.OneReading.{only-answer}
use Rattle.row_text.proofs.tab_row.read_fields.Goals as goal

pub returns-clause-only : goal.returns-clause-only
returns-clause-only c answer p = only-answer c.args.line.now _ answer c.read_line.ensures p
