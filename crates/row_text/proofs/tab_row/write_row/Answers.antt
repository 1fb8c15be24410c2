use Rattle.row_text.proofs.Written.{row-again, row-whole}
use Rattle.row_text.proofs.tab_row.write_row.Goals as goal

pub returns-clause-whole : goal.returns-clause-whole
returns-clause-whole c = row-whole c.args.fields.now c.requires

pub returns-clause-again : goal.returns-clause-again
returns-clause-again c = row-again c.args.fields.now c.requires
