use Rattle.row_text.proofs.CsvWritten.{row-again, row-whole}
use Rattle.row_text.proofs.csv_row.write_csv_row.Goals as goal

pub returns-in_err-text-clause-whole : goal.returns-in_err-text-clause-whole
returns-in_err-text-clause-whole c = row-whole c.args.fields.now

pub returns-in_err-text-clause-again : goal.returns-in_err-text-clause-again
returns-in_err-text-clause-again c = row-again c.args.fields.now c.requires

pub returns-clause-whole : goal.returns-clause-whole
returns-clause-whole c = row-whole c.args.fields.now

pub returns-clause-again : goal.returns-clause-again
returns-clause-again c = row-again c.args.fields.now c.requires
