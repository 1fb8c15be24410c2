use Rattle.row_text.proofs.CsvReads.{only-answer}
use Rattle.row_text.proofs.csv_row.read_csv_row.Goals as goal

pub returns-clause-only : goal.returns-clause-only
returns-clause-only c answer p = only-answer c.args.line.now _ answer c.read_line.ensures p
