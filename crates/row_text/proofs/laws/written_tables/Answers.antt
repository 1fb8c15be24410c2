use Rattle.row_text.proofs.Tabled.{csv-table, tab-table}
use Rattle.row_text.proofs.laws.written_tables.Goals as goal

pub returns-clause-tab : goal.returns-clause-tab
returns-clause-tab c = tab-table

pub returns-clause-csv : goal.returns-clause-csv
returns-clause-csv c = csv-table
