use Rattle.row_text.proofs.Tabled.{one-csv_table, one-tab_table}
use Rattle.row_text.proofs.laws.one_table.Goals as goal

pub returns-clause-tab : goal.returns-clause-tab
returns-clause-tab c = one-tab_table

pub returns-clause-csv : goal.returns-clause-csv
returns-clause-csv c = one-csv_table
