use Rattle.rows_typed.proofs.CellsRead.{digits-read}
use Rattle.rows_typed.proofs.columns.number_cell.Goals as goal

pub returns-in-Some : goal.returns-in-Some
returns-in-Some c = digits-read c.args.base c.args.text.now c.in-Some.number c.args.most c.requires c.in-Some.ensures.0 c.in-Some.ensures.1 c.if-number-most.true
