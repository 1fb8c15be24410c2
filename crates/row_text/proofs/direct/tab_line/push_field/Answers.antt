use Rattle.row_text.proofs.DirectTab.{piece-adds}
use Rattle.row_text.proofs.direct.tab_line.push_field.Goals as goal

pub returns-clause-field : goal.returns-clause-field
returns-clause-field g c =
    piece-adds (g.C.Columns.columns c.args.columns.now) c.args.text.now c.in_ok-size.size c.in_ok-size.end c.args.rows.now.open_row c.push_piece.new.rows.open_row c.in_ok-size.ensures c.in_ok-push_piece.ensures.cell
