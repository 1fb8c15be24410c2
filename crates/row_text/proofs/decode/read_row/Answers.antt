use Rattle.std.proofs.Common.{rules, Err, refl, subst, sym}
use Rattle.row_text.specs.declared.decode.RowFault.{RowFault}
use Rattle.row_text.specs.Decoding.{Miscounted}
use Rattle.row_text.specs.steps.DecodeSteps.{LineDecodes}
use Rattle.row_text.proofs.Decoded.{line-unread, line-valued}
use Rattle.row_text.proofs.Readings.{Unless}
use Rattle.row_text.proofs.decode.read_row.Goals as goal

pub returns-in-Err : goal.returns-in-Err
returns-in-Err g c =
    subst (λ (fault : RowFault). Unless fault (LineDecodes c.args.format (g.C.Columns.columns c.args.columns.now) c.args.line.now (Err fault))) (sym c.of_line.ensures)
    (line-unread c.args.format (g.C.Columns.columns c.args.columns.now) c.args.line.now c.in-Err.fault c.in-Err.ensures)

pub returns-then-len-count : goal.returns-then-len-count
returns-then-len-count g c _ = Miscounted c.in-Ok.fields (c.in-Ok.ensures (λ e. cc)) (search rules) refl (search rules)

pub returns : goal.returns
returns g c = line-valued c.args.format (g.C.Columns.columns c.args.columns.now) c.args.line.now c.in-Ok.fields (c.in-Ok.ensures (λ e. cc), search rules) c.read_values.result c.read_values.ensures
