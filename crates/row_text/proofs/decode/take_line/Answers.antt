use Rattle.std.proofs.Common.{◌≡◌, ◌<◌, Err, length, true, subst, sym, rules}
use Rattle.dict_value.specs.declared.value.TheConstants.{MOST_ROWS}
use Rattle.row_text.specs.declared.decode.DecodeFault.{DecodeFault}
use Rattle.row_text.specs.Decoding.{is_row_line}
use Rattle.row_text.specs.steps.DecodeSteps.{LineBrings}
use Rattle.row_text.proofs.Decoded.{Unless, line-fault}
use Rattle.row_text.proofs.Fitted.{typed-fits}
use Rattle.row_text.proofs.decode.take_line.Goals as goal

pub push_row-requires-clause-fits : goal.push_row-requires-clause-fits
push_row-requires-clause-fits g c =
    rw c.requires.types
    (typed-fits c.args.format (g.C.Columns.columns c.args.columns.now) (g.C.Columns.types c.args.columns.now) c.args.line.now c.in-Ok.row c.requires.fit (c.in-Ok.ensures (λ e. cc)))

pub returns-clause-brings : goal.returns-clause-brings
returns-clause-brings g c =
    let is : is_row_line c.args.format c.args.line.now ≡ true = search rules in
    let room : length c.args.rows.now.rows < MOST_ROWS = search rules in
    subst (λ (fault : DecodeFault). Unless {A = Unit {0}} (Err fault) (LineBrings c.args.format (g.C.Columns.columns c.args.columns.now) c.args.line.now c.args.number c.args.rows.now.rows (Err fault) c.args.rows.now.rows)) (sym c.at_line.ensures)
    (line-fault c.args.format (g.C.Columns.columns c.args.columns.now) c.args.line.now c.args.number c.args.rows.now.rows c.args.rows.now.rows is room c.in-Err.fault c.in-Err.ensures)
