use Rattle.row_text.specs.Decoding.{IsTypedRow}
use Rattle.rows_typed.specs.Fits.{FitsShape}
use Rattle.rows_typed.specs.Shapes.{columns_of}
use Rattle.rows_typed.proofs.RowsFit.{each-fits, row-fits}
use Rattle.rows_typed.proofs.laws.decoded_rows_fit.Goals as goal

pub returns : goal.returns
returns c shape format text rows defaults decoded =
    each-fits (IsTypedRow format (columns_of format shape)) (FitsShape shape) _ rows
    (λ line row typed. row-fits format shape typed.0 row defaults typed.1.1 typed.2) decoded.typed
