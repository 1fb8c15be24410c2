use Rattle.std.proofs.Common.{◌≡◌, Err, Result, ap, subst}
use Rattle.packed_rows.specs.Columns.{RowList}
use Rattle.row_text.specs.declared.decode.DecodeFault.{DecodeFault}
use Rattle.row_text.specs.declared.decode.DecodeFault.TheVariants as decode
use Rattle.row_text.specs.Decoding.{Decodes}
use Rattle.row_text.specs.Growing.{DecodesBehind}
use Rattle.row_text.proofs.Decoded.{handed-on}
use Rattle.row_text.proofs.Growing.{from-none}
use Rattle.row_text.proofs.decode.decode_rows.Goals as goal

pub returns-in_err-decode_more : goal.returns-in_err-decode_more
returns-in_err-decode_more g c =
    let columns = g.C.Columns.columns c.args.columns.now in
    let text = c.args.text.now in
    let fault : DecodeFault = c.in_err-decode_more.field-0.0 in
    handed-on (λ (a : Result RowList DecodeFault). Decodes c.args.format columns text a) c.from_residual-in_err-decode_more.result fault c.from_residual-in_err-decode_more.ensures.1
    (λ want.
    let found = c.in_err-decode_more.ensures.adds (λ e. want (let is : fault ≡ decode.NoMemory = cc in ap (λ (f : DecodeFault). Err f) is)) in
    from-none c.args.format columns text (Err fault) (subst (λ (rows : RowList). DecodesBehind c.args.format columns 0 rows text (Err fault)) c.in_ok-rows.ensures.ok.1 found))
