use Rattle.row_text.proofs.Fitted.{null-fits}
use Rattle.row_text.proofs.decode.tests.decode_nulls.Goals as goal

pub decode_rows-requires-clause-fit : goal.decode_rows-requires-clause-fit
decode_rows-requires-clause-fit c = null-fits
