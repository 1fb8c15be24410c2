use Rattle.rows_typed.proofs.CellsRead.{shape-fits}
use Rattle.rows_typed.proofs.decoding.decode.Goals as goal

pub decode_rows-requires-clause-fit : goal.decode_rows-requires-clause-fit
decode_rows-requires-clause-fit c = rw c.as_slice.ensures (shape-fits c.args.format c.args.shape.now c.requires.defaults)
