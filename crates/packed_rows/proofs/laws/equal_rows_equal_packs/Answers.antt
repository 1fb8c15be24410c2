use Rattle.packed_rows.proofs.Packing.{equal-packs}
use Rattle.packed_rows.proofs.laws.equal_rows_equal_packs.Goals as goal

pub returns : goal.returns
returns c = equal-packs
