use Rattle.std.proofs.Common.{◌∙◌, sym}
use Rattle.packed_rows.proofs.Packing.{whole-packs}
use Rattle.packed_rows.proofs.laws.packs_are_read_back.Goals as goal

pub returns-clause-one : goal.returns-clause-one
returns-clause-one c cs text n rows others is are = sym is.read ∙ are.read

pub returns-clause-made : goal.returns-clause-made
returns-clause-made c = whole-packs
