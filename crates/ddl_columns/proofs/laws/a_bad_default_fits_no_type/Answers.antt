use Rattle.ddl_columns.proofs.DefaultFits.{default_fits}
use Rattle.ddl_columns.proofs.laws.a_bad_default_fits_no_type.Goals as goal

pub returns : goal.returns
returns c = default_fits
