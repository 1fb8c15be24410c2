use Rattle.rows_typed.specs.Fits.{HasFittingDefaults}
use Rattle.rows_typed.proofs.decoding.tests.shape_of.Given as goal

abbrev pub invariant-loop-role : goal.invariant-loop-role
invariant-loop-role l = HasFittingDefaults l.shape
