use Rattle.rows_typed.specs.Fits.{HasFittingDefaults}
use Rattle.bench_rows.proofs.typed.shape.Given as goal

abbrev pub invariant-loop-kind : goal.invariant-loop-kind
invariant-loop-kind l = HasFittingDefaults l.shape
