use Rattle.std.proofs.Common.{take}
use Rattle.loader.specs.steps.Defaults.{ColumnsFit}
use Rattle.loader.proofs.loading.see_defaults.Given as goal

abbrev pub invariant-loop-column : goal.invariant-loop-column
invariant-loop-column l = ColumnsFit (take l.column-index l.columns)
