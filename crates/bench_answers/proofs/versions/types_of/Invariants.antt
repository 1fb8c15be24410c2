use Rattle.std.proofs.Common.{◌≡◌, map, take}
use Rattle.dict_schema.specs.Shapes.{cell_type}
use Rattle.bench_answers.proofs.versions.types_of.Given as goal

abbrev pub invariant-loop-column : goal.invariant-loop-column
invariant-loop-column l = l.types ≡ map cell_type (take l.column-index l.column-items)
