use Rattle.std.proofs.Common.{◌≡◌, map}
use Rattle.std.specs.List.{range_with_len}
use Rattle.dictd.specs.Demo.{row_key}
use Rattle.dictd.proofs.demo.counts.row_keys.Given as goal

abbrev pub invariant-loop-row : goal.invariant-loop-row
invariant-loop-row l = l.keys ≡ map (row_key l.rows l.seed) (range_with_len 0 l.row)
