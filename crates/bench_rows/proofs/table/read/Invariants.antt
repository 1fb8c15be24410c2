use Rattle.std.proofs.Common.{length}
use Rattle.bench_rows.proofs.table.read.Given as goal

abbrev pub decreases-loop-count : goal.decreases-loop-count
decreases-loop-count l = length l.left
