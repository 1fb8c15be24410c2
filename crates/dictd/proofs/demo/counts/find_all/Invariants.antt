use Rattle.std.proofs.Common.{◌≤◌, ◌*◌, ◌^◌}
use Rattle.dictd.proofs.Demos.{Counted}
use Rattle.dictd.proofs.demo.counts.find_all.Given as goal

abbrev pub invariant-loop-lookup : goal.invariant-loop-lookup
invariant-loop-lookup l =
    Counted l.rows l.seed l.lookup l.counts.hits l.counts.sum × (l.counts.hits ≤ l.lookup)
    × (l.counts.sum ≤ l.lookup * 2 ^ 32)
