-- The levels so far are searched.
use Rattle.hier.specs.steps.Finding.{IsSearched}
use Rattle.hier.proofs.hier.Hier.find_levels.Given as goal

abbrev pub invariant-loop-level : goal.invariant-loop-level
invariant-loop-level l = IsSearched l.self.ups.items l.of l.level l.found l.from
