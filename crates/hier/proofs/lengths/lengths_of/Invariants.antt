-- The chains of the members so far are counted.
use Rattle.hier.specs.steps.Counting.{AreCounted}
use Rattle.hier.proofs.lengths.lengths_of.Given as goal

abbrev pub invariant-loop-member : goal.invariant-loop-member
invariant-loop-member l = AreCounted l.ups l.rows l.lengths.items l.places.items l.member
