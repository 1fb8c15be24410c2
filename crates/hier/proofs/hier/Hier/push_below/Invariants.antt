-- The members below the one, up to a member, are appended.
use Rattle.std.proofs.Common.{◌+◌, ◌-◌, cond, eqb, length}
use Rattle.hier.proofs.Finds.{IsSoFar}
use Rattle.hier.proofs.hier.Hier.push_below.Given as goal

abbrev pub invariant-loop-cell : goal.invariant-loop-cell
invariant-loop-cell l = IsSoFar l.self.ups.items l.of l.but l.initial.found l.found l.cell

abbrev pub decreases-loop-cell : goal.decreases-loop-cell
decreases-loop-cell l = cond (eqb l.cell 0) 0 (length l.self.members.items + 1 - l.cell)
