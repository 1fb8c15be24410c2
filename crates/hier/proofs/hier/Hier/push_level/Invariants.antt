-- The members below those so far are appended.
use Rattle.hier.specs.steps.Finding.{AddsLevel}
use Rattle.hier.proofs.hier.Hier.push_level.Given as goal

abbrev pub invariant-loop-place : goal.invariant-loop-place
invariant-loop-place l = AddsLevel l.self.ups.items l.from l.place l.but l.initial.found l.found
