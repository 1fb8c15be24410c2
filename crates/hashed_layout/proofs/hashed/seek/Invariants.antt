-- The probes so far met other keys.
use Rattle.std.proofs.Common.{◌<◌, ℕ, length}
use Rattle.hashed_layout.specs.Probing.{home_of}
use Rattle.hashed_layout.specs.Tables.{held}
use Rattle.hashed_layout.specs.steps.Filling.{Passes}
use Rattle.hashed_layout.proofs.hashed.seek.Given as goal

abbrev pub invariant-loop-probe : goal.invariant-loop-probe
invariant-loop-probe l =
    (earlier : ℕ) → earlier < l.probe → Passes (length l.cells) (home_of (length l.cells) l.key) (held l.cells) l.key earlier
