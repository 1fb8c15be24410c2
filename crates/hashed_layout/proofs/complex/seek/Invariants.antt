-- The probes so far met other keys.
use Rattle.std.proofs.Common.{◌<◌, ℕ, length}
use Rattle.hashed_layout.specs.KeyTables.{key_home}
use Rattle.hashed_layout.specs.Probing.{probed}
use Rattle.hashed_layout.specs.steps.KeyFilling.{Skips}
use Rattle.hashed_layout.proofs.complex.seek.Given as goal

abbrev pub invariant-loop-probe : goal.invariant-loop-probe
invariant-loop-probe l =
    (earlier : ℕ) → earlier < l.probe → Skips l.entries l.bytes l.cells l.key (probed (length l.cells) (key_home (length l.cells) l.key) earlier)
