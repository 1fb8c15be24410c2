use Rattle.std.proofs.Common.{◌≡◌, take}
use Rattle.overlay.specs.Overlays.{keys_of}
use Rattle.overlay.proofs.keys.keys_of.Given as goal

abbrev pub invariant-loop-place : goal.invariant-loop-place
invariant-loop-place l = l.list ≡ take l.place (keys_of l.keys l.rows)
