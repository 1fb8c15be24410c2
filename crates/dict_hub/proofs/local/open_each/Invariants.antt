use Rattle.std.proofs.Common.{◌≡◌, take}
use Rattle.dict_hub.specs.Plain.{opened}
use Rattle.dict_hub.proofs.local.open_each.Given as goal

abbrev pub invariant-loop-place : goal.invariant-loop-place
invariant-loop-place g l = l.made ≡ opened l.folder l.seed 0 (take l.place l.items)
