use Rattle.std.proofs.Common.{◌≡◌, map, take}
use Rattle.dict_version.specs.Keys.{key_texts}
use Rattle.dict_version.proofs.columns.texts_of.Given as goal

abbrev pub invariant-loop-place : goal.invariant-loop-place
invariant-loop-place l = l.texts.items ≡ take l.place (key_texts l.rows)
