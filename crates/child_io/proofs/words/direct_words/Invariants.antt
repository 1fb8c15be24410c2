use Rattle.std.proofs.Common.{◌≡◌, ℕ, List, length, map, nat_lt}
use Rattle.std.specs.List.{filter}
use Rattle.child_io.specs.Words.{in_folder}
use Rattle.child_io.proofs.words.direct_words.Given as goal

abbrev pub invariant-loop-part : goal.invariant-loop-part
invariant-loop-part l = l.words ≡ in_folder l.folder (filter (λ (part : List ℕ). nat_lt 0 (length part)) (map (λ part. part.now) l.yielded))
