-- The bytes so far are others.
use Rattle.std.proofs.Common.{◌≡◌, ◌+◌, ◌==◌, not, drop}
use Rattle.std.specs.List.{prefix_len}
use Rattle.dict_value.proofs.decimals.place_of.Given as goal

abbrev pub invariant-loop-i : goal.invariant-loop-i
invariant-loop-i l =
    l.i + prefix_len (λ c. not (c == l.byte)) (drop l.i l.text) ≡ prefix_len (λ c. not (c == l.byte)) l.text
