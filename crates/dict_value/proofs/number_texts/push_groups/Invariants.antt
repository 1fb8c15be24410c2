-- The groups so far were appended.
use Rattle.std.proofs.Common.{◌≡◌, ◌∷◌, ◌++◌, get_or, take}
use Rattle.std.specs.Net.Text.{groups_text}
use Rattle.dict_value.proofs.number_texts.push_groups.Given as goal

abbrev pub invariant-loop-group : goal.invariant-loop-group
invariant-loop-group l =
    l.out ≡ l.fn.out ++ groups_text (get_or l.groups 0 0 ∷ take l.group-index l.rest)
