-- Lines of a text.
use Rattle.std.specs.Prelude.{ℕ, ◌+◌, ◌==◌, List, take}
use Rattle.std.specs.List.{count_by}

-- the line of a place, from 1: each line feed (10) before it ends one
abbrev pub line_of : List ℕ → ℕ → ℕ
line_of text place = 1 + count_by (λ b. b == 10) (take place text)
