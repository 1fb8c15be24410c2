-- What holds of an answer where memory sufficed.
use Rattle.std.specs.Prelude.{◌≢◌}

-- this holds, unless the answer is the one that says that memory ran out
abbrev pub UnlessNoMemory : {A : Type 0} → A → A → Type 0 → Type 0
UnlessNoMemory no_memory answer P = answer ≢ no_memory → P
