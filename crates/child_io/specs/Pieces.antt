-- Pieces that are handed on in order.
use Rattle.std.specs.Prelude.{ℕ, ◌+◌, ◌≤◌, List, length}
use Rattle.std.specs.List.{concat}

-- with one more piece, all pieces have at most 4,294,967,295 bytes
abbrev pub HasRoomFor : (List (List ℕ) → Type 0) → List ℕ → Type 0
HasRoomFor took piece = (pieces : List (List ℕ)) × took pieces × (length (concat pieces) + length piece ≤ 4294967295)
