-- What the table of a list of keys keeps.
use Rattle.std.specs.Prelude.{◌≡◌, ◌-◌, ◌+◌, ◌*◌, ◌^◌, ◌==◌, ◌<◌, ℕ, List, Option, Some, None, length, slice_get}
use Rattle.std.specs.Prelude.{if◌then◌else◌}
use Rattle.dict_value.specs.FindByKey.{HasKeyAt, IsLeastPlace}
use Rattle.hashed_layout.specs.Probing.{IsMet, home_of}
use Rattle.hashed_layout.specs.declared.hashed.Cell.{Cell}

-- the key of a taken cell
abbrev pub key_of : Cell → ℕ
key_of cell = cell.high * 2 ^ 32 + cell.low

-- the key that a cell holds, or none where it is free
abbrev pub key_in : Option Cell → Option ℕ
key_in None = None
key_in (Some cell) = if cell.next == 0 then None else Some (key_of cell)

-- the key that the cell at a place of the table holds
abbrev pub held : List Cell → ℕ → Option ℕ
held cells i = key_in (slice_get cells i)

-- each taken cell has the least place of its key, and each key is met by its probes
pub record IsTableOf (keys : List ℕ) (cells : List Cell) : Type 0 where
  pub least : (i : ℕ) (cell : Cell) → slice_get cells i ≡ Some cell → 0 < cell.next
      → IsLeastPlace keys (key_of cell) (cell.next - 1)
  pub met : (place key : ℕ) → HasKeyAt keys key place
      → IsMet (length cells) (home_of (length cells) key) (held cells) key
