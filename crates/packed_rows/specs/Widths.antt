-- How many bytes a cell takes, and the number that they are.
use Rattle.std.specs.Prelude.{◌+◌, ◌*◌, ◌/◌, ◌%◌, ◌^◌, ◌∷◌, ◌++◌, [], ℕ, List, slice_index}
use Rattle.std.specs.Int.{to_le_bytes, from_le_bytes}
use Rattle.std.proofs.Common.{w16, w32, w64}
use Rattle.dict_value.specs.declared.value.ColType.{ColType}
use Rattle.dict_value.specs.declared.value.ColType.TheVariants as type
use Rattle.packed_rows.specs.declared.column.CellWidth.{CellWidth}
use Rattle.packed_rows.specs.declared.column.CellWidth.TheVariants.{One, Two, Four, Eight, Sixteen}

-- how wide the cells of a type are
abbrev pub cell_width : ColType → CellWidth
cell_width type.UInt8 = One
cell_width type.Int8 = One
cell_width type.UInt16 = Two
cell_width type.Int16 = Two
cell_width type.Date = Two
cell_width type.UInt32 = Four
cell_width type.Int32 = Four
cell_width type.DateTime = Four
cell_width type.Ipv4 = Four
cell_width type.UInt64 = Eight
cell_width type.Int64 = Eight
cell_width type.Str = Eight
cell_width type.Uuid = Sixteen
cell_width type.Ipv6 = Sixteen
cell_width (type.Decimal digits scale) = Sixteen

unfoldable pub width_bytes : CellWidth → ℕ
width_bytes One = 1
width_bytes Two = 2
width_bytes Four = 4
width_bytes Eight = 8
width_bytes Sixteen = 16

-- what a number of the width stays below
unfoldable pub limit_of : CellWidth → ℕ
limit_of One = 2 ^ 8
limit_of Two = 2 ^ 16
limit_of Four = 2 ^ 32
limit_of Eight = 2 ^ 64
limit_of Sixteen = 2 ^ 128

-- the bytes of a number, the lowest first
unfoldable pub kept : CellWidth → ℕ → List ℕ
kept One n = n ∷ []
kept Two n = to_le_bytes w16 n
kept Four n = to_le_bytes w32 n
kept Eight n = to_le_bytes w64 n
kept Sixteen n = to_le_bytes w64 (n % 2 ^ 64) ++ to_le_bytes w64 (n / 2 ^ 64)

abbrev pub two_at : List ℕ → ℕ → ℕ
two_at cells at = from_le_bytes w16 (slice_index cells at ∷ slice_index cells (at + 1) ∷ [])

abbrev pub four_at : List ℕ → ℕ → ℕ
four_at cells at = from_le_bytes w32 (slice_index cells at ∷ slice_index cells (at + 1)
    ∷ slice_index cells (at + 2) ∷ slice_index cells (at + 3) ∷ [])

abbrev pub eight_at : List ℕ → ℕ → ℕ
eight_at cells at = from_le_bytes w64 (slice_index cells at ∷ slice_index cells (at + 1)
    ∷ slice_index cells (at + 2) ∷ slice_index cells (at + 3) ∷ slice_index cells (at + 4)
    ∷ slice_index cells (at + 5) ∷ slice_index cells (at + 6) ∷ slice_index cells (at + 7) ∷ [])

-- the number at a place
unfoldable pub nat_at : CellWidth → List ℕ → ℕ → ℕ
nat_at One cells i = slice_index cells i
nat_at Two cells i = two_at cells (i * 2)
nat_at Four cells i = four_at cells (i * 4)
nat_at Eight cells i = eight_at cells (i * 8)
nat_at Sixteen cells i = eight_at cells (i * 16 + 8) * 2 ^ 64 + eight_at cells (i * 16)
