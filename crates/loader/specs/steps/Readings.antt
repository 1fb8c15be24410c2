-- What a child of a load is read to give.
use Rattle.std.specs.Prelude.{◌≡◌, ◌≢◌, ◌<◌, ◌≤◌, ℕ, List, length, false, pos, ⊤, Result, Ok, Err}
use Rattle.std.specs.List.{All, concat}
use Rattle.child_io.specs.Gathers.{outcome_of}
use Rattle.child_io.specs.declared.pieces.Gathered.{Gathered}
use Rattle.child_io.specs.declared.pieces.PieceEnd.{PieceEnd}
use Rattle.child_io.specs.declared.pieces.PieceEnd.TheVariants.{Ended, NotStarted}
use Rattle.dict_schema.specs.declared.definition.Definition.{Definition}
use Rattle.dict_value.specs.declared.fault.Exit.TheVariants.{Code}
use Rattle.packed_rows.specs.Columns.{RowList}
use Rattle.loader.specs.Accepts.{Accepts, DecodesTo}
use Rattle.loader.specs.Loaders.{Running}
use Rattle.loader.specs.Origins.{Ran}
use Rattle.loader.specs.declared.fault.LoadFault.{LoadFault}
use Rattle.loader.specs.declared.fault.LoadFault.TheVariants.{Refused, NoMemory}

-- the rows that an output decodes to, or the cause; want of memory may come at any output
abbrev pub IsDecoded : Definition → List ℕ → Result RowList LoadFault → Type 0
IsDecoded d output (Ok rows) = DecodesTo d output (Ok rows)
IsDecoded d output (Err (Refused why)) =
    (former : RowList) → Accepts d former (outcome_of (Ended (Code (pos 0))) output) (Err why)
IsDecoded d output (Err NoMemory) = ⊤

-- the rows that the whole output of a child decodes to that ended with status 0, or the cause that is met first,
-- whatever the former rows are
abbrev pub IsChildJudged : Definition → Gathered → PieceEnd → Result RowList LoadFault → Type 0
IsChildJudged d gathered ending (Ok rows) =
    (ending ≡ Ended (Code (pos 0))) × (gathered.lost ≡ false) × DecodesTo d gathered.bytes (Ok rows)
IsChildJudged d gathered ending (Err (Refused why)) =
    (former : RowList) (output : List ℕ) → (gathered.lost ≡ false → gathered.bytes ≡ output)
    → Accepts d former (outcome_of ending output) (Err why)
IsChildJudged d gathered ending (Err NoMemory) = ending ≢ NotStarted

-- the same of the child's whole output, which it really printed
abbrev pub IsRead : Ran → Definition → List (List ℕ) → List ℕ → PieceEnd → Result RowList LoadFault → Type 0
IsRead ran d words output ending (Ok rows) =
    (ending ≡ Ended (Code (pos 0))) × ran words output (Code (pos 0)) × DecodesTo d output (Ok rows)
IsRead ran d words output ending (Err (Refused why)) =
    (former : RowList) → Accepts d former (outcome_of ending output) (Err why)
IsRead ran d words output ending (Err NoMemory) = ending ≢ NotStarted

-- one child was run so, and this is what it gives
pub record ReadsChild (runs : Running) (ran : Ran) (d : Definition) (words : List (List ℕ))
    (result : Result RowList LoadFault) : Type 0 where
  pub ending : PieceEnd
  pub pieces : List (List ℕ)
  pub some : All (λ piece. 0 < length piece) pieces
  pub within : length (concat pieces) ≤ d.max_output
  pub run : runs words ending pieces
  pub given : IsRead ran d words (concat pieces) ending result
