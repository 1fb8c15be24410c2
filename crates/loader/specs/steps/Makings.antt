-- What is made of the rows that a child's output decodes to.
use Rattle.std.specs.Prelude.{◌≡◌, ◌⊎◌, ◌<◌, ◌≤◌, ℕ, List, [], length, pos, ⊤, Option, Result, Ok, Err}
use Rattle.std.specs.List.{All, concat}
use Rattle.std.specs.Option.{option_map_or}
use Rattle.child_io.specs.Gathers.{outcome_of}
use Rattle.child_io.specs.declared.pieces.PieceEnd.{PieceEnd}
use Rattle.child_io.specs.declared.pieces.PieceEnd.TheVariants.{Ended}
use Rattle.dict_schema.specs.declared.definition.Definition.{Definition}
use Rattle.dict_value.specs.declared.fault.Exit.TheVariants.{Code}
use Rattle.dict_version.specs.Contents.{Contents, contents}
use Rattle.dict_value.specs.declared.value.TheConstants.{MOST_ROWS}
use Rattle.dict_version.specs.Rows.{LayoutTakes, TakesRows}
use Rattle.overlay.specs.Overlays.{Overlay}
use Rattle.packed_rows.specs.Columns.{RowList}
use Rattle.loader.specs.Accepts.{Accepts, OutputGives, IsOversized, IsUntaken, Lays, LaysTooLarge, Updates}
use Rattle.loader.specs.Loaders.{Running, kept_rows}
use Rattle.loader.specs.Origins.{Ran}
use Rattle.loader.specs.declared.fault.LoadFault.{LoadFault}
use Rattle.loader.specs.declared.fault.LoadFault.TheVariants.{Refused, NoMemory}
use Rattle.loader.specs.declared.making.Made.{Made}

-- rows that may not be there
abbrev pub kept_in : Option RowList → RowList
kept_in rows = option_map_or (λ list. list) rows []

-- rows of versions of the definition: a load may be laid over them
pub record CanFollow (d : Definition) (former : RowList) : Type 0 where
  pub takes : TakesRows d former
  pub taken : LayoutTakes d former
  pub few : length former ≤ MOST_ROWS

-- the version of some rows, or the first key that the layout doesn't take
abbrev pub IsBuilt : Definition → RowList → Result Contents LoadFault → Type 0
IsBuilt d rows (Ok version) = (version ≡ contents d rows) × LayoutTakes d rows
IsBuilt d rows (Err (Refused why)) = IsUntaken d rows why
IsBuilt d rows (Err NoMemory) = ⊤

-- the overlay, or that it is too large
abbrev pub IsLaid : ℕ → RowList → RowList → Result RowList LoadFault → Type 0
IsLaid keys former fresh (Ok rows) = Updates keys former fresh rows
IsLaid keys former fresh (Err (Refused why)) =
    (rows : RowList) × Overlay keys former fresh rows × IsOversized rows why
IsLaid keys former fresh (Err NoMemory) = ⊤

-- the version of a load's rows, and what is kept of them
pub record MakesVersion (d : Definition) (former fresh : RowList) (version : Contents) (kept : RowList) : Type 0 where
  pub rows : RowList
  pub taken : LayoutTakes d fresh
  pub laid : Lays d.source.update (length d.keys) former fresh rows
  pub version_is : version ≡ contents d rows
  pub kept_is : kept ≡ kept_rows d.source.update rows
  pub follows : CanFollow d kept

-- that, or why there is none
abbrev pub IsMade : {C : Type 0} → Definition → RowList → RowList → Result (Made C) LoadFault → Type 0
IsMade d former fresh (Ok made) = MakesVersion d former fresh made.version (kept_in made.kept)
IsMade d former fresh (Err (Refused why)) =
    IsUntaken d fresh why
    ⊎ (LayoutTakes d fresh × LaysTooLarge d.source.update (length d.keys) former fresh why)
IsMade d former fresh (Err NoMemory) = ⊤

-- the version of a child's whole output, which it really printed, or the cause that is met first
pub record GivesVersion (ran : Ran) (d : Definition) (words : List (List ℕ)) (former : RowList) (output : List ℕ)
    (ending : PieceEnd) (version : Contents) (kept : RowList) : Type 0 where
  pub rows : RowList
  pub ended : ending ≡ Ended (Code (pos 0))
  pub was_run : ran words output (Code (pos 0))
  pub gives : OutputGives d former output (Ok rows)
  pub version_is : version ≡ contents d rows
  pub kept_is : kept ≡ kept_rows d.source.update rows
  pub follows : CanFollow d kept

abbrev pub IsGiven : {C : Type 0} → Ran → Definition → List (List ℕ) → RowList → List ℕ → PieceEnd
    → Result (Made C) LoadFault → Type 0
IsGiven ran d words former output ending (Ok made) =
    GivesVersion ran d words former output ending made.version (kept_in made.kept)
IsGiven ran d words former output ending (Err (Refused why)) = Accepts d former (outcome_of ending output) (Err why)
IsGiven ran d words former output ending (Err NoMemory) = ⊤

-- one child was run so, and this is what it gives
pub record RunsVersion {C : Type 0} (runs : Running) (ran : Ran) (d : Definition) (words : List (List ℕ))
    (former : RowList) (result : Result (Made C) LoadFault) : Type 0 where
  pub ending : PieceEnd
  pub pieces : List (List ℕ)
  pub some : All (λ piece. 0 < length piece) pieces
  pub within : length (concat pieces) ≤ d.max_output
  pub run : runs words ending pieces
  pub given : IsGiven ran d words former (concat pieces) ending result

-- or memory ran out before that
abbrev pub IsLoadedBy : {C : Type 0} → Running → Type 0 → Ran → Definition → List (List ℕ) → RowList
    → Result (Made C) LoadFault → Type 0
IsLoadedBy runs same ran d words former result =
    RunsVersion runs ran d words former result ⊎ (same × (result ≡ Err NoMemory))
