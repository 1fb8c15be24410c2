-- Rows that a definition takes: decoded ones, none, and those of an overlay.
use Rattle.std.proofs.Common.{◌<◌, ℕ, List, [], ◌∷◌, Ok, map, arith, slice_get}
use Rattle.std.specs.Prelude.{All, IsSome}
use Rattle.std.specs.List.{AllByRecursion, AllZip}
use Rattle.std.proofs.lemmas.List.Elements.{All-from_recursion, All-map, All-nil, recursion_from_All}
use Rattle.dict_schema.specs.Shapes.{cell_type, cell_types, shape_of}
use Rattle.dict_schema.specs.declared.definition.Definition.{Definition}
use Rattle.dict_schema.specs.declared.definition.ShapeColumn.{ShapeColumn}
use Rattle.dict_value.specs.Addresses.{prefix_in}
use Rattle.dict_value.specs.Values.{FitsColumn}
use Rattle.dict_value.specs.declared.value.Value.{Value}
use Rattle.dict_value.specs.declared.value.Value.TheVariants.{Null, U, I, S, Day, Second, Id, V4, V6, Dec}
use Rattle.dict_version.specs.Keys.{key_number, text_in}
use Rattle.dict_version.specs.Lookups.{lookup_by}
use Rattle.dict_version.specs.Rows.{LayoutTakesBy, TakesRows}
use Rattle.dict_version.specs.declared.lookup.LookupBy.{LookupBy}
use Rattle.dict_version.specs.declared.lookup.LookupBy.TheVariants as by
use Rattle.overlay.specs.Overlays.{Overlay}
use Rattle.overlay.proofs.OneOverlay.{overlay-all}
use Rattle.packed_rows.specs.Columns.{RowList}
use Rattle.rows_typed.specs.Fits.{FitsRole, FitsShape, HasFittingDefaults}
use Rattle.rows_typed.specs.Shapes.{columns_of}
use Rattle.rows_typed.proofs.RowsFit.{each-fits, row-fits as row-fits-shape}
use Rattle.row_text.specs.Decoding.{IsTypedRow}
use Rattle.loader.specs.Accepts.{DecodesTo}
use Rattle.loader.specs.steps.Makings.{CanFollow}

-- a value that fits a column in its role is one of its cells
cell-fits : (column : ShapeColumn) (v : Value) → FitsRole column.role column.ty v → FitsColumn (cell_type column) v
cell-fits column Null h = h
cell-fits column (U n) h = h
cell-fits column (I n) h = h
cell-fits column (S n) h = h
cell-fits column (Day n) h = h
cell-fits column (Second n) h = h
cell-fits column (Id n) h = h
cell-fits column (V4 n) h = h
cell-fits column (V6 n) h = h
cell-fits column (Dec n) h = h

row-fits : (shape : List ShapeColumn) (row : List Value) → FitsShape shape row → AllZip FitsColumn (cell_types shape) row
row-fits [] [] h = tt
row-fits [] (v ∷ row) h = absurd h
row-fits (column ∷ shape) [] h = absurd h
row-fits (column ∷ shape) (v ∷ row) h = (cell-fits column v h.0, row-fits shape row h.1)

each-row : (shape : List ShapeColumn) (rows : RowList) → AllByRecursion (FitsShape shape) rows → AllByRecursion (AllZip FitsColumn (cell_types shape)) rows
each-row shape [] h = tt
each-row shape (row ∷ rows) h = (row-fits shape row h.0, each-row shape rows h.1)

-- rows that fit the shape are taken
pub fitting-taken : (d : Definition) (rows : RowList) → AllByRecursion (FitsShape (shape_of d)) rows → TakesRows d rows
fitting-taken d rows h = All-from_recursion (AllZip FitsColumn (cell_types (shape_of d))) rows (each-row (shape_of d) rows h)

-- so are those that an output decodes to
pub decoded-taken : (d : Definition) (output : List ℕ) (rows : RowList) → HasFittingDefaults (shape_of d) → DecodesTo d output (Ok rows) → TakesRows d rows
decoded-taken d output rows defaults decoded =
    let format = d.source.format in
    fitting-taken d rows (each-fits (IsTypedRow format (columns_of format (shape_of d))) (FitsShape (shape_of d)) _ rows
    (λ line row typed. row-fits-shape format (shape_of d) typed.0 row defaults typed.1.1 typed.2) decoded.typed)

-- ---- no rows

none-taken : (looked : LookupBy) → LayoutTakesBy looked []
none-taken (by.SmallNumber most) = All-nil (λ number. number < most)
none-taken by.Number = tt
none-taken by.KeyList = tt
none-taken (by.Range strategy) = tt
none-taken by.Address = All-nil (λ text. IsSome (prefix_in text))
none-taken by.Nothing = tt

pub none-follow : (d : Definition) → CanFollow d []
none-follow d = record { takes = All-nil (AllZip FitsColumn (cell_types (shape_of d))); taken = none-taken (lookup_by d.layout); few = omega arith }

-- ---- the rows of an overlay

all-unmapped : {X Y : Type 0} (P : Y → Type 0) (f : X → Y) (xs : List X) → AllByRecursion P (map f xs) → AllByRecursion (λ x. P (f x)) xs
all-unmapped P f [] h = tt
all-unmapped P f (x ∷ xs) h = (h.0, all-unmapped P f xs h.1)

-- what holds of something of each row holds of it in the overlay
mapped-overlay : {Y : Type 0} (P : Y → Type 0) (f : List Value → Y) (keys : ℕ) (former fresh rows : RowList) → Overlay keys former fresh rows → All P (map f former) → All P (map f fresh) → All P (map f rows)
mapped-overlay P f keys former fresh rows laid a b =
    let Q : List Value → Type 0 = λ row. P (f row) in
    let of = λ (xs : RowList) (h : All P (map f xs)). All-from_recursion Q xs (all-unmapped P f xs (recursion_from_All P (map f xs) h)) in
    All-map P f rows (overlay-all Q keys former fresh rows (of former a) (of fresh b) laid)

pub overlay-taken : (looked : LookupBy) (keys : ℕ) (former fresh rows : RowList) → Overlay keys former fresh rows → LayoutTakesBy looked former → LayoutTakesBy looked fresh → LayoutTakesBy looked rows
overlay-taken (by.SmallNumber most) keys former fresh rows laid a b = mapped-overlay (λ number. number < most) (λ row. key_number (slice_get row 0)) keys former fresh rows laid a b
overlay-taken by.Number keys former fresh rows laid a b = tt
overlay-taken by.KeyList keys former fresh rows laid a b = tt
overlay-taken (by.Range strategy) keys former fresh rows laid a b = tt
overlay-taken by.Address keys former fresh rows laid a b = mapped-overlay (λ text. IsSome (prefix_in text)) (λ row. text_in (slice_get row 0)) keys former fresh rows laid a b
overlay-taken by.Nothing keys former fresh rows laid a b = tt
