-- The cells of a version, as its fields have them and as it is seen.
use Rattle.std.proofs.Common.{◌≡◌, ◌<◌, ◌≤◌, ℕ, List, Option, Some, length, map, ap, arith, refl, subst, sym, take, ◌∙◌, get_or, slice_get}
use Rattle.std.proofs.lemmas.List.{length-map, take_all}
use Rattle.std.specs.Prelude.{IsSome}
use Rattle.std.specs.Option.{option_map}
use Rattle.std.specs.List.{AllZip}
use Rattle.std.specs.Prelude.{All}
use Rattle.std.proofs.lemmas.Option.{get_or_from_slice_get, same_Some, slice_get-map}
use Rattle.dict_schema.specs.Shapes.{cell_type, cell_types, shape_of}
use Rattle.dict_schema.specs.declared.definition.Definition.{Definition}
use Rattle.dict_value.specs.Values.{FitsColumn}
use Rattle.dict_value.specs.declared.value.AttrType.{AttrType}
use Rattle.dict_value.specs.declared.value.Value.{Value}
use Rattle.dict_version.specs.Contents.{Contents}
use Rattle.dict_version.specs.Kept.{IsVersion}
use Rattle.dict_version.specs.Printed.{IsPrintedAt}
use Rattle.dict_version.specs.declared.index.Index.{Index}
use Rattle.dict_version.proofs.RowCells.{HasFittingCell, cell-fits, item-at, row-at, zip-count}
use Rattle.hier.specs.declared.hier.Hier.{Hier}
use Rattle.packed_rows.specs.Columns.{cell_at}
use Rattle.row_text.specs.Written.{printed}

pub is-some : {A : Type 0} (o : Option A) (x : A) → o ≡ Some x → IsSome o
is-some o x is = rw is refl

-- a version's fields, and what it is seen as
module _ {S : Type 0} (d : Definition) (rows : List (List Value)) (moment : ℕ) (types : List AttrType) (index : Index S)
    (hier : Option Hier) (version : IsVersion d rows types index hier) where
  -- a type for each column of the shape
  pub length-types : length types ≡ length (shape_of d)
  length-types = ap length version.types_are ∙ rw length-map refl

  pub cell-there : (place column : ℕ) → place < length rows → column < length types → HasFittingCell types rows place column
  cell-there place column low within =
      cell-fits types rows place column (subst (λ ts. All (AllZip FitsColumn ts) rows) (sym version.types_are) version.takes) low within

  -- a row ends where the types do
  pub row-whole : (place : ℕ) (row : List Value) (count : ℕ) → slice_get rows place ≡ Some row → length types ≤ count → take count row ≡ row
  row-whole place row count here past =
      let fits = row-at types rows place row (subst (λ ts. All (AllZip FitsColumn ts) rows) (sym version.types_are) version.takes) here in
      take_all count row (omega (arith, past, zip-count FitsColumn types row fits))

  module _ (seen : Contents) (is : (record { definition = d; rows = rows; moment = moment }) ≡ seen) (place column : ℕ)
      (low : place < length seen.rows) (within : column < length (shape_of seen.definition)) where
    seen_rows : rows ≡ seen.rows
    seen_rows = ap (λ (v : Contents). v.rows) is

    row_low : place < length rows
    row_low = omega (arith, ap length seen_rows, low)

    column_low : column < length types
    column_low =
        let same = ap (λ (v : Contents). length (shape_of v.definition)) is in omega (arith, length-types, same, within)

    pub seen-cell : HasFittingCell types rows place column
    seen-cell = cell-there place column row_low column_low

    -- the type that is kept for the column
    pub kept-fits : (default : AttrType) (value : Value) → cell_at rows place column ≡ Some value → FitsColumn (get_or types column default) value
    kept-fits default value here =
        let cell = seen-cell in
        let type = get_or_from_slice_get types column cell.type default cell.typed in
        let same : cell.value ≡ value = same_Some cell.value value (sym cell.cell ∙ here) in
        subst (λ t. FitsColumn t value) (sym type) (subst (λ v. FitsColumn cell.type v) same cell.fits)

    pub kept-printed : (default : AttrType) (value : Value) → cell_at rows place column ≡ Some value
        → IsPrintedAt seen.definition seen.rows place column (printed (get_or types column default).base value)
    kept-printed default value here =
        let of_column = item-at (shape_of d) column (omega (arith, length-types, column_low)) in
        let typed : slice_get types column ≡ Some (cell_type of_column.0) =
        ap (λ ts. slice_get ts column) version.types_are ∙ slice_get-map cell_type (shape_of d) column
        ∙ ap (option_map cell_type) of_column.1 in
        let type = get_or_from_slice_get types column (cell_type of_column.0) default typed in
        let at : IsPrintedAt d rows place column (printed (get_or types column default).base value) =
        record {
          of_column = of_column.0;
          value = value;
          column_is = of_column.1;
          value_is = here;
          text_is = ap (λ (t : AttrType). printed t.base value) type;
        } in
        subst (λ (v : Contents). IsPrintedAt v.definition v.rows place column (printed (get_or types column default).base value)) is at
