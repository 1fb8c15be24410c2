-- Keys that aren't below a limit, row by row.
use Rattle.std.proofs.Common.{◌≡◌, ◌<◌, ◌≤◌, ◌+◌, ◌∙◌, [], ℕ, List, Option, Some, inl, inr, sym, ap, arith, get_or, length, option_map, slice_get}
use Rattle.std.specs.Prelude.{All}
use Rattle.std.proofs.lemmas.Bool.{cases_lt}
use Rattle.std.proofs.lemmas.Option.{same_Some, slice_get-get_or, slice_get-map, slice_get_within}
use Rattle.dict_value.specs.declared.value.Value.{Value}
use Rattle.dict_version.proofs.RowCells.{cell-of_row}
use Rattle.dict_version.specs.Keys.{key_number, numbers_of}
use Rattle.load_core.proofs.Lists.{All-from_slice_get}
use Rattle.packed_rows.specs.Columns.{RowList, cell_at}

-- the key of the row at a place
pub key-here : (rows : RowList) (place key : ℕ) (cell : Option Value) → place < length rows → cell ≡ cell_at rows place 0 → key ≡ key_number cell → slice_get (numbers_of rows) place ≡ Some key
key-here rows place key cell within is same =
    let row : List Value = get_or rows place [] in
    let at : slice_get rows place ≡ Some row = slice_get-get_or rows place [] within in
    slice_get-map (λ (r : List Value). key_number (slice_get r 0)) rows place ∙ ap (option_map (λ (r : List Value). key_number (slice_get r 0))) at
    ∙ ap Some (sym (same ∙ ap key_number (is ∙ cell-of_row rows place 0 row at)))

-- the keys before a place are below the limit
abbrev pub AreBelow : RowList → ℕ → ℕ → Type 0
AreBelow rows limit place =
    (earlier other : ℕ) → earlier < place → slice_get (numbers_of rows) earlier ≡ Some other → other < limit

pub below-more : (rows : RowList) (limit place key : ℕ) → AreBelow rows limit place → slice_get (numbers_of rows) place ≡ Some key → key < limit → AreBelow rows limit (place + 1)
below-more rows limit place key below here low earlier other less at = elim (cases_lt earlier place) [
  | inl before ↦ below earlier other before at
  | inr most ↦
      let same : place ≡ earlier = omega (arith, less, most) in
      let one : key ≡ other = same_Some key other (sym here ∙ ap (slice_get (numbers_of rows)) same ∙ at) in
      omega (arith, low, one)
]

pub below-all : (rows : RowList) (limit place : ℕ) → AreBelow rows limit place → length (numbers_of rows) ≤ place → All (λ number. number < limit) (numbers_of rows)
below-all rows limit place below whole = All-from_slice_get (λ number. number < limit) (numbers_of rows) (λ k x at. below k x (let h = slice_get_within (numbers_of rows) k x at in omega (arith, h, whole)) at)
