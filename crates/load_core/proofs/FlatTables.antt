-- The first large key of rows.
use Rattle.std.proofs.Common.{◌≡◌, ℕ, ◌+◌, ◌<◌, ◌≤◌, zero, suc, List, [], ◌∷◌, ◌++◌, length, get_or, take, drop, refl, arith, Some, sym, ◌∙◌, ap, subst, add-one, drop-cons}
use Rattle.std.specs.List.{AllByRecursion}
use Rattle.std.proofs.lemmas.List.{take-append-drop, take_more}
use Rattle.dict_value.proofs.Cuts.{AllByRecursion-append}
use Rattle.std.specs.Prelude.{slice_get}
use Rattle.std.proofs.lemmas.Option.{none-some}
use Rattle.dict_value.specs.declared.value.Value.{Value}
use Rattle.dict_value.specs.declared.value.Value.TheVariants.{U}
use Rattle.packed_rows.specs.Columns.{cell_at, cell_of}
use Rattle.load_core.specs.steps.FlatSteps.{IsSmallCell}
use Rattle.load_core.specs.FlatRows.{HasFirstKey, HasSmallKey, IsFirstLarge, key_bound}

-- one more row with a small key
pub small-more : (rows : List (List Value)) (i : ℕ) (row : List Value) → i < length rows → row ≡ get_or rows i row → AllByRecursion HasSmallKey (take i rows) → HasSmallKey row → AllByRecursion HasSmallKey (take (i + 1) rows)
small-more rows i row within here small last =
    subst (AllByRecursion HasSmallKey) (sym (take_more rows i row within ∙ ap (λ z. take i rows ++ z ∷ []) (sym here)))
    (AllByRecursion-append HasSmallKey (take i rows) (row ∷ []) small (last, tt))

-- the first row of a list that has a large key
pub first-large : (rows : List (List Value)) (i key : ℕ) (row : List Value) → i < length rows → row ≡ get_or rows i row → AllByRecursion HasSmallKey (take i rows) → HasFirstKey row key → key_bound ≤ key → IsFirstLarge rows key
first-large rows i key row within here small has large = record {
  before = take i rows;
  row = row;
  after = drop (i + 1) rows;
  parts = sym (take-append-drop i rows) ∙ ap (λ z. take i rows ++ z) (drop-cons rows i row within ∙ ap (λ z. z ∷ drop (suc i) rows) (sym here) ∙ ap (λ z. row ∷ drop z rows) (sym (add-one i)));
  small = small;
  here = has;
  large = large;
}

-- the row at a place, by its first value
row-there : (rows : List (List Value)) (i : ℕ) → i < length rows → (row : List Value) × (slice_get rows i ≡ Some row) × ((d : List Value) → get_or rows i d ≡ row)
row-there [] i below = absurd (omega arith)
row-there (row ∷ rows) zero below = (row, refl, λ d. refl)
row-there (row ∷ rows) (suc i) below = row-there rows i (omega arith)

first-value : (row : List Value) (v : Value) → slice_get row 0 ≡ Some v → (values : List Value) × (row ≡ v ∷ values)
first-value [] v is = absurd (none-some v is)
first-value (w ∷ row) v is = let same : w ≡ v = cc in (row, ap (λ k. k ∷ row) same)

-- no row up to here has a large key
pub cell-small : (rows : List (List Value)) (i : ℕ) → i < length rows → AllByRecursion HasSmallKey (take i rows) → IsSmallCell (cell_at rows i 0) → AllByRecursion HasSmallKey (take (i + 1) rows)
cell-small rows i within small cell =
    let row = row-there rows i within in
    small-more rows i row.0 within (sym (row.2 row.0)) small
    (λ key has. cell key (ap (λ o. cell_of o 0) row.1 ∙ ap (λ (r : List Value). slice_get r 0) has.1))

-- the row at a place has the first large key
pub cell-large : (rows : List (List Value)) (i key : ℕ) → i < length rows → AllByRecursion HasSmallKey (take i rows) → cell_at rows i 0 ≡ Some (U key) → key_bound ≤ key → IsFirstLarge rows key
cell-large rows i key within small cell large =
    let row = row-there rows i within in
    first-large rows i key row.0 within (sym (row.2 row.0)) small (first-value row.0 (U key) (sym (ap (λ o. cell_of o 0) row.1) ∙ cell)) large
