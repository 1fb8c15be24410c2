-- What a column makes of a text where it lies.
use Rattle.std.proofs.Common.{◌≡◌, ◌<◌, ◌≤◌, ◌^◌, ◌∷◌, ◌∙◌, ◌==◌, [], true, false, ℕ, List, Some, Ok, length, refl, sym, ap, arith}
use Rattle.std.specs.Prelude.{slice_get}
use Rattle.std.specs.Option.{option_map}
use Rattle.std.specs.Char.{digit_value, is_ascii_digit}
use Rattle.std.specs.Str.{all_ascii_digits}
use Rattle.std.specs.Str.Parse.{AllDigits, digits_value, without_leading_plus}
use Rattle.std.proofs.lemmas.Bool.{le-leb, lt-ltb, ne_eqb}
use Rattle.std.proofs.lemmas.Option.{slice_get-map}
use Rattle.std.proofs.lemmas.Str.Parse.{digit_from_value}
use Rattle.dict_schema.specs.declared.definition.ShapeColumn.{ShapeColumn}
use Rattle.dict_value.specs.Digits.{IsDigits}
use Rattle.dict_value.specs.Numbers.{below, number_in, unsigned_in}
use Rattle.dict_value.specs.Values.{FitsColumn, text_reading}
use Rattle.dict_value.specs.declared.value.ColType.{ColType}
use Rattle.dict_value.specs.declared.value.ColType.TheVariants as type
use Rattle.dict_value.specs.declared.value.Format.{Format}
use Rattle.dict_value.specs.declared.value.Value.{Value}
use Rattle.dict_value.specs.declared.value.Value.TheVariants.{Null, U, I, S, Day, Second, Id, V4, V6, Dec}
use Rattle.row_text.specs.Decoding.{Reader}
use Rattle.row_text.specs.Fitting.{AllFit}
use Rattle.dict_schema.specs.Shapes.{cell_type, cell_types}
use Rattle.rows_typed.specs.Fits.{FitsRole, HasFittingDefaults, IsUnsigned}
use Rattle.rows_typed.specs.Shapes.{column_by, columns_of, seen_field}
use Rattle.rows_typed.proofs.RowsFit.{value-fits}

-- digits alone are a number of each unsigned type that holds it

first-digit : (c : ℕ) → digit_value c < 10 → is_ascii_digit c ≡ true
first-digit c is = let range = digit_from_value c is in rw (le-leb 48 c range.0, le-leb c 57 range.1) refl

digits-pass : (text : List ℕ) → AllDigits 10 text → all_ascii_digits text ≡ true
digits-pass [] each = refl
digits-pass (c ∷ text) each = rw (first-digit c each.0) (digits-pass text each.1)

no-plus : (c : ℕ) (text : List ℕ) → digit_value c < 10 → without_leading_plus (c ∷ text) ≡ c ∷ text
no-plus c text is =
    let range = digit_from_value c is in
    let other : (c == 43) ≡ false = ne_eqb c 43 (λ e. omega (arith, e, range.0)) in
    rw other refl

digits-unsigned : (text : List ℕ) → 0 < length text → AllDigits 10 text → unsigned_in text ≡ Some (digits_value 10 text)
digits-unsigned [] some each = absurd (omega arith)
digits-unsigned (c ∷ text) some each =
    ap (λ (t : List ℕ). number_in t) (no-plus c text each.0) ∙ rw (first-digit c each.0, digits-pass text each.1, lt-ltb 0 (length (c ∷ text)) (omega arith)) refl

below-is : (n bound : ℕ) → n < bound → below bound n ≡ Ok n
below-is n bound is = rw (lt-ltb n bound is) refl

pub digits-read : (base : ColType) (text : List ℕ) (n most : ℕ) → IsUnsigned base most → IsDigits text → n ≡ digits_value 10 text → n ≤ most → text_reading base text ≡ Ok (U n)
unfolding text_reading
digits-read type.UInt8 text n most unsigned digits is small =
    rw (digits-unsigned text digits.some digits.each, ← is, below-is n (2 ^ 8) (omega arith)) refl
digits-read type.UInt16 text n most unsigned digits is small =
    rw (digits-unsigned text digits.some digits.each, ← is, below-is n (2 ^ 16) (omega arith)) refl
digits-read type.UInt32 text n most unsigned digits is small =
    rw (digits-unsigned text digits.some digits.each, ← is, below-is n (2 ^ 32) (omega arith)) refl
digits-read type.UInt64 text n most unsigned digits is small =
    rw (digits-unsigned text digits.some digits.each, ← is, below-is n (2 ^ 64) (omega arith)) refl
digits-read t text n most unsigned digits is small = absurd unsigned

-- the column and the type at a place

pub type-read : (shape : List ShapeColumn) (i : ℕ) (column : ShapeColumn) → slice_get shape i ≡ Some column → slice_get (cell_types shape) i ≡ Some (cell_type column)
type-read shape i column here = slice_get-map cell_type shape i ∙ ap (λ o. option_map cell_type o) here

pub column-read : (format : Format) (shape : List ShapeColumn) (i : ℕ) (column : ShapeColumn) (reader : Reader) → slice_get shape i ≡ Some column → slice_get (columns_of format shape) i ≡ Some reader
    → column_by format column ≡ reader
column-read format shape i column reader here there =
    let is : Some (column_by format column) ≡ Some reader = sym (slice_get-map (column_by format) shape i ∙ ap (λ o. option_map (column_by format) o) here) ∙ there in
    cc

-- what the columns read fits their types

role-column : (column : ShapeColumn) (v : Value) → FitsRole column.role column.ty v → FitsColumn (cell_type column) v
role-column column Null fits = fits
role-column column (U n) fits = fits
role-column column (I n) fits = fits
role-column column (S n) fits = fits
role-column column (Day n) fits = fits
role-column column (Second n) fits = fits
role-column column (Id n) fits = fits
role-column column (V4 n) fits = fits
role-column column (V6 n) fits = fits
role-column column (Dec n) fits = fits

pub shape-fits : (format : Format) (shape : List ShapeColumn) → HasFittingDefaults shape → AllFit (columns_of format shape) (cell_types shape)
shape-fits format [] defaults = tt
shape-fits format (column ∷ shape) defaults =
    (λ field v is. role-column column v (value-fits column (seen_field format column.ty field) v defaults.0 is), shape-fits format shape defaults.1)
