-- How the packs of rows grow by a value, by the end of a row, and shrink by an open row.
use Rattle.std.proofs.Common.{◌≡◌, ◌<◌, ◌≤◌, ◌+◌, ◌∷◌, ◌++◌, ◌∙◌, [], Bool, true, false, ℕ, zero, suc, List, length, take, Some, if◌then◌else◌, refl, sym, ap, arith, inl, inr}
use Rattle.std.specs.Prelude.{slice_get, ◌⊎◌}
use Rattle.std.proofs.lemmas.List.{append_assoc, append-nil, length-append, take_all, take-append-le}
use Rattle.std.proofs.lemmas.List.Concat.{flat_map-cons}
use Rattle.std.proofs.lemmas.Grind.{flat_map-append}
use Rattle.std.proofs.lemmas.Option.{none-some, slice_get_past}
use Rattle.dict_value.specs.declared.value.ColType.{ColType}
use Rattle.dict_value.specs.declared.value.Value.{Value}
use Rattle.packed_rows.specs.declared.column.Column.{Column}
use Rattle.packed_rows.specs.Widths.{kept, cell_width}
use Rattle.packed_rows.specs.Columns.{grow_at, grown, is_null, number_of, text_of_value}
use Rattle.packed_rows.specs.Packs.{AreColumnsOf, IsColumnOf, cell_bytes, column_bytes, column_nulls, null_bits, text_of_rows, texts_of}

pub get-front : {A : Type 0} (xs ys : List A) (i : ℕ) → i < length xs → slice_get (xs ++ ys) i ≡ slice_get xs i
get-front [] ys i below = absurd (omega arith)
get-front (x ∷ xs) ys zero below = refl
get-front (x ∷ xs) ys (suc i) below = get-front xs ys i (omega arith)

pub get-last : {A : Type 0} (xs : List A) (y : A) (i : ℕ) → length xs ≡ i → slice_get (xs ++ y ∷ []) i ≡ Some y
get-last [] y zero is = refl
get-last [] y (suc i) is = absurd (omega arith)
get-last (x ∷ xs) y zero is = absurd (omega arith)
get-last (x ∷ xs) y (suc i) is = get-last xs y i (omega arith)

-- one value more, in texts
pub texts-more : (row : List Value) (v : Value) → texts_of (row ++ v ∷ []) ≡ texts_of row ++ text_of_value v
texts-more row v = flat_map-append text_of_value row (v ∷ []) ∙ ap (λ (t : List ℕ). texts_of row ++ t) (flat_map-cons text_of_value v [] ∙ append-nil (text_of_value v))

pub text-more : (rows : List (List Value)) (row : List Value) → text_of_rows (rows ++ row ∷ []) ≡ text_of_rows rows ++ texts_of row
text-more rows row = flat_map-append texts_of rows (row ∷ []) ∙ ap (λ (t : List ℕ). text_of_rows rows ++ t) (flat_map-cons texts_of row [] ∙ append-nil (texts_of row))

-- where the text of a value ends, given what stands before its row
end_after : ℕ → ℕ → List (List Value) → List Value → ℕ
end_after k start rows row = start + length (text_of_rows rows) + length (texts_of (take (suc k) row))

-- the bytes of a row more
bytes-more : (t : ColType) (k start : ℕ) (rows : List (List Value)) (row : List Value)
    → column_bytes t k start (rows ++ row ∷ []) ≡ column_bytes t k start rows ++ cell_bytes t (end_after k start rows row) (slice_get row k)
unfolding end_after
bytes-more t k start [] row =
    append-nil (cell_bytes t (start + length (texts_of (take (suc k) row))) (slice_get row k))
    ∙ ap (λ n. cell_bytes t n (slice_get row k)) (omega arith)
bytes-more t k start (r ∷ rows) row =
    let first = cell_bytes t (start + length (texts_of (take (suc k) r))) (slice_get r k) in
    let next = start + length (texts_of r) in
    let at : next + length (text_of_rows rows) + length (texts_of (take (suc k) row)) ≡ start + length (text_of_rows (r ∷ rows)) + length (texts_of (take (suc k) row))
    = omega (arith, ap (λ (t : List ℕ). length t) (flat_map-cons texts_of r rows), length-append (texts_of r) (text_of_rows rows)) in
    ap (λ (bs : List ℕ). first ++ bs) (bytes-more t k next rows row)
    ∙ (sym (append_assoc first (column_bytes t k next rows) (cell_bytes t (next + length (text_of_rows rows) + length (texts_of (take (suc k) row))) (slice_get row k)))
    ∙ ap (λ n. (first ++ column_bytes t k next rows) ++ cell_bytes t n (slice_get row k)) at)

nulls-more : (k : ℕ) (rows : List (List Value)) (row : List Value) → column_nulls k (rows ++ row ∷ []) ≡ column_nulls k rows ++ null_bits (slice_get row k)
nulls-more k rows row =
    let f = λ (r : List Value). null_bits (slice_get r k) in
    flat_map-append f rows (row ∷ []) ∙ ap (λ (bs : List Bool). column_nulls k rows ++ bs) (flat_map-cons f row [] ∙ append-nil (f row))

-- a value more of the open row, seen from another column

other-bytes : (t : ColType) (k start : ℕ) (rows : List (List Value)) (row : List Value) (v : Value) → (k < length row) ⊎ (length row < k)
    → cell_bytes t (end_after k start rows (row ++ v ∷ [])) (slice_get (row ++ v ∷ []) k) ≡ cell_bytes t (end_after k start rows row) (slice_get row k)
unfolding end_after
other-bytes t k start rows row v apart = elim apart as (λ _. cell_bytes t (start + length (text_of_rows rows) + length (texts_of (take (suc k) (row ++ v ∷ [])))) (slice_get (row ++ v ∷ []) k) ≡ cell_bytes t (start + length (text_of_rows rows) + length (texts_of (take (suc k) row))) (slice_get row k)) [
  | inl before ↦
      let front = take-append-le (suc k) row (v ∷ []) (omega arith) in
      let here = get-front row (v ∷ []) k before in
      λ j. cell_bytes t (start + length (text_of_rows rows) + length (texts_of (front j))) (here j)
  | inr behind ↦
      ap (λ o. cell_bytes t (start + length (text_of_rows rows) + length (texts_of (take (suc k) (row ++ v ∷ [])))) o) (slice_get_past (row ++ v ∷ []) k (omega (arith, length-append row (v ∷ []))))
      ∙ sym (ap (λ o. cell_bytes t (start + length (text_of_rows rows) + length (texts_of (take (suc k) row))) o) (slice_get_past row k (omega arith)))
]

other-nulls : (k : ℕ) (row : List Value) (v : Value) → (k < length row) ⊎ (length row < k) → null_bits (slice_get (row ++ v ∷ []) k) ≡ null_bits (slice_get row k)
other-nulls k row v apart = elim apart as (λ _. null_bits (slice_get (row ++ v ∷ []) k) ≡ null_bits (slice_get row k)) [
  | inl before ↦ ap null_bits (get-front row (v ∷ []) k before)
  | inr behind ↦ ap null_bits (slice_get_past (row ++ v ∷ []) k (omega (arith, length-append row (v ∷ [])))) ∙ sym (ap null_bits (slice_get_past row k (omega arith)))
]

other-column : (c : Column) (k : ℕ) (rows : List (List Value)) (row : List Value) (v : Value) → (k < length row) ⊎ (length row < k)
    → IsColumnOf c k (rows ++ row ∷ []) → IsColumnOf c k (rows ++ (row ++ v ∷ []) ∷ [])
other-column c k rows row v apart is = record {
  cells = is.cells ∙ (bytes-more c.ty.base k 0 rows row
      ∙ (ap (λ (bs : List ℕ). column_bytes c.ty.base k 0 rows ++ bs) (sym (other-bytes c.ty.base k 0 rows row v apart))
      ∙ sym (bytes-more c.ty.base k 0 rows (row ++ v ∷ []))));
  nulls = is.nulls ∙ ap (λ (bs : List Bool). if c.ty.nullable then bs else [])
      (nulls-more k rows row ∙ (ap (λ (bs : List Bool). column_nulls k rows ++ bs) (sym (other-nulls k row v apart)) ∙ sym (nulls-more k rows (row ++ v ∷ []))));
}

-- a value more of the open row, in its own column

own-nulls : (nullable : Bool) (nulls old : List Bool) (b : Bool) → nulls ≡ (if nullable then old else [])
    → (if nullable then nulls ++ b ∷ [] else nulls) ≡ (if nullable then old ++ b ∷ [] else [])
own-nulls true nulls old b is = ap (λ (bs : List Bool). bs ++ b ∷ []) is
own-nulls false nulls old b is = is

own-column : (c : Column) (k x : ℕ) (b : Bool) (rows : List (List Value)) (row : List Value) (v : Value) → length row ≡ k
    → x ≡ number_of c.ty.base (length (text_of_rows rows) + length (texts_of (row ++ v ∷ []))) v → b ≡ is_null v
    → IsColumnOf c k (rows ++ row ∷ []) → IsColumnOf (grown c x b) k (rows ++ (row ++ v ∷ []) ∷ [])
unfolding end_after
own-column c k x b rows row v here x_is b_is is =
    let t = c.ty.base in
    let whole : texts_of (take (suc k) (row ++ v ∷ [])) ≡ texts_of (row ++ v ∷ []) =
    ap texts_of (take_all (suc k) (row ++ v ∷ []) (omega (arith, length-append row (v ∷ []), here))) in
    let at : 0 + length (text_of_rows rows) + length (texts_of (take (suc k) (row ++ v ∷ []))) ≡ length (text_of_rows rows) + length (texts_of (row ++ v ∷ [])) =
    omega (arith, ap (λ (t : List ℕ). length t) whole) in
    let last = get-last row v k here in
    let none = slice_get_past row k (omega arith) in
    let before : c.cells ≡ column_bytes t k 0 rows =
    is.cells ∙ (bytes-more t k 0 rows row ∙ (ap (λ o. column_bytes t k 0 rows ++ cell_bytes t (end_after k 0 rows row) o) none ∙ append-nil (column_bytes t k 0 rows))) in
    let bits : column_nulls k (rows ++ row ∷ []) ≡ column_nulls k rows =
    nulls-more k rows row ∙ (ap (λ o. column_nulls k rows ++ null_bits o) none ∙ append-nil (column_nulls k rows)) in
    record {
      cells = (λ j. before j ++ kept (cell_width t) (x_is j))
          ∙ ((λ j. column_bytes t k 0 rows ++ cell_bytes t (sym at j) (sym last j)) ∙ sym (bytes-more t k 0 rows (row ++ v ∷ [])));
      nulls = own-nulls c.ty.nullable c.nulls (column_nulls k rows) b (is.nulls ∙ ap (λ (bs : List Bool). if c.ty.nullable then bs else []) bits)
          ∙ ap (λ (bs : List Bool). if c.ty.nullable then bs else [])
          ((λ j. column_nulls k rows ++ b_is j ∷ []) ∙ (ap (λ o. column_nulls k rows ++ null_bits o) (sym last) ∙ sym (nulls-more k rows (row ++ v ∷ []))));
    }

columns-past : (cs : List Column) (k : ℕ) (rows : List (List Value)) (row : List Value) (v : Value) → length row < k
    → AreColumnsOf cs k (rows ++ row ∷ []) → AreColumnsOf cs k (rows ++ (row ++ v ∷ []) ∷ [])
columns-past [] k rows row v past are = tt
columns-past (c ∷ cs) k rows row v past are = (other-column c k rows row v (inr past) are.0, columns-past cs (suc k) rows row v (omega arith) are.1)

pub columns-grown : (cs : List Column) (k place x : ℕ) (b : Bool) (rows : List (List Value)) (row : List Value) (v : Value) (c : Column) → slice_get cs place ≡ Some c
    → length row ≡ k + place → x ≡ number_of c.ty.base (length (text_of_rows rows) + length (texts_of (row ++ v ∷ []))) v → b ≡ is_null v
    → AreColumnsOf cs k (rows ++ row ∷ []) → AreColumnsOf (grow_at cs place x b) k (rows ++ (row ++ v ∷ []) ∷ [])
columns-grown [] k place x b rows row v c here at x_is b_is are = absurd (none-some c here)
columns-grown (c ∷ cs) k zero x b rows row v d here at x_is b_is are =
    let same : c ≡ d = cc in (
      own-column c k x b rows row v (omega arith) (x_is ∙ ap (λ (e : Column). number_of e.ty.base (length (text_of_rows rows) + length (texts_of (row ++ v ∷ []))) v) (sym same)) b_is are.0,
      columns-past cs (suc k) rows row v (omega arith) are.1,
    )
columns-grown (c ∷ cs) k (suc place) x b rows row v d here at x_is b_is are =
    (other-column c k rows row v (inl (omega arith)) are.0, columns-grown cs (suc k) place x b rows row v d here (omega arith) x_is b_is are.1)

-- the end of a row: the next one has no value yet

pub ended-column : (c : Column) (k : ℕ) (rows : List (List Value)) → IsColumnOf c k rows → IsColumnOf c k (rows ++ [] ∷ [])
ended-column c k rows is = record {
  cells = is.cells ∙ sym (bytes-more c.ty.base k 0 rows [] ∙ append-nil (column_bytes c.ty.base k 0 rows));
  nulls = is.nulls ∙ ap (λ (bs : List Bool). if c.ty.nullable then bs else []) (sym (nulls-more k rows [] ∙ append-nil (column_nulls k rows)));
}

pub columns-ended : (cs : List Column) (k : ℕ) (rows : List (List Value)) → AreColumnsOf cs k rows → AreColumnsOf cs k (rows ++ [] ∷ [])
columns-ended [] k rows are = tt
columns-ended (c ∷ cs) k rows are = (ended-column c k rows are.0, columns-ended cs (suc k) rows are.1)

-- the columns have the rows alone, where no value is open

begun-column : (c : Column) (k : ℕ) (rows : List (List Value)) → IsColumnOf c k (rows ++ [] ∷ []) → IsColumnOf c k rows
begun-column c k rows is = record {
  cells = is.cells ∙ (bytes-more c.ty.base k 0 rows [] ∙ append-nil (column_bytes c.ty.base k 0 rows));
  nulls = is.nulls ∙ ap (λ (bs : List Bool). if c.ty.nullable then bs else []) (nulls-more k rows [] ∙ append-nil (column_nulls k rows));
}

pub columns-begun : (cs : List Column) (k : ℕ) (rows : List (List Value)) → AreColumnsOf cs k (rows ++ [] ∷ []) → AreColumnsOf cs k rows
columns-begun [] k rows are = tt
columns-begun (c ∷ cs) k rows are = (begun-column c k rows are.0, columns-begun cs (suc k) rows are.1)

-- what a column has of the rows before an open one

known : (row : List Value) (k : ℕ) → k < length row → (v : Value) × (slice_get row k ≡ Some v)
known [] k below = absurd (omega arith)
known (v ∷ row) zero below = (v, refl)
known (v ∷ row) (suc k) below = known row k (omega arith)

pub open-cells : (c : Column) (k : ℕ) (rows : List (List Value)) (row : List Value) → k < length row → IsColumnOf c k (rows ++ row ∷ [])
    → (x : ℕ) × (c.cells ≡ column_bytes c.ty.base k 0 rows ++ kept (cell_width c.ty.base) x)
open-cells c k rows row below is =
    let value = known row k below in
    let end = end_after k 0 rows row in
    (number_of c.ty.base end value.0, is.cells ∙ (bytes-more c.ty.base k 0 rows row ∙ ap (λ o. column_bytes c.ty.base k 0 rows ++ cell_bytes c.ty.base end o) value.1))

pub open-nulls : (c : Column) (k : ℕ) (rows : List (List Value)) (row : List Value) → k < length row → IsColumnOf c k (rows ++ row ∷ [])
    → (b : Bool) × (c.nulls ≡ (if c.ty.nullable then column_nulls k rows ++ b ∷ [] else []))
open-nulls c k rows row below is =
    let value = known row k below in
    (is_null value.0, is.nulls ∙ ap (λ (bs : List Bool). if c.ty.nullable then bs else []) (nulls-more k rows row ∙ ap (λ o. column_nulls k rows ++ null_bits o) value.1))

pub begun-cells : (c : Column) (k : ℕ) (rows : List (List Value)) (row : List Value) → length row ≤ k → IsColumnOf c k (rows ++ row ∷ []) → c.cells ≡ column_bytes c.ty.base k 0 rows
begun-cells c k rows row past is =
    is.cells ∙ (bytes-more c.ty.base k 0 rows row
    ∙ (ap (λ o. column_bytes c.ty.base k 0 rows ++ cell_bytes c.ty.base (end_after k 0 rows row) o) (slice_get_past row k past) ∙ append-nil (column_bytes c.ty.base k 0 rows)))

pub begun-nulls : (c : Column) (k : ℕ) (rows : List (List Value)) (row : List Value) → length row ≤ k → IsColumnOf c k (rows ++ row ∷ [])
    → c.nulls ≡ (if c.ty.nullable then column_nulls k rows else [])
begun-nulls c k rows row past is =
    is.nulls ∙ ap (λ (bs : List Bool). if c.ty.nullable then bs else [])
    (nulls-more k rows row ∙ (ap (λ o. column_nulls k rows ++ null_bits o) (slice_get_past row k past) ∙ append-nil (column_nulls k rows)))
