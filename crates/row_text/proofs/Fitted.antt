-- Rows of values that fit the types of their columns.
use Rattle.std.proofs.Common.{◌≡◌, ◌<◌, ◌≤◌, ◌+◌, ◌∷◌, ◌++◌, ◌∙◌, [], ℕ, zero, suc, List, true, length, take, map, Some, Ok, refl, sym, ap, subst, arith}
use Rattle.std.specs.Prelude.{get_or, slice_get}
use Rattle.std.specs.List.{AllZip}
use Rattle.std.specs.Option.{unwrap_or}
use Rattle.std.proofs.lemmas.List.{length-take-le, take_all, take_more}
use Rattle.std.proofs.lemmas.Option.{none-some, slice_get_read, slice_get_within, unwrap_or-slice_get}
use Rattle.dict_value.specs.declared.value.AttrType.{AttrType}
use Rattle.dict_value.specs.declared.value.Field.{Field}
use Rattle.dict_value.specs.declared.value.Format.{Format}
use Rattle.dict_value.specs.declared.value.ColType.TheVariants as type
use Rattle.dict_value.specs.declared.value.Value.{Value}
use Rattle.dict_value.specs.declared.value.Value.TheVariants.{Null}
use Rattle.dict_value.specs.Values.{FitsColumn}
use Rattle.row_text.specs.Decoding.{IsTypedRow, Reader, readings}
use Rattle.row_text.specs.Fitting.{AllFit, ReadsFitting}

pub same-some : {A : Type 0} (x y : A) → Some x ≡ Some y → x ≡ y
same-some x y is = cc

-- the elements at one place
pub zip-at : {A B : Type 0} (R : A → B → Type 0) (xs : List A) (ys : List B) (i : ℕ) (x : A) (y : B) → AllZip R xs ys → slice_get xs i ≡ Some x → slice_get ys i ≡ Some y → R x y
zip-at R [] ys i x y all at there = absurd (none-some x at)
zip-at R (x ∷ xs) [] i u v all at there = absurd all
zip-at R (x ∷ xs) (y ∷ ys) zero u v all at there = subst (λ k. R k v) (same-some x u at) (subst (λ k. R x k) (same-some y v there) all.0)
zip-at R (x ∷ xs) (y ∷ ys) (suc i) u v all at there = zip-at R xs ys i u v all.1 at there

pub zip-length : {A B : Type 0} (R : A → B → Type 0) (xs : List A) (ys : List B) → AllZip R xs ys → length xs ≡ length ys
zip-length R [] [] all = refl
zip-length R [] (y ∷ ys) all = absurd all
zip-length R (x ∷ xs) [] all = absurd all
zip-length R (x ∷ xs) (y ∷ ys) all = omega (arith, zip-length R xs ys all.1)

-- what columns make of fields fits their types
pub readings-fit : (columns : List Reader) (types : List AttrType) (fields : List Field) (row : List Value) → AllFit columns types → length fields ≡ length columns → readings columns fields ≡ map Ok row
    → AllZip FitsColumn types row
readings-fit [] [] [] [] all count are = tt
readings-fit [] [] [] (v ∷ row) all count are = cc are
readings-fit [] [] (f ∷ fields) row all count are = absurd (omega (arith, count))
readings-fit [] (t ∷ types) fields row all count are = absurd all
readings-fit (c ∷ columns) [] fields row all count are = absurd all
readings-fit (c ∷ columns) (t ∷ types) [] row all count are = absurd (omega (arith, count))
readings-fit (c ∷ columns) (t ∷ types) (f ∷ fields) [] all count are = cc are
readings-fit (c ∷ columns) (t ∷ types) (f ∷ fields) (v ∷ row) all count are =
    let first : c f ≡ Ok v = cc in
    let rest : readings columns fields ≡ map Ok row = cc in
    (all.0 f v first, readings-fit columns types fields row all.1 (omega (arith, count)) rest)

pub typed-fits : (format : Format) (columns : List Reader) (types : List AttrType) (line : List ℕ) (row : List Value) → AllFit columns types → IsTypedRow format columns line row → AllZip FitsColumn types row
typed-fits format columns types line row all typed = readings-fit columns types typed.0 row all typed.1.1 typed.2

-- a column at each place
pub column-at : {A : Type 0} (xs : List A) (i : ℕ) → i < length xs → (x : A) × (slice_get xs i ≡ Some x)
column-at [] i below = absurd (omega arith)
column-at (x ∷ xs) zero below = (x, refl)
column-at (x ∷ xs) (suc i) below = column-at xs i (omega arith)

-- the value that the column at a place reads fits the type there
pub value-fits : (columns : List Reader) (types : List AttrType) (i : ℕ) (t : AttrType) (field : Field) (v : Value) → AllFit columns types → i < length columns
    → ((column : Reader) → slice_get columns i ≡ Some column → column field ≡ Ok v) → slice_get types i ≡ Some t → FitsColumn t v
value-fits columns types i t field v all below reads there =
    let column = column-at columns i below in
    zip-at ReadsFitting columns types i column.0 t all column.1 there field v (reads column.0 column.1)

-- one field more is read
pub readings-more : (columns : List Reader) (fields : List Field) (row : List Value) (field : Field) (v : Value) → readings (take (length row) columns) fields ≡ map Ok row → length fields ≡ length row
    → length row < length columns → ((column : Reader) → slice_get columns (length row) ≡ Some column → column field ≡ Ok v)
    → readings (take (length (row ++ v ∷ [])) columns) (fields ++ field ∷ []) ≡ map Ok (row ++ v ∷ [])
readings-more [] fields row field v are count below reads = absurd (omega arith)
readings-more (c ∷ columns) [] [] field v are count below reads = ap (λ r. r ∷ []) (reads c refl)
readings-more (c ∷ columns) [] (w ∷ row) field v are count below reads = absurd (omega (arith, count))
readings-more (c ∷ columns) (f ∷ fields) [] field v are count below reads = absurd (omega (arith, count))
readings-more (c ∷ columns) (f ∷ fields) (w ∷ row) field v are count below reads =
    let first : c f ≡ Ok w = cc in
    let rest : readings (take (length row) columns) fields ≡ map Ok row = cc in
    let more = readings-more columns fields row field v rest (omega (arith, count)) (omega arith) reads in
    λ j. first j ∷ more j

-- a row that is pushed value by value

pub row-room : (types now : List AttrType) (row items open_row : List Value) (i : ℕ) → AllZip FitsColumn types row → now ≡ types → items ≡ row → open_row ≡ take i items → i < length items
    → length open_row < length now
row-room types now row items open_row i all is are opened below =
    omega (arith, ap (λ (ts : List AttrType). length ts) is, ap (λ (vs : List Value). length vs) are, ap (λ (vs : List Value). length vs) opened, length-take-le i items (omega arith), zip-length FitsColumn types row all)

pub row-fits : (types now : List AttrType) (row items open_row : List Value) (i : ℕ) (v : Value) → AllZip FitsColumn types row → now ≡ types → items ≡ row → open_row ≡ take i items → i < length items
    → v ≡ get_or items i v → (t : AttrType) → slice_get now (length open_row) ≡ Some t → FitsColumn t v
row-fits types now row items open_row i v all is are opened below here t there =
    let at : length open_row ≡ i = omega (arith, ap (λ (vs : List Value). length vs) opened, length-take-le i items (omega arith)) in
    zip-at FitsColumn types row i t v all ((λ j. slice_get (sym is j) (sym at j)) ∙ there)
    (ap (λ (vs : List Value). slice_get vs i) (sym are) ∙ slice_get_read items (length items) i v refl below here)

pub row-whole : (types now : List AttrType) (row items open_row : List Value) (i : ℕ) → AllZip FitsColumn types row → now ≡ types → items ≡ row → open_row ≡ take i items → length items ≤ i
    → length open_row ≡ length now
row-whole types now row items open_row i all is are opened past =
    omega (arith, ap (λ (ts : List AttrType). length ts) is, ap (λ (vs : List Value). length vs) are, ap (λ (vs : List Value). length vs) (opened ∙ take_all i items past), zip-length FitsColumn types row all)

-- one element more of a list
pub take-next : {A : Type 0} (xs : List A) (i : ℕ) (x : A) → slice_get xs i ≡ Some x → take (i + 1) xs ≡ take i xs ++ x ∷ []
take-next xs i x here =
    take_more xs i x (slice_get_within xs i x here)
    ∙ ap (λ y. take i xs ++ y ∷ []) (sym (unwrap_or-slice_get xs i x) ∙ ap (λ o. unwrap_or o x) here)

-- a column that makes Null of every field fits a nullable type
pub null-fits : AllFit ((λ field. Ok Null) ∷ []) (record { base = type.UInt8; nullable = true } ∷ [])
null-fits = (
  λ field v is. let same : Null ≡ v = cc in subst (λ (w : Value). FitsColumn (record { base = type.UInt8; nullable = true }) w) same refl,
  tt,
)
