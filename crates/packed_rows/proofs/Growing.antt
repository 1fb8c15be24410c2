-- What one more cell leaves as it was, and what it adds.
use Rattle.std.proofs.Common.{◌≡◌, ◌<◌, ◌≤◌, ◌+◌, ◌-◌, ◌*◌, ◌^◌, ◌∷◌, ◌++◌, ◌∙◌, ◌&&◌, [], Bool, true, false, ℕ, List, length, take, drop, if◌then◌else◌, refl, sym, ap, subst, arith, inl, inr}
use Rattle.std.specs.Prelude.{slice_index_or}
use Rattle.std.proofs.lemmas.List.{get_or_append_left, get_or-append-add, length-append, drop-append-le, take-append-le, length-drop}
use Rattle.std.proofs.Math.Seq.{drop-append_seam}
use Rattle.std.proofs.Math.Nat.{add-mul, mul-le-mul_right, pow-le-pow_right}
use Rattle.std.proofs.lemmas.List.{take_all}
use Rattle.std.proofs.lemmas.Bool.{cases_lt, false≢true, ltb-true}
use Rattle.std.proofs.lemmas.Int.{to_z-of_z}
use Rattle.std.specs.Int.{Width, w8, w16, w32, w64, w128, cast_unsigned}
use Rattle.std.specs.Prelude.{ℤ, pos, negsuc, unsigned_abs, min, IsTrue, FitsSigned}
use mir.Val.{bits, hbits}
use Rattle.std.proofs.Math.Facts.{Fits-of_z}
use Rattle.dict_value.specs.declared.value.AttrType.{AttrType}
use Rattle.dict_value.specs.declared.value.ColType.{ColType}
use Rattle.dict_value.specs.declared.value.ColType.TheVariants as type
use Rattle.dict_value.specs.declared.value.Value.{Value}
use Rattle.dict_value.specs.declared.value.Value.TheVariants.{U, I, S, Day, Second, Id, V4, V6, Dec, Null}
use Rattle.dict_value.specs.Values.{FitsColumn, HasType}
use Rattle.dict_value.specs.Numbers.{is_within}
use Rattle.packed_rows.specs.declared.column.Column.{Column}
use Rattle.packed_rows.specs.Widths.{width_bytes, limit_of, nat_at, kept, cell_width}
use Rattle.packed_rows.specs.Columns.{Holds, between, end_from, end_in, grown, is_null, is_text, null_in, number_of, signed_width, text_of_value, value_from, value_in}
use Rattle.packed_rows.proofs.Bytes.{length-kept, nat_at-append, nat_at-last}

-- texts

pub between-append : (start end : ℕ) (text more : List ℕ) → end ≤ length text → between start end (text ++ more) ≡ between start end text
between-append start end text more fits = elim (cases_lt (length text) start) as (λ _. between start end (text ++ more) ≡ between start end text) [
  | inl past ↦ let none : end - start ≡ 0 = omega arith in rw none refl
  | inr here ↦ ap (λ (xs : List ℕ). take (end - start) xs) (drop-append-le start text more here) ∙ take-append-le (end - start) (drop start text) more (omega (arith, length-drop start text))
]

pub between-last : (text more : List ℕ) → between (length text) (length (text ++ more)) (text ++ more) ≡ more
between-last text more =
    ap (λ (xs : List ℕ). take (length (text ++ more) - length text) xs) (drop-append_seam text more)
    ∙ take_all (length (text ++ more) - length text) more (omega (arith, length-append text more))

-- columns

nulls-grown : (nullable : Bool) (nulls : List Bool) (b : Bool) (i : ℕ) → (nullable ≡ true → i < length nulls)
    → (nullable && slice_index_or (if nullable then nulls ++ b ∷ [] else nulls) i false) ≡ (nullable && slice_index_or nulls i false)
nulls-grown false nulls b i within = refl
nulls-grown true nulls b i within = get_or_append_left nulls (b ∷ []) false i (within refl)

nulls-last : (nullable : Bool) (nulls : List Bool) (b : Bool) (i : ℕ) → (nullable ≡ true → length nulls ≡ i) → (b ≡ true → nullable ≡ true)
    → (nullable && slice_index_or (if nullable then nulls ++ b ∷ [] else nulls) i false) ≡ b
nulls-last true nulls b i is allowed = let at : length nulls + 0 ≡ i = omega (arith, is refl) in subst (λ n. slice_index_or (nulls ++ b ∷ []) n false ≡ b) at (get_or-append-add nulls (b ∷ []) 0 false)
nulls-last false nulls true i is allowed = absurd (false≢true (allowed refl))
nulls-last false nulls false i is allowed = refl

pub value_from-append : (t : ColType) (b : Bool) (start n : ℕ) (text more : List ℕ) → (is_text t ≡ true → n ≤ length text)
    → value_from t b start n (text ++ more) ≡ value_from t b start n text
value_from-append type.Str true start n text more fits = refl
value_from-append t true start n text more fits = refl
value_from-append type.Str false start n text more fits = ap S (between-append start n text more (fits refl))
value_from-append t false start n text more fits = refl

pub from-null : (t : ColType) (s n : ℕ) (text : List ℕ) → value_from t true s n text ≡ Null
from-null type.Str s n text = refl
from-null t s n text = refl

-- a column's values don't change where the text grows
pub value-text : (c : Column) (count i start : ℕ) (text more : List ℕ) → Holds c count (length text) → i < count
    → value_in c (text ++ more) i start ≡ value_in c text i start
unfolding value_in
value-text c count i start text more holds below =
    value_from-append c.ty.base (null_in c i) start (nat_at (cell_width c.ty.base) c.cells i) text more (holds.ends i below)

pub room-for : (i count w size : ℕ) → size ≡ count * w → i < count → (i + 1) * w ≤ size
room-for i count w size is below = rw is (mul-le-mul_right w (omega arith))

pub number-same : (c : Column) (count limit i n : ℕ) → Holds c count limit → i < count
    → nat_at (cell_width c.ty.base) (c.cells ++ kept (cell_width c.ty.base) n) i ≡ nat_at (cell_width c.ty.base) c.cells i
number-same c count limit i n holds below = nat_at-append (cell_width c.ty.base) c.cells (kept (cell_width c.ty.base) n) i (room-for i count (width_bytes (cell_width c.ty.base)) (length c.cells) holds.cells below)

null-same : (c : Column) (count limit i n : ℕ) (b : Bool) → Holds c count limit → i < count → null_in (grown c n b) i ≡ null_in c i
unfolding null_in
null-same c count limit i n b holds below = nulls-grown c.ty.nullable c.nulls b i (λ is. omega (arith, holds.nulls is))

pub value-grown : (c : Column) (count limit i n start : ℕ) (b : Bool) (text : List ℕ) → Holds c count limit → i < count
    → value_in (grown c n b) text i start ≡ value_in c text i start
unfolding value_in
value-grown c count limit i n start b text holds below =
    let null = null-same c count limit i n b holds below in
    let number = number-same c count limit i n holds below in
    λ j. value_from c.ty.base (null j) start (number j) text

pub end-grown : (c : Column) (count limit i n start : ℕ) (b : Bool) → Holds c count limit → i < count
    → end_in (grown c n b) i start ≡ end_in c i start
unfolding end_in
end-grown c count limit i n start b holds below = ap (λ m. end_from c.ty.base start m) (number-same c count limit i n holds below)

-- the cell that was added

fits-null : (ty : AttrType) (v : Value) → FitsColumn ty v → is_null v ≡ true → ty.nullable ≡ true
fits-null ty Null fits is = fits
fits-null ty (U n) fits is = absurd (false≢true is)
fits-null ty (I n) fits is = absurd (false≢true is)
fits-null ty (S n) fits is = absurd (false≢true is)
fits-null ty (Day n) fits is = absurd (false≢true is)
fits-null ty (Second n) fits is = absurd (false≢true is)
fits-null ty (Id n) fits is = absurd (false≢true is)
fits-null ty (V4 n) fits is = absurd (false≢true is)
fits-null ty (V6 n) fits is = absurd (false≢true is)
fits-null ty (Dec n) fits is = absurd (false≢true is)

-- a signed number of a type fits its width
within-fits : (w : Width) (z : ℤ) → IsTrue (is_within (2 ^ hbits w) z) → FitsSigned w z
within-fits w (pos n) is = record { sfits = ltb-true n (2 ^ hbits w) is }
within-fits w (negsuc n) is = record { sfits = ltb-true n (2 ^ hbits w) is }

pub signed-fits : (t : ColType) (z : ℤ) → HasType t (I z) → FitsSigned (signed_width t) z
signed-fits type.Int8 z is = within-fits w8 z is
signed-fits type.Int16 z is = within-fits w16 z is
signed-fits type.Int32 z is = within-fits w32 z is
signed-fits type.Int64 z is = within-fits w64 z is
signed-fits t z is = absurd is

-- the scaled number of a Decimal fits its width
ten-powers : (n : ℕ) → n ≤ 38 → 10 ^ n ≤ 10 ^ 38
ten-powers n most = pow-le-pow_right (omega arith) most

decimal-fits : (digits : ℕ) (z : ℤ) → unsigned_abs z < 10 ^ min digits 38 → FitsSigned w128 z
decimal-fits digits (pos n) is = record { sfits = omega (arith, is, ten-powers (min digits 38) (omega arith)) }
decimal-fits digits (negsuc n) is = record { sfits = omega (arith, is, ten-powers (min digits 38) (omega arith)) }

-- a signed number that fits is below the limit of its width
unsigned-below : (w : Width) (z : ℤ) → FitsSigned w z → cast_unsigned w z < 2 ^ bits w
unsigned-below w z fits = (Fits-of_z fits).fits

-- the number of a value that fits reads as the value
back : (t : ColType) (v : Value) (nullable : Bool) (end start : ℕ) (text : List ℕ) → FitsColumn (record { base = t; nullable = nullable }) v
    → end ≡ length (text ++ text_of_value v) → start ≡ length text
    → value_from t (is_null v) start (number_of t end v) (text ++ text_of_value v) ≡ v
back t Null nullable end start text fits at_end at_start = from-null t start (number_of t end Null) (text ++ [])
back type.UInt8 (U n) nullable end start text fits at_end at_start = refl
back type.UInt16 (U n) nullable end start text fits at_end at_start = refl
back type.UInt32 (U n) nullable end start text fits at_end at_start = refl
back type.UInt64 (U n) nullable end start text fits at_end at_start = refl
back t (U n) nullable end start text fits at_end at_start = absurd fits
back type.Int8 (I n) nullable end start text fits at_end at_start = ap I (to_z-of_z w8 n (signed-fits type.Int8 n fits))
back type.Int16 (I n) nullable end start text fits at_end at_start = ap I (to_z-of_z w16 n (signed-fits type.Int16 n fits))
back type.Int32 (I n) nullable end start text fits at_end at_start = ap I (to_z-of_z w32 n (signed-fits type.Int32 n fits))
back type.Int64 (I n) nullable end start text fits at_end at_start = ap I (to_z-of_z w64 n (signed-fits type.Int64 n fits))
back t (I n) nullable end start text fits at_end at_start = absurd fits
back type.Str (S more) nullable end start text fits at_end at_start = rw (at_end, at_start) (ap S (between-last text more))
back t (S more) nullable end start text fits at_end at_start = absurd fits
back type.Date (Day n) nullable end start text fits at_end at_start = refl
back t (Day n) nullable end start text fits at_end at_start = absurd fits
back type.DateTime (Second n) nullable end start text fits at_end at_start = refl
back t (Second n) nullable end start text fits at_end at_start = absurd fits
back type.Uuid (Id n) nullable end start text fits at_end at_start = refl
back t (Id n) nullable end start text fits at_end at_start = absurd fits
back type.Ipv4 (V4 n) nullable end start text fits at_end at_start = refl
back t (V4 n) nullable end start text fits at_end at_start = absurd fits
back type.Ipv6 (V6 n) nullable end start text fits at_end at_start = refl
back t (V6 n) nullable end start text fits at_end at_start = absurd fits
back (type.Decimal digits scale) (Dec n) nullable end start text fits at_end at_start = ap Dec (to_z-of_z w128 n (decimal-fits digits n fits))
back t (Dec n) nullable end start text fits at_end at_start = absurd fits

-- the number of a value that fits is below the limit of its width
pub number-fits : (t : ColType) (v : Value) (nullable : Bool) (end : ℕ) → FitsColumn (record { base = t; nullable = nullable }) v → end < 2 ^ 64
    → number_of t end v < limit_of (cell_width t)
unfolding limit_of
number-fits type.Str Null nullable end fits below = below
number-fits type.UInt8 Null nullable end fits below = omega arith
number-fits type.UInt16 Null nullable end fits below = omega arith
number-fits type.UInt32 Null nullable end fits below = omega arith
number-fits type.UInt64 Null nullable end fits below = omega arith
number-fits type.Int8 Null nullable end fits below = omega arith
number-fits type.Int16 Null nullable end fits below = omega arith
number-fits type.Int32 Null nullable end fits below = omega arith
number-fits type.Int64 Null nullable end fits below = omega arith
number-fits type.Date Null nullable end fits below = omega arith
number-fits type.DateTime Null nullable end fits below = omega arith
number-fits type.Uuid Null nullable end fits below = omega arith
number-fits type.Ipv4 Null nullable end fits below = omega arith
number-fits type.Ipv6 Null nullable end fits below = omega arith
number-fits (type.Decimal digits scale) Null nullable end fits below = omega arith
number-fits type.UInt8 (U n) nullable end fits below = fits
number-fits type.UInt16 (U n) nullable end fits below = fits
number-fits type.UInt32 (U n) nullable end fits below = fits
number-fits type.UInt64 (U n) nullable end fits below = fits
number-fits t (U n) nullable end fits below = absurd fits
number-fits type.Int8 (I n) nullable end fits below = unsigned-below w8 n (signed-fits type.Int8 n fits)
number-fits type.Int16 (I n) nullable end fits below = unsigned-below w16 n (signed-fits type.Int16 n fits)
number-fits type.Int32 (I n) nullable end fits below = unsigned-below w32 n (signed-fits type.Int32 n fits)
number-fits type.Int64 (I n) nullable end fits below = unsigned-below w64 n (signed-fits type.Int64 n fits)
number-fits t (I n) nullable end fits below = absurd fits
number-fits type.Str (S more) nullable end fits below = below
number-fits t (S more) nullable end fits below = absurd fits
number-fits type.Date (Day n) nullable end fits below = fits
number-fits t (Day n) nullable end fits below = absurd fits
number-fits type.DateTime (Second n) nullable end fits below = fits
number-fits t (Second n) nullable end fits below = absurd fits
number-fits type.Uuid (Id n) nullable end fits below = fits
number-fits t (Id n) nullable end fits below = absurd fits
number-fits type.Ipv4 (V4 n) nullable end fits below = fits
number-fits t (V4 n) nullable end fits below = absurd fits
number-fits type.Ipv6 (V6 n) nullable end fits below = fits
number-fits t (V6 n) nullable end fits below = absurd fits
number-fits (type.Decimal digits scale) (Dec n) nullable end fits below = unsigned-below w128 n (decimal-fits digits n fits)
number-fits t (Dec n) nullable end fits below = absurd fits

-- the cell that was added is the value
pub value-last : (c : Column) (count : ℕ) (v : Value) (end start : ℕ) (text : List ℕ) → Holds c count (length text) → FitsColumn c.ty v
    → end ≡ length (text ++ text_of_value v) → end < 2 ^ 64 → start ≡ length text
    → value_in (grown c (number_of c.ty.base end v) (is_null v)) (text ++ text_of_value v) count start ≡ v
unfolding value_in null_in
value-last c count v end start text holds fits at_end below at_start =
    let null = nulls-last c.ty.nullable c.nulls (is_null v) count holds.nulls (fits-null c.ty v fits) in
    let number = nat_at-last (cell_width c.ty.base) c.cells count (number_of c.ty.base end v) holds.cells (number-fits c.ty.base v c.ty.nullable end fits below) in
    (λ j. value_from c.ty.base (null j) start (number j) (text ++ text_of_value v)) ∙ back c.ty.base v c.ty.nullable end start text fits at_end at_start

pub end-of : (t : ColType) (v : Value) (nullable : Bool) (end start : ℕ) → FitsColumn (record { base = t; nullable = nullable }) v
    → (text_of_value v ≡ [] → end ≡ start) → end_from t start (number_of t end v) ≡ end
end-of type.Str Null nullable end start fits same = refl
end-of type.Str (S more) nullable end start fits same = refl
end-of type.Str v nullable end start fits same = absurd fits
end-of t (S more) nullable end start fits same = absurd fits
end-of t v nullable end start fits same = sym (same refl)

-- where the text of the added cell ends
pub end-last : (c : Column) (count : ℕ) (v : Value) (end start : ℕ) (text : List ℕ) → Holds c count (length text) → FitsColumn c.ty v
    → end ≡ length (text ++ text_of_value v) → end < 2 ^ 64 → start ≡ length text
    → end_in (grown c (number_of c.ty.base end v) (is_null v)) count start ≡ end
unfolding end_in
end-last c count v end start text holds fits at_end below at_start =
    let number = nat_at-last (cell_width c.ty.base) c.cells count (number_of c.ty.base end v) holds.cells (number-fits c.ty.base v c.ty.nullable end fits below) in
    let none : text_of_value v ≡ [] → end ≡ start = λ is. omega (arith, at_end, at_start, length-append text (text_of_value v), ap length is) in
    ap (λ m. end_from c.ty.base start m) number ∙ end-of c.ty.base v c.ty.nullable end start fits none

step : (n w : ℕ) → (n + 1) * w ≡ n * w + w
step n w = omega (arith, add-mul n 1 w)

nulls-more : (nullable : Bool) (nulls : List Bool) (b : Bool) (n : ℕ) → (nullable ≡ true → length nulls ≡ n) → nullable ≡ true
    → length (if nullable then nulls ++ b ∷ [] else nulls) ≡ n + 1
nulls-more true nulls b n is allowed = omega (arith, length-append nulls (b ∷ []), is refl)
nulls-more false nulls b n is allowed = absurd (false≢true allowed)

-- the column holds one cell more
pub holds-grown : (c : Column) (count limit more x : ℕ) (b : Bool) → Holds c count limit → limit ≤ more → x < limit_of (cell_width c.ty.base)
    → (is_text c.ty.base ≡ true → x ≤ more) → Holds (grown c x b) (count + 1) more
holds-grown c count limit more x b holds wider fits within = record {
  cells = omega (arith, length-append c.cells (kept (cell_width c.ty.base) x), length-kept (cell_width c.ty.base) x, holds.cells, step count (width_bytes (cell_width c.ty.base)));
  nulls = nulls-more c.ty.nullable c.nulls b count holds.nulls;
  ends = λ i below text. elim (cases_lt i count) as (λ _. nat_at (cell_width c.ty.base) (c.cells ++ kept (cell_width c.ty.base) x) i ≤ more) [
    | inl old ↦ subst (λ n. n ≤ more) (sym (number-same c count limit i x holds old)) (omega (arith, holds.ends i old text, wider))
    | inr new ↦ let here : i ≡ count = omega arith in
        subst (λ n. n ≤ more) (sym (ap (λ k. nat_at (cell_width c.ty.base) (c.cells ++ kept (cell_width c.ty.base) x) k) here ∙ nat_at-last (cell_width c.ty.base) c.cells count x holds.cells fits)) (within text)
  ];
}

pub holds-wider : (c : Column) (count limit more : ℕ) → Holds c count limit → limit ≤ more → Holds c count more
holds-wider c count limit more holds wider = record {
  cells = holds.cells;
  nulls = holds.nulls;
  ends = λ i below text. omega (arith, holds.ends i below text, wider);
}

number-at-most : (t : ColType) (v : Value) (nullable : Bool) (end : ℕ) → FitsColumn (record { base = t; nullable = nullable }) v → is_text t ≡ true → number_of t end v ≤ end
number-at-most type.Str Null nullable end fits text = omega arith
number-at-most type.Str (S more) nullable end fits text = omega arith
number-at-most type.Str v nullable end fits text = absurd fits
number-at-most t v nullable end fits text = absurd (false≢true text)

pub number-within : (c : Column) (v : Value) (end : ℕ) → FitsColumn c.ty v → is_text c.ty.base ≡ true → number_of c.ty.base end v ≤ end
number-within c v end fits text = number-at-most c.ty.base v c.ty.nullable end fits text
