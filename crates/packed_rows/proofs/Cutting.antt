-- What is left where the open row is dropped.
use Rattle.std.proofs.Common.{◌≡◌, ◌<◌, ◌≤◌, ◌+◌, ◌*◌, ◌∷◌, ◌++◌, ◌∙◌, ◌&&◌, [], if◌then◌else◌, Bool, true, false, ℕ, zero, suc, List, length, take, drop, Some, refl, sym, ap, subst, arith}
use Rattle.std.specs.Prelude.{get_or, slice_get, slice_set, slice_index_or}
use Rattle.std.proofs.lemmas.List.{append-nil, get_or-take, length-append, length-take-le, take-append-drop, take-append-le, take_all}
use Rattle.std.proofs.lemmas.Bool.{false≢true}
use Rattle.std.proofs.lemmas.Option.{none-some, slice_get-get_or}
use Rattle.std.proofs.Math.Nat.{add-mul}
use Rattle.dict_value.specs.declared.value.ColType.{ColType}
use Rattle.dict_value.specs.declared.value.Value.{Value}
use Rattle.packed_rows.specs.declared.column.Column.{Column}
use Rattle.packed_rows.specs.declared.column.CellWidth.{CellWidth}
use Rattle.packed_rows.specs.Widths.{width_bytes, kept, nat_at, cell_width}
use Rattle.packed_rows.specs.Columns.{AllEndWithin, EndWithin, Filled, FrontHasCells, HasCells, HaveCells, Holds, cut, cut_front, end_from, end_in, is_text, null_in, rows_in, start_of, value_from, value_in, RowList}
use Rattle.packed_rows.specs.Packs.{AreColumnsOf, ArePacksOf, IsColumnOf, Packs, building, column_bytes, column_nulls, open_in, text_of_rows, texts_of, types_of}
use Rattle.packed_rows.proofs.Bytes.{length-kept, nat_at-append}
use Rattle.packed_rows.proofs.Growing.{room-for, value_from-append}
use Rattle.packed_rows.proofs.Packed.{begun-cells, begun-nulls, columns-ended, open-cells, open-nulls, text-more}
use Rattle.packed_rows.proofs.Packing.{AllSame, column-is, n+1, open-length, rows-same, start-same}

-- the loop over the columns

pub cut-none : (cs : List Column) (n : ℕ) → cut_front n zero cs ≡ cs
cut-none [] n = refl
cut-none (c ∷ cs) n = refl

pub cut-get : (cs : List Column) (n place : ℕ) → slice_get (cut_front n place cs) place ≡ slice_get cs place
cut-get [] n place = refl
cut-get (c ∷ cs) n zero = refl
cut-get (c ∷ cs) n (suc place) = cut-get cs n place

pub cut-set : (cs : List Column) (n place : ℕ) (c d : Column) → slice_get cs place ≡ Some c → d ≡ cut n c → slice_set (cut_front n place cs) place d ≡ cut_front n (suc place) cs
cut-set [] n place c d here is = absurd (none-some c here)
cut-set (c ∷ cs) n zero d e here is = (λ j. (is ∙ ap (cut n) (sym (column-is c d here))) j ∷ cs) ∙ ap (λ (ds : List Column). cut n c ∷ ds) (sym (cut-none cs n))
cut-set (c ∷ cs) n (suc place) d e here is = ap (λ (ds : List Column). cut n c ∷ ds) (cut-set cs n place d e here is)

pub cut-length : (cs : List Column) (n place : ℕ) → length (cut_front n place cs) ≡ length cs
cut-length [] n place = refl
cut-length (c ∷ cs) n zero = refl
cut-length (c ∷ cs) n (suc place) = omega (arith, cut-length cs n place)

pub front-at : (cs : List Column) (n place i : ℕ) (c : Column) → FrontHasCells cs n place → i < place → slice_get cs i ≡ Some c → HasCells c n
front-at [] n place i c have below here = absurd (none-some c here)
front-at (c ∷ cs) n zero i d have below here = absurd (omega arith)
front-at (c ∷ cs) n (suc place) zero d have below here = subst (λ (e : Column). HasCells e n) (column-is c d here) have.0
front-at (c ∷ cs) n (suc place) (suc i) d have below here = front-at cs n place i d have.1 (omega arith) here

-- the column that the loop reads, and the columns after it
pub cut-read : (cs ds : List Column) (n place : ℕ) (c : Column) → ds ≡ cut_front n place cs → place < length cs → c ≡ get_or ds place c → slice_get cs place ≡ Some c
cut-read cs ds n place c is below at =
    sym (cut-get cs n place) ∙ (ap (λ (es : List Column). slice_get es place) (sym is)
    ∙ (slice_get-get_or ds place c (omega (arith, ap (λ (es : List Column). length es) is, cut-length cs n place)) ∙ ap (λ (d : Column). Some d) (sym at)))

pub cut-read-has : (cs ds : List Column) (n place before : ℕ) (c : Column) → ds ≡ cut_front n place cs → FrontHasCells cs n before → place < before → place < length cs
    → c ≡ get_or ds place c → HasCells c n
cut-read-has cs ds n place before c is have below within at = front-at cs n before place c have below (cut-read cs ds n place c is within at)

pub cut-step : (cs ds : List Column) (n place : ℕ) (c d : Column) → ds ≡ cut_front n place cs → place < length cs → c ≡ get_or ds place c → d ≡ cut n c
    → slice_set ds place d ≡ cut_front n (place + 1) cs
cut-step cs ds n place c d is within at cut_is =
    ap (λ (es : List Column). slice_set es place d) is
    ∙ (cut-set cs n place c d (cut-read cs ds n place c is within at) cut_is ∙ ap (λ m. cut_front n m cs) (sym (n+1 place)))

-- a column that is cut

longer : (c : Column) (n limit : ℕ) → Holds c (n + 1) limit → n * width_bytes (cell_width c.ty.base) ≤ length c.cells
longer c n limit holds = omega (arith, holds.cells, add-mul n 1 (width_bytes (cell_width c.ty.base)))

filled-front : (cs : List Column) (n place limit : ℕ) → Filled cs n place limit → FrontHasCells cs n place
filled-front [] n place limit filled = tt
filled-front (c ∷ cs) n zero limit filled = tt
filled-front (c ∷ cs) n (suc place) limit filled = (
  record { cells = longer c n limit filled.0; nulls = λ is. omega (arith, filled.0.nulls is) },
  filled-front cs n place limit filled.1,
)

filled-have : (cs : List Column) (n place limit : ℕ) → Filled cs n place limit → HaveCells cs n
filled-have [] n place limit filled = tt
filled-have (c ∷ cs) n zero limit filled = (omega (arith, filled.0.cells), filled-have cs n zero limit filled.1)
filled-have (c ∷ cs) n (suc place) limit filled = (longer c n limit filled.0, filled-have cs n place limit filled.1)

pub front-has : (cs : List Column) (text : List ℕ) (n place : ℕ) → Packs cs text n place → FrontHasCells cs n place
front-has cs text n place packs = filled-front cs n place (length text) packs.filled

pub have-before : (cs : List Column) (text : List ℕ) (n place : ℕ) → Packs cs text n place → HaveCells cs n
have-before cs text n place packs = filled-have cs n place (length text) packs.filled

cut-number : (w : CellWidth) (cells : List ℕ) (n i : ℕ) → n * width_bytes w ≤ length cells → i < n → nat_at w (take (n * width_bytes w) cells) i ≡ nat_at w cells i
cut-number w cells n i within below =
    let size = n * width_bytes w in
    let room = room-for i n (width_bytes w) (length (take size cells)) (length-take-le size cells within) below in
    sym (nat_at-append w (take size cells) (drop size cells) i room) ∙ ap (λ (bs : List ℕ). nat_at w bs i) (take-append-drop size cells)

cut-null : (nullable : Bool) (nulls : List Bool) (n i : ℕ) → i < n → (nullable && slice_index_or (if nullable then take n nulls else nulls) i false) ≡ (nullable && slice_index_or nulls i false)
cut-null true nulls n i below = get_or-take n nulls i false below
cut-null false nulls n i below = refl

cut-text : (t : ColType) (b : Bool) (start n most : ℕ) (text : List ℕ) → most ≤ length text → (is_text t ≡ true → n ≤ most) → value_from t b start n (take most text) ≡ value_from t b start n text
cut-text t b start n most text within ends =
    sym (value_from-append t b start n (take most text) (drop most text) (λ is. omega (arith, ends is, length-take-le most text within)))
    ∙ ap (λ (bs : List ℕ). value_from t b start n bs) (take-append-drop most text)

cut-value : (c : Column) (n limit most i s : ℕ) (text : List ℕ) → Holds c (n + 1) limit → most ≤ length text → EndWithin c n most → i < n
    → value_in (cut n c) (take most text) i s ≡ value_in c text i s
unfolding value_in null_in
cut-value c n limit most i s text holds within ends below =
    let number = cut-number (cell_width c.ty.base) c.cells n i (longer c n limit holds) below in
    let null = cut-null c.ty.nullable c.nulls n i below in
    (λ j. value_from c.ty.base (null j) s (number j) (take most text)) ∙ cut-text c.ty.base (null_in c i) s (nat_at (cell_width c.ty.base) c.cells i) most text within (ends i below)

cut-end : (c : Column) (n limit i s : ℕ) → Holds c (n + 1) limit → i < n → end_in (cut n c) i s ≡ end_in c i s
unfolding end_in
cut-end c n limit i s holds below = ap (λ m. end_from c.ty.base s m) (cut-number (cell_width c.ty.base) c.cells n i (longer c n limit holds) below)

whole-value : (c : Column) (n most i s : ℕ) (text : List ℕ) → most ≤ length text → EndWithin c n most → i < n → value_in c (take most text) i s ≡ value_in c text i s
unfolding value_in
whole-value c n most i s text within ends below = cut-text c.ty.base (null_in c i) s (nat_at (cell_width c.ty.base) c.cells i) most text within (ends i below)

cut-same : (cs : List Column) (n place limit most : ℕ) (text : List ℕ) → Filled cs n place limit → AllEndWithin cs n most → most ≤ length text
    → AllSame cs (cut_front n place cs) text (take most text) n
cut-same [] n place limit most text filled settled within = tt
cut-same (c ∷ cs) n zero limit most text filled settled within = (
  record { value = λ i s below. whole-value c n most i s text within settled.0 below; ends = λ i s below. refl },
  subst (λ (ds : List Column). AllSame cs ds text (take most text) n) (cut-none cs n) (cut-same cs n zero limit most text filled.1 settled.1 within),
)
cut-same (c ∷ cs) n (suc place) limit most text filled settled within = (
  record {
    value = λ i s below. cut-value c n limit most i s text filled.0 within settled.0 below;
    ends = λ i s below. cut-end c n limit i s filled.0 below;
  },
  cut-same cs n place limit most text filled.1 settled.1 within,
)

cut-nulls : (nullable : Bool) (nulls : List Bool) (n : ℕ) → (nullable ≡ true → length nulls ≡ n + 1) → nullable ≡ true → length (if nullable then take n nulls else nulls) ≡ n
cut-nulls true nulls n size is = length-take-le n nulls (omega (arith, size refl))
cut-nulls false nulls n size is = absurd (false≢true is)

cut-filled : (cs : List Column) (n place limit most : ℕ) → Filled cs n place limit → AllEndWithin cs n most → Filled (cut_front n place cs) n zero most
cut-filled [] n place limit most filled settled = tt
cut-filled (c ∷ cs) n zero limit most filled settled = (
  record { cells = filled.0.cells; nulls = filled.0.nulls; ends = settled.0 },
  subst (λ (ds : List Column). Filled ds n zero most) (cut-none cs n) (cut-filled cs n zero limit most filled.1 settled.1),
)
cut-filled (c ∷ cs) n (suc place) limit most filled settled = (
  record {
    cells = length-take-le (n * width_bytes (cell_width c.ty.base)) c.cells (longer c n limit filled.0);
    nulls = cut-nulls c.ty.nullable c.nulls n filled.0.nulls;
    ends = λ i below text. subst (λ m. m ≤ most) (sym (cut-number (cell_width c.ty.base) c.cells n i (longer c n limit filled.0) below)) (settled.0 i below text);
  },
  cut-filled cs n place limit most filled.1 settled.1,
)

filled-settled : (cs : List Column) (n limit : ℕ) → Filled cs n zero limit → AllEndWithin cs n limit
filled-settled [] n limit filled = tt
filled-settled (c ∷ cs) n limit filled = (filled.0.ends, filled-settled cs n limit filled.1)

cut-types : (cs : List Column) (n place : ℕ) → types_of (cut_front n place cs) ≡ types_of cs
cut-types [] n place = refl
cut-types (c ∷ cs) n zero = refl
cut-types (c ∷ cs) n (suc place) = ap (λ ts. c.ty ∷ ts) (cut-types cs n place)

-- the packs that are left

front-of : {A : Type 0} (xs ys : List A) (size : ℕ) → length xs ≡ size → take size (xs ++ ys) ≡ xs
front-of xs ys size is = take-append-le size xs ys (omega (arith, is)) ∙ take_all size xs (omega (arith, is))

cut-bits : (nullable : Bool) (nulls old : List Bool) (b : Bool) (n : ℕ) → (nullable ≡ true → length nulls ≡ n + 1) → nulls ≡ (if nullable then old ++ b ∷ [] else [])
    → (if nullable then take n nulls else nulls) ≡ (if nullable then old else [])
cut-bits true nulls old b n size is =
    ap (λ (bs : List Bool). take n bs) is ∙ front-of old (b ∷ []) n (omega (arith, size refl, ap (λ (bs : List Bool). length bs) is, length-append old (b ∷ [])))
cut-bits false nulls old b n size is = is

cut-column : (c : Column) (k n limit : ℕ) (rows : RowList) (row : List Value) → k < length row → Holds c (n + 1) limit → IsColumnOf c k (rows ++ row ∷ []) → IsColumnOf (cut n c) k rows
cut-column c k n limit rows row below holds is =
    let open_cells = open-cells c k rows row below is in
    let open_nulls = open-nulls c k rows row below is in
    let w = cell_width c.ty.base in
    record {
      cells = ap (λ (bs : List ℕ). take (n * width_bytes w) bs) open_cells.1
          ∙ front-of (column_bytes c.ty.base k 0 rows) (kept w open_cells.0) (n * width_bytes w)
          (omega (arith, ap (λ (bs : List ℕ). length bs) open_cells.1, holds.cells, length-append (column_bytes c.ty.base k 0 rows) (kept w open_cells.0), length-kept w open_cells.0, add-mul n 1 (width_bytes w)));
      nulls = cut-bits c.ty.nullable c.nulls (column_nulls k rows) open_nulls.0 n holds.nulls open_nulls.1;
    }

past-column : (c : Column) (k : ℕ) (rows : RowList) (row : List Value) → length row ≤ k → IsColumnOf c k (rows ++ row ∷ []) → IsColumnOf c k rows
past-column c k rows row past is = record { cells = begun-cells c k rows row past is; nulls = begun-nulls c k rows row past is }

past-columns : (cs : List Column) (k : ℕ) (rows : RowList) (row : List Value) → length row ≤ k → AreColumnsOf cs k (rows ++ row ∷ []) → AreColumnsOf cs k rows
past-columns [] k rows row past are = tt
past-columns (c ∷ cs) k rows row past are = (past-column c k rows row past are.0, past-columns cs (suc k) rows row (omega arith) are.1)

cut-columns : (cs : List Column) (k n place limit : ℕ) (rows : RowList) (row : List Value) → length row ≡ k + place → Filled cs n place limit
    → AreColumnsOf cs k (rows ++ row ∷ []) → AreColumnsOf (cut_front n place cs) k rows
cut-columns [] k n place limit rows row at filled are = tt
cut-columns (c ∷ cs) k n zero limit rows row at filled are = past-columns (c ∷ cs) k rows row (omega arith) are
cut-columns (c ∷ cs) k n (suc place) limit rows row at filled are =
    (cut-column c k n limit rows row (omega arith) filled.0 are.0, cut-columns cs (suc k) n place limit rows row (omega arith) filled.1 are.1)

-- the rows stay, and no row is open

within-text : (cs : List Column) (text : List ℕ) (n place : ℕ) → Packs cs text n place → start_of cs n ≤ length text
within-text cs text n place packs =
    let size = ap (λ (t : List ℕ). length t) (packs.packs.texts ∙ text-more (rows_in cs text n) (open_in cs text n place)) in
    omega (arith, packs.start, size, length-append (text_of_rows (rows_in cs text n)) (texts_of (open_in cs text n place)))

pub dropped-building : (cs : List Column) (text : List ℕ) (n place start : ℕ) → Packs cs text n place → start ≡ start_of cs n
    → building (cut_front n place cs) (take start text) n 0 ≡ record (building cs text n place) { open_row = [] }
dropped-building cs text n place start packs is =
    let ds = cut_front n place cs in
    let within : start ≤ length text = omega (arith, is, within-text cs text n place packs) in
    let same = cut-same cs n place (length text) start text packs.filled (subst (λ s. AllEndWithin cs n s) (sym is) packs.settled) within in
    let rows = rows-same cs ds text (take start text) n same n (omega arith) in
    let types = cut-types cs n place in
    λ j. record { types = types j; rows = rows j; open_row = [] }

pub dropped-packs : (cs : List Column) (text : List ℕ) (n place start : ℕ) → Packs cs text n place → start ≡ start_of cs n
    → Packs (cut_front n place cs) (take start text) n 0
dropped-packs cs text n place start packs is =
    let ds = cut_front n place cs in
    let left = take start text in
    let within : start ≤ length text = omega (arith, is, within-text cs text n place packs) in
    let settled = subst (λ s. AllEndWithin cs n s) (sym is) packs.settled in
    let same = cut-same cs n place (length text) start text packs.filled settled within in
    let starts = start-same cs ds text left n same n (omega arith) in
    let rows = rows-same cs ds text left n same n (omega arith) in
    let size = length-take-le start text within in
    let filled = subst (λ m. Filled ds n zero m) (sym size) (cut-filled cs n place (length text) start packs.filled settled) in
    let at : start ≡ length (text_of_rows (rows_in cs text n)) = is ∙ packs.start in
    let front : left ≡ text_of_rows (rows_in cs text n) =
    ap (λ (t : List ℕ). take start t) (packs.packs.texts ∙ text-more (rows_in cs text n) (open_in cs text n place))
    ∙ front-of (text_of_rows (rows_in cs text n)) (texts_of (open_in cs text n place)) start (sym at) in
    let columns = cut-columns cs 0 n place (length text) (rows_in cs text n) (open_in cs text n place) (omega (arith, open-length cs text n place packs.within)) packs.filled packs.packs.columns in
    record {
      filled = filled;
      within = omega arith;
      ends = starts ∙ (sym is ∙ sym size);
      start = starts ∙ (packs.start ∙ ap (λ (rs : RowList). length (text_of_rows rs)) (sym rows));
      settled = subst (λ s. AllEndWithin ds n s) (size ∙ (is ∙ sym starts)) (filled-settled ds n (length left) filled);
      packs = subst (λ (rs : RowList). ArePacksOf ds left (rs ++ [] ∷ [])) (sym rows) (record {
        columns = columns-ended ds 0 (rows_in cs text n) columns;
        texts = front ∙ sym (text-more (rows_in cs text n) [] ∙ append-nil (text_of_rows (rows_in cs text n)));
      });
    }
