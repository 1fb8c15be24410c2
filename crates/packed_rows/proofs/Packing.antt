-- Packed columns as rows: what a cell, a row's end and a look-up do to them.
use Rattle.std.proofs.Common.{◌≡◌, ◌≢◌, ◌<◌, ◌≤◌, ◌+◌, ◌*◌, ◌/◌, ◌^◌, ◌∷◌, ◌++◌, ◌∙◌, [], if◌then◌else◌, Bool, true, false, ℕ, zero, suc, List, length, take, map, Some, None, Option, refl, sym, ap, subst, arith, inl, inr}
use Rattle.std.specs.Prelude.{get_or, sum_by, slice_get, slice_set, ◌⊎◌, IsSome}
use Rattle.std.specs.Option.{option_map}
use Rattle.std.specs.List.{AllByRecursion}
use Rattle.dict_value.specs.declared.value.ColType.{ColType}
use Rattle.dict_value.specs.declared.value.ColType.TheVariants as type
use Rattle.std.proofs.lemmas.List.{append_assoc, append-nil, length-append, length-take-le, map-append, take_all, take_more}
use Rattle.std.proofs.lemmas.List.Sums.{sum_by-cons}
use Rattle.std.proofs.lemmas.Bool.{cases_lt, false≢true}
use Rattle.std.specs.Option.{unwrap_or}
use Rattle.std.proofs.lemmas.Option.{none-some, slice_get_past, slice_get_within, slice_get-get_or, slice_get-map}
use Rattle.dict_value.specs.declared.value.AttrType.{AttrType}
use Rattle.dict_value.specs.declared.value.Value.{Value}
use Rattle.dict_value.specs.declared.value.Value.TheVariants.{Null, S}
use Rattle.std.proofs.Math.Nat.{mul-le-mul_right}
use Rattle.dict_value.specs.Values.{FitsColumn}
use Rattle.packed_rows.specs.declared.column.Column.{Column}
use Rattle.packed_rows.specs.Widths.{width_bytes, limit_of, nat_at, cell_width}
use Rattle.packed_rows.specs.Columns.{AllEndWithin, Filled, HaveCells, Holds, IsHeld, RowList, between, null_in, number_value, value_from, cell_at, cell_of, end_from, end_in, grow_at, grown, is_null, is_text, number_of, row_end, row_in, rows_in, start_of, text_of_value, value_in}
use Rattle.packed_rows.specs.Packs.{AreColumnsOf, ArePacksOf, Building, IsColumnOf, Packs, StandFor, building, column_bytes, column_nulls, column_size, open_in, packs_size, stored_size, text_of_rows, texts_of, types_of}
use Rattle.packed_rows.proofs.Packed.{columns-begun, columns-ended, columns-grown, get-front, get-last, text-more, texts-more}
use Rattle.packed_rows.proofs.Growing.{end-grown, end-last, from-null, holds-grown, holds-wider, number-fits, number-same, number-within, value-grown, value-last, value-text}

-- a column that reads as another in its first rows
pub record SameAt (c d : Column) (text more : List ℕ) (n : ℕ) : Type 0 where
  pub value : (i s : ℕ) → i < n → value_in d more i s ≡ value_in c text i s
  pub ends : (i s : ℕ) → i < n → end_in d i s ≡ end_in c i s

abbrev pub AllSame : List Column → List Column → List ℕ → List ℕ → ℕ → Type 0
AllSame [] [] text more n = Unit {0}
AllSame [] (d ∷ ds) text more n = ⊥
AllSame (c ∷ cs) [] text more n = ⊥
AllSame (c ∷ cs) (d ∷ ds) text more n = SameAt c d text more n × AllSame cs ds text more n

row-same : (cs ds : List Column) (text more : List ℕ) (n : ℕ) → AllSame cs ds text more n → (i s : ℕ) → i < n → row_in ds more i s ≡ row_in cs text i s
row-same [] [] text more n same i s below = refl
row-same [] (d ∷ ds) text more n same i s below = absurd same
row-same (c ∷ cs) [] text more n same i s below = absurd same
row-same (c ∷ cs) (d ∷ ds) text more n same i s below =
    let first = same.0.value i s below in
    let rest = ap (λ e. row_in ds more i e) (same.0.ends i s below) ∙ row-same cs ds text more n same.1 i (end_in c i s) below in
    λ j. first j ∷ rest j

end-same : (cs ds : List Column) (text more : List ℕ) (n : ℕ) → AllSame cs ds text more n → (i s : ℕ) → i < n → row_end ds i s ≡ row_end cs i s
end-same [] [] text more n same i s below = refl
end-same [] (d ∷ ds) text more n same i s below = absurd same
end-same (c ∷ cs) [] text more n same i s below = absurd same
end-same (c ∷ cs) (d ∷ ds) text more n same i s below =
    ap (λ e. row_end ds i e) (same.0.ends i s below) ∙ end-same cs ds text more n same.1 i (end_in c i s) below

pub start-same : (cs ds : List Column) (text more : List ℕ) (n : ℕ) → AllSame cs ds text more n → (i : ℕ) → i ≤ n → start_of ds i ≡ start_of cs i
start-same cs ds text more n same zero within = refl
start-same cs ds text more n same (suc i) within =
    end-same cs ds text more n same i (start_of ds i) (omega arith) ∙ ap (λ s. row_end cs i s) (start-same cs ds text more n same i (omega arith))

pub rows-same : (cs ds : List Column) (text more : List ℕ) (n : ℕ) → AllSame cs ds text more n → (m : ℕ) → m ≤ n → rows_in ds more m ≡ rows_in cs text m
rows-same cs ds text more n same zero within = refl
rows-same cs ds text more n same (suc m) within =
    let before = rows-same cs ds text more n same m (omega arith) in
    let row = row-same cs ds text more n same m (start_of ds m) (omega arith) ∙ ap (λ s. row_in cs text m s) (start-same cs ds text more n same m (omega arith)) in
    λ j. before j ++ row j ∷ []

one-same : (c : Column) (count n : ℕ) (text more : List ℕ) → Holds c count (length text) → n ≤ count → SameAt c c text (text ++ more) n
one-same c count n text more holds within = record {
  value = λ i s below. value-text c count i s text more holds (omega arith);
  ends = λ i s below. refl;
}

filled-same : (cs : List Column) (n place : ℕ) (text more : List ℕ) → Filled cs n place (length text) → AllSame cs cs text (text ++ more) n
filled-same [] n place text more filled = tt
filled-same (c ∷ cs) n zero text more filled = (one-same c n n text more filled.0 (omega arith), filled-same cs n zero text more filled.1)
filled-same (c ∷ cs) n (suc place) text more filled = (one-same c (n + 1) n text more filled.0 (omega arith), filled-same cs n place text more filled.1)

grow-same : (cs : List Column) (n place x : ℕ) (b : Bool) (text more : List ℕ) → Filled cs n place (length text) → AllSame cs (grow_at cs place x b) text (text ++ more) n
grow-same [] n place x b text more filled = tt
grow-same (c ∷ cs) n zero x b text more filled = (
  record {
    value = λ i s below. value-grown c n (length text) i x s b (text ++ more) filled.0 below ∙ value-text c n i s text more filled.0 below;
    ends = λ i s below. end-grown c n (length text) i x s b filled.0 below;
  },
  filled-same cs n zero text more filled.1,
)
grow-same (c ∷ cs) n (suc place) x b text more filled = (one-same c (n + 1) n text more filled.0 (omega arith), grow-same cs n place x b text more filled.1)

pub column-is : (c d : Column) → Some c ≡ Some d → c ≡ d
column-is c d is = ap (λ (o : Option Column). unwrap_or o c) is

-- the open row has one more value
grow-open : (cs : List Column) (n place x s : ℕ) (b : Bool) (text more : List ℕ) (c : Column) → Filled cs n place (length text) → slice_get cs place ≡ Some c
    → row_in (take (suc place) (grow_at cs place x b)) (text ++ more) n s
    ≡ row_in (take place cs) text n s ++ value_in (grown c x b) (text ++ more) n (row_end (take place cs) n s) ∷ []
grow-open [] n place x s b text more c filled here = absurd (none-some c here)
grow-open (c ∷ cs) n zero x s b text more d filled here = ap (λ (e : Column). value_in (grown e x b) (text ++ more) n s ∷ []) (column-is c d here)
grow-open (c ∷ cs) n (suc place) x s b text more d filled here =
    let first = value-text c (n + 1) n s text more filled.0 (omega arith) in
    let rest = grow-open cs n place x (end_in c n s) b text more d filled.1 here in
    λ j. first j ∷ rest j

grow-end : (cs : List Column) (n place x s : ℕ) (b : Bool) (c : Column) → slice_get cs place ≡ Some c
    → row_end (take (suc place) (grow_at cs place x b)) n s ≡ end_in (grown c x b) n (row_end (take place cs) n s)
grow-end [] n place x s b c here = absurd (none-some c here)
grow-end (c ∷ cs) n zero x s b d here = ap (λ (e : Column). end_in (grown e x b) n s) (column-is c d here)
grow-end (c ∷ cs) n (suc place) x s b d here = grow-end cs n place x (end_in c n s) b d here

filled-wider : (cs : List Column) (n place limit more : ℕ) → Filled cs n place limit → limit ≤ more → Filled cs n place more
filled-wider [] n place limit more filled wider = tt
filled-wider (c ∷ cs) n zero limit more filled wider = (holds-wider c n limit more filled.0 wider, filled-wider cs n zero limit more filled.1 wider)
filled-wider (c ∷ cs) n (suc place) limit more filled wider = (holds-wider c (n + 1) limit more filled.0 wider, filled-wider cs n place limit more filled.1 wider)

grow-filled : (cs : List Column) (n place x limit more : ℕ) (b : Bool) (c : Column) → Filled cs n place limit → slice_get cs place ≡ Some c → limit ≤ more
    → x < limit_of (cell_width c.ty.base) → (is_text c.ty.base ≡ true → x ≤ more) → Filled (grow_at cs place x b) n (suc place) more
grow-filled [] n place x limit more b c filled here wider fits within = absurd (none-some c here)
grow-filled (c ∷ cs) n zero x limit more b d filled here wider fits within =
    let is = sym (column-is c d here) in (
      holds-grown c n limit more x b filled.0 wider (subst (λ (e : Column). x < limit_of (cell_width e.ty.base)) is fits) (subst (λ (e : Column). is_text e.ty.base ≡ true → x ≤ more) is within),
      filled-wider cs n zero limit more filled.1 wider,
    )
grow-filled (c ∷ cs) n (suc place) x limit more b d filled here wider fits within =
    (holds-wider c (n + 1) limit more filled.0 wider, grow-filled cs n place x limit more b d filled.1 here wider fits within)

-- the texts of the rows end where they did
grow-settled : (cs : List Column) (n place x limit most : ℕ) (b : Bool) → Filled cs n place limit → AllEndWithin cs n most → AllEndWithin (grow_at cs place x b) n most
grow-settled [] n place x limit most b filled settled = tt
grow-settled (c ∷ cs) n zero x limit most b filled settled =
    (λ i below text. subst (λ m. m ≤ most) (sym (number-same c n limit i x filled.0 below)) (settled.0 i below text), settled.1)
grow-settled (c ∷ cs) n (suc place) x limit most b filled settled = (settled.0, grow-settled cs n place x limit most b filled.1 settled.1)

row-settled : (cs : List Column) (n limit : ℕ) → Filled cs n (length cs) limit → AllEndWithin cs (n + 1) limit
row-settled [] n limit filled = tt
row-settled (c ∷ cs) n limit filled = (filled.0.ends, row-settled cs n limit filled.1)

none-settled : (cs : List Column) (limit : ℕ) → AllEndWithin cs 0 limit
none-settled [] limit = tt
none-settled (c ∷ cs) limit = (λ i below text. absurd (omega arith), none-settled cs limit)

grow-types : (cs : List Column) (place x : ℕ) (b : Bool) → map (λ (c : Column). c.ty) (grow_at cs place x b) ≡ map (λ (c : Column). c.ty) cs
grow-types [] place x b = refl
grow-types (c ∷ cs) zero x b = refl
grow-types (c ∷ cs) (suc place) x b = ap (λ ts. c.ty ∷ ts) (grow-types cs place x b)

grow-length : (cs : List Column) (place x : ℕ) (b : Bool) → length (grow_at cs place x b) ≡ length cs
grow-length [] place x b = refl
grow-length (c ∷ cs) zero x b = refl
grow-length (c ∷ cs) (suc place) x b = omega (arith, grow-length cs place x b)

filled-at : (cs : List Column) (n place limit : ℕ) (c : Column) → Filled cs n place limit → slice_get cs place ≡ Some c → Holds c n limit
filled-at [] n place limit c filled here = absurd (none-some c here)
filled-at (c ∷ cs) n zero limit d filled here = subst (λ (e : Column). Holds e n limit) (column-is c d here) filled.0
filled-at (c ∷ cs) n (suc place) limit d filled here = filled-at cs n place limit d filled.1 here

within-text : (text : List ℕ) (v : Value) → length text ≤ length (text ++ text_of_value v)
within-text text v = omega (arith, length-append text (text_of_value v))

length-row : (cs : List Column) (text : List ℕ) (i s : ℕ) → length (row_in cs text i s) ≡ length cs
length-row [] text i s = refl
length-row (c ∷ cs) text i s = omega (arith, length-row cs text i (end_in c i s))

pub open-length : (cs : List Column) (text : List ℕ) (n place : ℕ) → place ≤ length cs → length (row_in (take place cs) text n (start_of cs n)) ≡ place
open-length cs text n place within = length-row (take place cs) text n (start_of cs n) ∙ length-take-le place cs within

pub cell-building : (cs : List Column) (text : List ℕ) (n place end : ℕ) (v : Value) (c : Column) → Packs cs text n place → slice_get cs place ≡ Some c → FitsColumn c.ty v
    → end ≡ length (text ++ text_of_value v) → end < 2 ^ 64
    → building (grow_at cs place (number_of c.ty.base end v) (is_null v)) (text ++ text_of_value v) n (suc place)
    ≡ record (building cs text n place) { open_row = (building cs text n place).open_row ++ v ∷ [] }
cell-building cs text n place end v c packs here fits at_end below =
    let holds = filled-at cs n place (length text) c packs.filled here in
    let x = number_of c.ty.base end v in
    let ds = grow_at cs place x (is_null v) in
    let more = text ++ text_of_value v in
    let same = grow-same cs n place x (is_null v) text (text_of_value v) packs.filled in
    let starts = start-same cs ds text more n same n (omega arith) in
    let types = grow-types cs place x (is_null v) in
    let rows = rows-same cs ds text more n same n (omega arith) in
    let last = value-last c n v end (row_end (take place cs) n (start_of cs n)) text holds fits at_end below packs.ends in
    let row = ap (λ s. row_in (take (suc place) ds) more n s) starts
    ∙ (grow-open cs n place x (start_of cs n) (is_null v) text (text_of_value v) c packs.filled here
    ∙ ap (λ (w : Value). row_in (take place cs) text n (start_of cs n) ++ w ∷ []) last) in
    λ j. record { types = types j; rows = rows j; open_row = row j }

-- the texts, with one cell more at the open row
grown-text : (rows : RowList) (open_row : List Value) (text : List ℕ) (v : Value) → text ≡ text_of_rows (rows ++ open_row ∷ [])
    → text ++ text_of_value v ≡ text_of_rows (rows ++ (open_row ++ v ∷ []) ∷ [])
grown-text rows open_row text v is =
    ap (λ (t : List ℕ). t ++ text_of_value v) (is ∙ text-more rows open_row)
    ∙ (append_assoc (text_of_rows rows) (texts_of open_row) (text_of_value v)
    ∙ (ap (λ (t : List ℕ). text_of_rows rows ++ t) (sym (texts-more open_row v)) ∙ sym (text-more rows (open_row ++ v ∷ []))))

grown-end : (rows : RowList) (open_row : List Value) (text : List ℕ) (v : Value) (end : ℕ) → text ≡ text_of_rows (rows ++ open_row ∷ []) → end ≡ length (text ++ text_of_value v)
    → end ≡ length (text_of_rows rows) + length (texts_of (open_row ++ v ∷ []))
grown-end rows open_row text v end is at_end =
    at_end ∙ (ap (λ (t : List ℕ). length t) (grown-text rows open_row text v is ∙ text-more rows (open_row ++ v ∷ [])) ∙ length-append (text_of_rows rows) (texts_of (open_row ++ v ∷ [])))

grown-packs : (cs : List Column) (text : List ℕ) (rows : RowList) (open_row : List Value) (place end : ℕ) (v : Value) (c : Column) → ArePacksOf cs text (rows ++ open_row ∷ [])
    → slice_get cs place ≡ Some c → length open_row ≡ place → end ≡ length (text ++ text_of_value v)
    → ArePacksOf (grow_at cs place (number_of c.ty.base end v) (is_null v)) (text ++ text_of_value v) (rows ++ (open_row ++ v ∷ []) ∷ [])
grown-packs cs text rows open_row place end v c packs here at at_end = record {
  columns = columns-grown cs 0 place (number_of c.ty.base end v) (is_null v) rows open_row v c here (omega (arith, at))
      (ap (λ m. number_of c.ty.base m v) (grown-end rows open_row text v end packs.texts at_end)) refl packs.columns;
  texts = grown-text rows open_row text v packs.texts;
}

-- one cell more at the open row
pub cell-packs : (cs : List Column) (text : List ℕ) (n place end : ℕ) (v : Value) (c : Column) → Packs cs text n place → slice_get cs place ≡ Some c → FitsColumn c.ty v
    → end ≡ length (text ++ text_of_value v) → end < 2 ^ 64
    → Packs (grow_at cs place (number_of c.ty.base end v) (is_null v)) (text ++ text_of_value v) n (suc place)
cell-packs cs text n place end v c packs here fits at_end below =
    let x = number_of c.ty.base end v in
    let ds = grow_at cs place x (is_null v) in
    let more = text ++ text_of_value v in
    let same = grow-same cs n place x (is_null v) text (text_of_value v) packs.filled in
    let starts = start-same cs ds text more n same n (omega arith) in
    let built = cell-building cs text n place end v c packs here fits at_end below in
    let rows = ap (λ (b : Building). b.rows) built in
    let row = ap (λ (b : Building). b.open_row) built in
    record {
      filled = grow-filled cs n place x (length text) (length more) (is_null v) c packs.filled here (within-text text v)
          (number-fits c.ty.base v c.ty.nullable end fits below) (λ is. subst (λ m. x ≤ m) at_end (number-within c v end fits is));
      within = omega (arith, slice_get_within cs place c here, grow-length cs place x (is_null v));
      ends = ap (λ s. row_end (take (suc place) ds) n s) starts
          ∙ (grow-end cs n place x (start_of cs n) (is_null v) c here
          ∙ (end-last c n v end (row_end (take place cs) n (start_of cs n)) text (filled-at cs n place (length text) c packs.filled here) fits at_end below packs.ends ∙ at_end));
      settled = subst (λ s. AllEndWithin ds n s) (sym starts) (grow-settled cs n place x (length text) (start_of cs n) (is_null v) packs.filled packs.settled);
      start = starts ∙ (packs.start ∙ ap (λ (rs : RowList). length (text_of_rows rs)) (sym rows));
      packs = subst (λ (rs : RowList). ArePacksOf ds more (rs ++ open_in ds more n (suc place) ∷ [])) (sym rows)
          (subst (λ (r : List Value). ArePacksOf ds more (rows_in cs text n ++ r ∷ [])) (sym row)
          (grown-packs cs text (rows_in cs text n) (open_in cs text n place) place end v c packs.packs here (open-length cs text n place packs.within) at_end));
    }

-- the end of a row

filled-row : (cs : List Column) (n limit : ℕ) → Filled cs n (length cs) limit → Filled cs (n + 1) zero limit
filled-row [] n limit filled = tt
filled-row (c ∷ cs) n limit filled = (filled.0, filled-row cs n limit filled.1)

pub n+1 : (n : ℕ) → n + 1 ≡ suc n
n+1 n = omega arith

pub row-packs : (cs : List Column) (text : List ℕ) (n : ℕ) → Packs cs text n (length cs) → Packs cs text (suc n) zero
row-packs cs text n packs =
    let whole = ap (λ (ds : List Column). row_end ds n (start_of cs n)) (sym (take_all (length cs) cs (omega arith))) ∙ packs.ends in
    let rows = ap (λ (ds : List Column). rows_in cs text n ++ row_in ds text n (start_of cs n) ∷ []) (sym (take_all (length cs) cs (omega arith))) in
    let all = subst (λ (rs : RowList). ArePacksOf cs text rs) (sym rows) packs.packs in
    record {
      filled = subst (λ m. Filled cs m zero (length text)) (n+1 n) (filled-row cs n (length text) packs.filled);
      within = omega arith;
      ends = whole;
      settled = subst (λ m. AllEndWithin cs m (start_of cs (suc n))) (n+1 n) (subst (λ s. AllEndWithin cs (n + 1) s) (sym whole) (row-settled cs n (length text) packs.filled));
      start = whole ∙ ap (λ (t : List ℕ). length t) all.texts;
      packs = record {
        columns = columns-ended cs 0 (rows_in cs text (suc n)) all.columns;
        texts = all.texts ∙ sym (text-more (rows_in cs text (suc n)) [] ∙ append-nil (text_of_rows (rows_in cs text (suc n))));
      };
    }

pub row-building : (cs : List Column) (text : List ℕ) (n : ℕ)
    → building cs text (suc n) zero
    ≡ record (building cs text n (length cs)) { rows = (building cs text n (length cs)).rows ++ (building cs text n (length cs)).open_row ∷ []; open_row = [] }
row-building cs text n =
    let all = sym (take_all (length cs) cs (omega arith)) in
    λ j. record { types = map (λ (c : Column). c.ty) cs; rows = rows_in cs text n ++ row_in (all j) text n (start_of cs n) ∷ []; open_row = [] }

-- look-ups

pub length-rows : (cs : List Column) (text : List ℕ) (n : ℕ) → length (rows_in cs text n) ≡ n
length-rows cs text zero = refl
length-rows cs text (suc n) = omega (arith, length-append (rows_in cs text n) (row_in cs text n (start_of cs n) ∷ []), length-rows cs text n)

get-row : (cs : List Column) (text : List ℕ) (n i : ℕ) → i < n → slice_get (rows_in cs text n) i ≡ Some (row_in cs text i (start_of cs i))
get-row cs text zero i below = absurd (omega arith)
get-row cs text (suc n) i below = elim (cases_lt i n) as (λ _. slice_get (rows_in cs text n ++ row_in cs text n (start_of cs n) ∷ []) i ≡ Some (row_in cs text i (start_of cs i))) [
  | inl old ↦ get-front (rows_in cs text n) (row_in cs text n (start_of cs n) ∷ []) i (omega (arith, length-rows cs text n)) ∙ get-row cs text n i old
  | inr new ↦ let here : n ≡ i = omega arith in
      get-last (rows_in cs text n) (row_in cs text n (start_of cs n)) i (length-rows cs text n ∙ here) ∙ ap (λ m. Some (row_in cs text m (start_of cs m))) here
]

get-value : (cs : List Column) (text : List ℕ) (i s k : ℕ) (c : Column) → slice_get cs k ≡ Some c
    → slice_get (row_in cs text i s) k ≡ Some (value_in c text i (row_end (take k cs) i s))
get-value [] text i s k c here = absurd (none-some c here)
get-value (c ∷ cs) text i s zero d here = ap (λ (e : Column). Some (value_in e text i s)) (column-is c d here)
get-value (c ∷ cs) text i s (suc k) d here = get-value cs text i (end_in c i s) k d here

-- the value at a row and a column
pub cell-value : (cs : List Column) (text : List ℕ) (n i k : ℕ) (c : Column) → i < n → slice_get cs k ≡ Some c
    → cell_at (rows_in cs text n) i k ≡ Some (value_in c text i (row_end (take k cs) i (start_of cs i)))
cell-value cs text n i k c below here =
    ap (λ o. cell_of o k) (get-row cs text n i below) ∙ get-value cs text i (start_of cs i) k c here

-- what the callers of a builder know of it

pub open-place : (cs : List Column) (text : List ℕ) (n place : ℕ) (b : Building) → building cs text n place ≡ b → Packs cs text n place → length b.open_row ≡ place
open-place cs text n place b is packs = subst (λ (d : Building). length d.open_row ≡ place) is (open-length cs text n place packs.within)

types-size : (cs : List Column) → length (map (λ (c : Column). c.ty) cs) ≡ length cs
types-size [] = refl
types-size (c ∷ cs) = omega (arith, types-size cs)

pub types-length : (cs : List Column) (text : List ℕ) (n place : ℕ) (b : Building) → building cs text n place ≡ b → length b.types ≡ length cs
types-length cs text n place b is = subst (λ (d : Building). length d.types ≡ length cs) is (types-size cs)

pub fits-here : (cs : List Column) (text : List ℕ) (n place : ℕ) (b : Building) (c : Column) (v : Value) → building cs text n place ≡ b → Packs cs text n place
    → slice_get cs place ≡ Some c → ((t : AttrType) → slice_get b.types (length b.open_row) ≡ Some t → FitsColumn t v) → FitsColumn c.ty v
fits-here cs text n place b c v is packs here fits =
    let at = slice_get-map (λ (c : Column). c.ty) cs place ∙ ap (λ o. option_map (λ (c : Column). c.ty) o) here in
    let seen = subst (λ (d : Building). slice_get d.types place ≡ Some c.ty) is at in
    fits c.ty (ap (λ k. slice_get b.types k) (open-place cs text n place b is packs) ∙ seen)

pub set-grown : (cs : List Column) (place x : ℕ) (b : Bool) (c d : Column) → slice_get cs place ≡ Some c → d ≡ grown c x b → slice_set cs place d ≡ grow_at cs place x b
set-grown [] place x b c d here is = absurd (none-some c here)
set-grown (c ∷ cs) zero x b d e here is = λ j. (is ∙ ap (λ (f : Column). grown f x b) (sym (column-is c d here))) j ∷ cs
set-grown (c ∷ cs) (suc place) x b d e here is = ap (λ (ds : List Column). c ∷ ds) (set-grown cs place x b d e here is)

-- where texts start

steady-type : (t : ColType) → ((s r n : ℕ) → end_from t s n ≡ end_from t r n) ⊎ ((s n : ℕ) → end_from t s n ≡ s)
steady-type type.Str = inl (λ s r n. refl)
steady-type t = inr (λ s n. refl)

steady-column : (c : Column) → ((i s r : ℕ) → end_in c i s ≡ end_in c i r) ⊎ ((i s : ℕ) → end_in c i s ≡ s)
unfolding end_in
steady-column c = elim (steady-type c.ty.base) as (λ _. ((i s r : ℕ) → end_in c i s ≡ end_in c i r) ⊎ ((i s : ℕ) → end_in c i s ≡ s)) [
  | inl one ↦ inl (λ i s r. one s r (nat_at (cell_width c.ty.base) c.cells i))
  | inr own ↦ inr (λ i s. own s (nat_at (cell_width c.ty.base) c.cells i))
]

steady : (cs : List Column) → ((i s r : ℕ) → row_end cs i s ≡ row_end cs i r) ⊎ ((i s : ℕ) → row_end cs i s ≡ s)
steady [] = inr (λ i s. refl)
steady (c ∷ cs) = elim (steady cs) as (λ _. ((i s r : ℕ) → row_end cs i (end_in c i s) ≡ row_end cs i (end_in c i r)) ⊎ ((i s : ℕ) → row_end cs i (end_in c i s) ≡ s)) [
  | inl one ↦ inl (λ i s r. one i (end_in c i s) (end_in c i r))
  | inr own ↦ elim (steady-column c) as (λ _. ((i s r : ℕ) → row_end cs i (end_in c i s) ≡ row_end cs i (end_in c i r)) ⊎ ((i s : ℕ) → row_end cs i (end_in c i s) ≡ s)) [
    | inl fixed ↦ inl (λ i s r. ap (λ e. row_end cs i e) (fixed i s r))
    | inr kept ↦ inr (λ i s. own i (end_in c i s) ∙ kept i s)
  ]
]

no-starts : (cs : List Column) → ((i s : ℕ) → row_end cs i s ≡ s) → (i : ℕ) → start_of cs i ≡ 0
no-starts cs own zero = refl
no-starts cs own (suc i) = own i (start_of cs i) ∙ no-starts cs own i

-- the texts of a row start where those of the row before end, whatever that began with
pub start-after : (cs : List Column) (i : ℕ) → row_end cs i 0 ≡ start_of cs (suc i)
start-after cs i = elim (steady cs) as (λ _. row_end cs i 0 ≡ row_end cs i (start_of cs i)) [
  | inl one ↦ one i 0 (start_of cs i)
  | inr own ↦ ap (λ s. row_end cs i s) (sym (no-starts cs own i))
]

-- the two calls of a builder

pub row-place : (cs : List Column) (text : List ℕ) (n place : ℕ) (b : Building) → building cs text n place ≡ b → Packs cs text n place → length b.open_row ≡ length b.types
    → place ≡ length cs
row-place cs text n place b is packs whole = sym (open-place cs text n place b is packs) ∙ (whole ∙ types-length cs text n place b is)

pub row-ends : (cs : List Column) (text : List ℕ) (n place : ℕ) (b : Building) → building cs text n place ≡ b → Packs cs text n place → length b.open_row ≡ length b.types
    → building cs text (n + 1) 0 ≡ record { types = b.types; rows = b.rows ++ b.open_row ∷ []; open_row = [] }
row-ends cs text n place b is packs whole =
    let at = ap (λ p. building cs text n p) (sym (row-place cs text n place b is packs whole)) ∙ is in
    ap (λ m. building cs text m 0) (n+1 n) ∙ (row-building cs text n
    ∙ ap (λ (d : Building). record { types = d.types; rows = d.rows ++ d.open_row ∷ []; open_row = [] }) at)

pub row-packed : (cs : List Column) (text : List ℕ) (n place : ℕ) (b : Building) → building cs text n place ≡ b → Packs cs text n place → length b.open_row ≡ length b.types
    → Packs cs text (n + 1) 0
row-packed cs text n place b is packs whole =
    subst (λ m. Packs cs text m 0) (sym (n+1 n)) (row-packs cs text n (subst (λ p. Packs cs text n p) (row-place cs text n place b is packs whole) packs))

pub cell-packed : (cs : List Column) (text more : List ℕ) (n place x end : ℕ) (null : Bool) (v : Value) (c d : Column) → Packs cs text n place
    → slice_get cs place ≡ Some c → FitsColumn c.ty v → more ≡ text ++ text_of_value v → end ≡ length more → end < 2 ^ 64
    → x ≡ number_of c.ty.base end v → null ≡ is_null v → d ≡ grown c x null
    → Packs (slice_set cs place d) more n (place + 1)
cell-packed cs text more n place x end null v c d packs here fits text_is at_end below x_is null_is is =
    let ds = set-grown cs place (number_of c.ty.base end v) (is_null v) c d here (is ∙ (λ j. grown c (x_is j) (null_is j))) in
    let all = cell-packs cs text n place end v c packs here fits (at_end ∙ ap (λ (t : List ℕ). length t) text_is) below in
    subst (λ (es : List Column). Packs es more n (place + 1)) (sym ds)
    (subst (λ (t : List ℕ). Packs (grow_at cs place (number_of c.ty.base end v) (is_null v)) t n (place + 1)) (sym text_is)
    (subst (λ p. Packs (grow_at cs place (number_of c.ty.base end v) (is_null v)) (text ++ text_of_value v) n p) (sym (n+1 place)) all))

pub cell-added : (cs : List Column) (text more : List ℕ) (n place x end : ℕ) (null : Bool) (v : Value) (c d : Column) (b : Building) → building cs text n place ≡ b → Packs cs text n place
    → slice_get cs place ≡ Some c → FitsColumn c.ty v → more ≡ text ++ text_of_value v → end ≡ length more → end < 2 ^ 64
    → x ≡ number_of c.ty.base end v → null ≡ is_null v → d ≡ grown c x null
    → building (slice_set cs place d) more n (place + 1) ≡ record { types = b.types; rows = b.rows; open_row = b.open_row ++ v ∷ [] }
cell-added cs text more n place x end null v c d b view packs here fits text_is at_end below x_is null_is is =
    let ds = set-grown cs place (number_of c.ty.base end v) (is_null v) c d here (is ∙ (λ j. grown c (x_is j) (null_is j))) in
    let all = cell-building cs text n place end v c packs here fits (at_end ∙ ap (λ (t : List ℕ). length t) text_is) below in
    (λ j. building (ds j) (text_is j) n (n+1 place j))
    ∙ (all ∙ ap (λ (e : Building). record { types = e.types; rows = e.rows; open_row = e.open_row ++ v ∷ [] }) view)

-- no rows

zero-mul : (w : ℕ) → 0 * w ≡ 0
zero-mul w = omega arith

pub fresh-filled : (cs : List Column) (c : Column) → Filled cs 0 0 0 → c.cells ≡ [] → c.nulls ≡ [] → Filled (cs ++ c ∷ []) 0 0 0
fresh-filled [] c filled cells nulls = (
  record {
    cells = omega (arith, ap (λ (t : List ℕ). length t) cells, zero-mul (width_bytes (cell_width c.ty.base)));
    nulls = λ _. ap (λ (t : List Bool). length t) nulls;
    ends = λ i below text. absurd (omega arith);
  },
  tt,
)
fresh-filled (d ∷ ds) c filled cells nulls = (filled.0, fresh-filled ds c filled.1 cells nulls)

-- a column without a cell
abbrev pub IsEmpty : Column → Type 0
IsEmpty c = (c.cells ≡ []) × (c.nulls ≡ [])

pub fresh-empty : (cs : List Column) (c : Column) → AllByRecursion IsEmpty cs → c.cells ≡ [] → c.nulls ≡ [] → AllByRecursion IsEmpty (cs ++ c ∷ [])
fresh-empty [] c all cells nulls = ((cells, nulls), tt)
fresh-empty (d ∷ ds) c all cells nulls = (all.0, fresh-empty ds c all.1 cells nulls)

no-nulls : (nullable : Bool) (nulls : List Bool) → nulls ≡ [] → nulls ≡ (if nullable then [] else [])
no-nulls true nulls is = is
no-nulls false nulls is = is

empty-columns : (cs : List Column) (k : ℕ) → AllByRecursion IsEmpty cs → AreColumnsOf cs k []
empty-columns [] k all = tt
empty-columns (c ∷ cs) k all = (record { cells = all.0.0; nulls = no-nulls c.ty.nullable c.nulls all.0.1 }, empty-columns cs (suc k) all.1)

pub fresh-packs : (cs : List Column) (text : List ℕ) → text ≡ [] → Filled cs 0 0 0 → AllByRecursion IsEmpty cs → Packs cs text 0 0
fresh-packs cs text none filled all = subst (λ (t : List ℕ). Packs cs t 0 0) (sym none) (record {
  filled = filled;
  within = omega arith;
  ends = refl;
  start = refl;
  settled = none-settled cs 0;
  packs = record { columns = columns-ended cs 0 [] (empty-columns cs 0 all); texts = refl };
})

pub fresh-types : (cs : List Column) (c : Column) (ts : List AttrType) (i : ℕ) → map (λ (c : Column). c.ty) cs ≡ take i ts → i < length ts → c.ty ≡ get_or ts i c.ty
    → map (λ (c : Column). c.ty) (cs ++ c ∷ []) ≡ take (i + 1) ts
fresh-types cs c ts i is below at = map-append (λ (c : Column). c.ty) cs (c ∷ []) ∙ ((λ j. is j ++ at j ∷ []) ∙ sym (take_more ts i c.ty below))

pub number-limit : (cs : List Column) (text : List ℕ) (n place end : ℕ) (v : Value) (c : Column) → Packs cs text n place → slice_get cs place ≡ Some c → FitsColumn c.ty v
    → end < 2 ^ 64 → number_of c.ty.base end v < limit_of (cell_width c.ty.base)
number-limit cs text n place end v c packs here fits below =
    number-fits c.ty.base v c.ty.nullable end fits below

-- what the callers of rows know of them

pub value-null : (c : Column) (text : List ℕ) (i s : ℕ) → null_in c i ≡ true → value_in c text i s ≡ Null
unfolding value_in
value-null c text i s is = ap (λ b. value_from c.ty.base b s (nat_at (cell_width c.ty.base) c.cells i) text) is ∙ from-null c.ty.base s (nat_at (cell_width c.ty.base) c.cells i) text

pub value-text-is : (c : Column) (text : List ℕ) (i s n : ℕ) → null_in c i ≡ false → c.ty.base ≡ type.Str → n ≡ nat_at (cell_width c.ty.base) c.cells i → S (between s n text) ≡ value_in c text i s
unfolding value_in
value-text-is c text i s n is str at =
    sym ((λ j. value_from c.ty.base (is j) s (nat_at (cell_width c.ty.base) c.cells i) text) ∙ ((λ j. value_from (str j) false s (nat_at (cell_width c.ty.base) c.cells i) text) ∙ ap (λ m. S (between s m text)) (sym at)))

from-number : (t : ColType) (s n : ℕ) (text : List ℕ) → t ≢ type.Str → value_from t false s n text ≡ number_value t n
from-number type.Str s n text not = absurd (not refl)
from-number t s n text not = refl

pub value-number-is : (c : Column) (text : List ℕ) (i s n : ℕ) → null_in c i ≡ false → c.ty.base ≢ type.Str → n ≡ nat_at (cell_width c.ty.base) c.cells i → number_value c.ty.base n ≡ value_in c text i s
unfolding value_in
value-number-is c text i s n is not at =
    sym ((λ j. value_from c.ty.base (is j) s (nat_at (cell_width c.ty.base) c.cells i) text) ∙ (from-number c.ty.base s (nat_at (cell_width c.ty.base) c.cells i) text not ∙ ap (λ m. number_value c.ty.base m) (sym at)))

start-unread-from : (t : ColType) (b : Bool) (s r n : ℕ) (text : List ℕ) → t ≢ type.Str → value_from t b s n text ≡ value_from t b r n text
start-unread-from t true s r n text not = from-null t s n text ∙ sym (from-null t r n text)
start-unread-from t false s r n text not = from-number t s n text not ∙ sym (from-number t r n text not)

start-unread : (c : Column) (text : List ℕ) (i s r : ℕ) → c.ty.base ≢ type.Str → value_in c text i s ≡ value_in c text i r
unfolding value_in
start-unread c text i s r not = start-unread-from c.ty.base (null_in c i) s r (nat_at (cell_width c.ty.base) c.cells i) text not

pub have-fewer : (cs : List Column) (m k : ℕ) → HaveCells cs m → k ≤ m → HaveCells cs k
have-fewer [] m k have fewer = tt
have-fewer (c ∷ cs) m k have fewer = (omega (arith, have.0, mul-le-mul_right (width_bytes (cell_width c.ty.base)) fewer), have-fewer cs m k have.1 fewer)

pub have-take : (cs : List Column) (m k : ℕ) → HaveCells cs m → HaveCells (take k cs) m
have-take [] m zero have = tt
have-take [] m (suc k) have = tt
have-take (c ∷ cs) m zero have = tt
have-take (c ∷ cs) m (suc k) have = (have.0, have-take cs m k have.1)

pub have-at : (cs : List Column) (m i : ℕ) (c : Column) → HaveCells cs m → slice_get cs i ≡ Some c → m * width_bytes (cell_width c.ty.base) ≤ length c.cells
have-at [] m i c have here = absurd (none-some c here)
have-at (c ∷ cs) m zero d have here = subst (λ (e : Column). m * width_bytes (cell_width e.ty.base) ≤ length e.cells) (column-is c d here) have.0
have-at (c ∷ cs) m (suc i) d have here = have-at cs m i d have.1 here

have-all : (cs : List Column) (n limit : ℕ) → Filled cs n zero limit → HaveCells cs n
have-all [] n limit filled = tt
have-all (c ∷ cs) n limit filled = (omega (arith, filled.0.cells), have-all cs n limit filled.1)

pub have-packed : (cs : List Column) (text : List ℕ) (n i : ℕ) → Packs cs text n 0 → i < n → HaveCells cs (i + 1)
have-packed cs text n i packs below = have-fewer cs n (i + 1) (have-all cs n (length text) packs.filled) (omega arith)

held-at : (cs : List Column) (n k limit : ℕ) (c : Column) → Filled cs n zero limit → slice_get cs k ≡ Some c → Holds c n limit
held-at [] n k limit c filled here = absurd (none-some c here)
held-at (c ∷ cs) n zero limit d filled here = subst (λ (e : Column). Holds e n limit) (column-is c d here) filled.0
held-at (c ∷ cs) n (suc k) limit d filled here = held-at cs n k limit d filled.1 here

pub is-held : (cs : List Column) (text : List ℕ) (n i k : ℕ) (c : Column) → Packs cs text n 0 → i < n → slice_get cs k ≡ Some c → IsHeld c i (length text)
is-held cs text n i k c packs below here = (n, held-at cs n k (length text) c packs.filled here, below)

no-value : (o : Option Value) → o ≡ None → IsSome o → ⊥
no-value o is some = false≢true (subst (λ (p : Option Value). IsSome p) is some)

pub row-known : (cs : List Column) (text : List ℕ) (n i k : ℕ) (rows : RowList) → rows_in cs text n ≡ rows → IsSome (cell_at rows i k) → i < n
row-known cs text n i k rows view some = elim (cases_lt i n) as (λ _. i < n) [
  | inl below ↦ below
  | inr past ↦ absurd (no-value (cell_at rows i k) (ap (λ (r : RowList). cell_at r i k) (sym view)
      ∙ ap (λ o. cell_of o k) (slice_get_past (rows_in cs text n) i (omega (arith, length-rows cs text n)))) some)
]

pub column-known : (cs : List Column) (text : List ℕ) (n i k : ℕ) (rows : RowList) → rows_in cs text n ≡ rows → IsSome (cell_at rows i k) → k < length cs
column-known cs text n i k rows view some = elim (cases_lt k (length cs)) as (λ _. k < length cs) [
  | inl below ↦ below
  | inr past ↦ absurd (no-value (cell_at rows i k) (ap (λ (r : RowList). cell_at r i k) (sym view)
      ∙ (ap (λ o. cell_of o k) (get-row cs text n i (row-known cs text n i k rows view some))
      ∙ slice_get_past (row_in cs text i (start_of cs i)) k (omega (arith, length-row cs text i (start_of cs i))))) some)
]

pub cell-read : (cs : List Column) (text : List ℕ) (n i k : ℕ) (c : Column) (v : Value) (rows : RowList) → rows_in cs text n ≡ rows → i < n → slice_get cs k ≡ Some c
    → v ≡ value_in c text i (row_end (take k cs) i (start_of cs i)) → cell_at rows i k ≡ Some v
cell-read cs text n i k c v rows view below here is =
    subst (λ (r : RowList). cell_at r i k ≡ Some v) view (cell-value cs text n i k c below here ∙ ap (λ (w : Value). Some w) (sym is))

pub cell-read-number : (cs : List Column) (text : List ℕ) (n i k : ℕ) (c : Column) (v : Value) (rows : RowList) → rows_in cs text n ≡ rows → i < n → slice_get cs k ≡ Some c
    → c.ty.base ≢ type.Str → v ≡ value_in c text i 0 → cell_at rows i k ≡ Some v
cell-read-number cs text n i k c v rows view below here not is =
    cell-read cs text n i k c v rows view below here (is ∙ start-unread c text i 0 (row_end (take k cs) i (start_of cs i)) not)

pub cell-there : (cs : List Column) (text : List ℕ) (n i k : ℕ) (rows : RowList) → rows_in cs text n ≡ rows → i < n → k < length cs → IsSome (cell_at rows i k)
cell-there [] text n i k rows view row column = absurd (omega arith)
cell-there (c ∷ cs) text n i k rows view row column =
    let here = slice_get-get_or (c ∷ cs) k c column in
    subst (λ (r : RowList). IsSome (cell_at r i k)) view (subst (λ (o : Option Value). IsSome o) (sym (cell-value (c ∷ cs) text n i k (get_or (c ∷ cs) k c) row here)) refl)

pub cell-absent : (cs : List Column) (text : List ℕ) (n i k : ℕ) (rows : RowList) → rows_in cs text n ≡ rows → (i < n → k < length cs → ⊥) → None ≡ cell_at rows i k
cell-absent cs text n i k rows view past = subst (λ (r : RowList). None ≡ cell_at r i k) view (elim (cases_lt i n) as (λ _. None ≡ cell_at (rows_in cs text n) i k) [
  | inl row ↦ elim (cases_lt k (length cs)) as (λ _. None ≡ cell_at (rows_in cs text n) i k) [
    | inl column ↦ absurd (past row column)
    | inr beyond ↦ sym (ap (λ o. cell_of o k) (get-row cs text n i row) ∙ slice_get_past (row_in cs text i (start_of cs i)) k (omega (arith, length-row cs text i (start_of cs i))))
  ]
  | inr below ↦ sym (ap (λ o. cell_of o k) (slice_get_past (rows_in cs text n) i (omega (arith, length-rows cs text n))))
])

pub nulls-few : (cs : List Column) (text : List ℕ) (n place : ℕ) (b : Building) (c : Column) → building cs text n place ≡ b → Packs cs text n place → slice_get cs place ≡ Some c
    → length b.rows < 4294967295 → c.ty.nullable ≡ true → length c.nulls < 4294967295
nulls-few cs text n place b c is packs here few nullable =
    omega (arith, (filled-at cs n place (length text) c packs.filled here).nulls nullable, length-rows cs text n, ap (λ (d : Building). length d.rows) is, few)

pub stored-is : (cs : List Column) (text : List ℕ) (n : ℕ) (rows : RowList) (types : List AttrType) → Packs cs text n 0 → rows_in cs text n ≡ rows
    → sum_by (column_size n) types + length text ≡ stored_size types rows
stored-is cs text n rows types packs is =
    let count : length rows ≡ n = sym (ap (λ (rs : RowList). length rs) is) ∙ length-rows cs text n in
    let whole = packs.packs.texts ∙ (text-more (rows_in cs text n) [] ∙ append-nil (text_of_rows (rows_in cs text n))) ∙ ap (λ (rs : RowList). text_of_rows rs) is in
    λ j. sum_by (column_size (sym count j)) types + length (whole j)

-- laws

types-apart : (c : Column) (cs : List Column) → types_of [] ≡ types_of (c ∷ cs) → ⊥
types-apart c cs same = absurd (omega (arith, ap (λ (ts : List AttrType). length ts) same))

head-type : (c d : Column) (cs ds : List Column) → types_of (c ∷ cs) ≡ types_of (d ∷ ds) → c.ty ≡ d.ty
head-type c d cs ds same = cc

tail-types : (c d : Column) (cs ds : List Column) → types_of (c ∷ cs) ≡ types_of (d ∷ ds) → types_of cs ≡ types_of ds
tail-types c d cs ds same = cc

one-column : (c d : Column) (k : ℕ) (rows : RowList) → IsColumnOf c k rows → IsColumnOf d k rows → c.ty ≡ d.ty → c ≡ d
one-column c d k rows is are same =
    let cells : c.cells ≡ d.cells = is.cells ∙ ((λ j. column_bytes (same j).base k 0 rows) ∙ sym are.cells) in
    let nulls : c.nulls ≡ d.nulls = is.nulls ∙ ((λ j. if (same j).nullable then column_nulls k rows else []) ∙ sym are.nulls) in
    λ j. record { ty = same j; cells = cells j; nulls = nulls j }

one-list : (cs ds : List Column) (k : ℕ) (rows : RowList) → AreColumnsOf cs k rows → AreColumnsOf ds k rows → types_of cs ≡ types_of ds → cs ≡ ds
one-list [] [] k rows is are same = refl
one-list [] (d ∷ ds) k rows is are same = absurd (types-apart d ds same)
one-list (c ∷ cs) [] k rows is are same = absurd (types-apart c cs (sym same))
one-list (c ∷ cs) (d ∷ ds) k rows is are same =
    let first = one-column c d k rows is.0 are.0 (head-type c d cs ds same) in
    let rest = one-list cs ds (suc k) rows is.1 are.1 (tail-types c d cs ds same) in
    λ j. first j ∷ rest j

-- the columns and the text of rows alone
pub whole-packs : (cs : List Column) (text : List ℕ) (n : ℕ) (rows : RowList) → StandFor cs text n rows → ArePacksOf cs text rows
whole-packs cs text n rows stand = subst (λ (rs : RowList). ArePacksOf cs text rs) stand.read (record {
  columns = columns-begun cs 0 (rows_in cs text n) stand.packs.packs.columns;
  texts = stand.packs.packs.texts ∙ (text-more (rows_in cs text n) [] ∙ append-nil (text_of_rows (rows_in cs text n)));
})

pub equal-packs : (cs ds : List Column) (text more : List ℕ) (n m : ℕ) (rows : RowList) → StandFor cs text n rows → StandFor ds more m rows → types_of cs ≡ types_of ds
    → (cs ≡ ds) × (text ≡ more)
equal-packs cs ds text more n m rows is are same =
    let first = whole-packs cs text n rows is in
    let other = whole-packs ds more m rows are in
    (one-list cs ds 0 rows first.columns other.columns same, first.texts ∙ sym other.texts)

null-size : (nullable : Bool) (nulls old : List Bool) (n : ℕ) → (nullable ≡ true → length nulls ≡ n) → nulls ≡ (if nullable then old else [])
    → (length nulls + 7) / 8 ≡ (if nullable then (n + 7) / 8 else 0)
null-size true nulls old n is same = ap (λ m. (m + 7) / 8) (is refl)
null-size false nulls old n is same = ap (λ (bs : List Bool). (length bs + 7) / 8) same

columns-size : (cs : List Column) (k n limit : ℕ) (rows : RowList) → Filled cs n zero limit → AreColumnsOf cs k rows
    → sum_by (λ (c : Column). length c.cells + (length c.nulls + 7) / 8) cs ≡ sum_by (column_size n) (types_of cs)
columns-size [] k n limit rows filled are = refl
columns-size (c ∷ cs) k n limit rows filled are =
    let bits = null-size c.ty.nullable c.nulls (column_nulls k rows) n filled.0.nulls are.0.nulls in
    let size = λ (d : Column). length d.cells + (length d.nulls + 7) / 8 in
    sum_by-cons size c cs ∙ (omega (arith, filled.0.cells, bits, columns-size cs (suc k) n limit rows filled.1 are.1) ∙ sym (sum_by-cons (column_size n) c.ty (types_of cs)))

pub whole-size : (cs : List Column) (text : List ℕ) (n : ℕ) (rows : RowList) → StandFor cs text n rows → packs_size cs text ≡ stored_size (types_of cs) rows
whole-size cs text n rows stand =
    let are = whole-packs cs text n rows stand in
    let count : length rows ≡ n = sym (ap (λ (rs : RowList). length rs) stand.read) ∙ length-rows cs text n in
    let columns = columns-size cs 0 n (length text) rows stand.packs.filled are.columns in
    (λ j. columns j + length (are.texts j)) ∙ ap (λ m. sum_by (column_size m) (types_of cs) + length (text_of_rows rows)) (sym count)
