-- What columns make of fields, one after another.
use Rattle.std.proofs.Common.{◌≡◌, ◌<◌, ◌∷◌, ◌++◌, ◌∙◌, [], List, length, map, Some, Result, Ok, Err, refl, sym, ap, arith}
use Rattle.std.specs.Prelude.{slice_get}
use Rattle.std.proofs.lemmas.List.{map-append}
use Rattle.dict_value.specs.declared.value.BadValue.{BadValue}
use Rattle.dict_value.specs.declared.value.BadValue.TheVariants as value
use Rattle.dict_value.specs.declared.value.Field.{Field}
use Rattle.dict_value.specs.declared.value.Value.{Value}
use Rattle.row_text.specs.Decoding.{Reader, Reads, readings}
use Rattle.dict_value.specs.Memory.{UnlessNoMemory}
use Rattle.row_text.specs.declared.decode.RowFault.{RowFault}
use Rattle.row_text.specs.declared.decode.RowFault.TheVariants as no_row
use Rattle.row_text.specs.steps.DecodeSteps.{TakeAll, column_fault}

-- the next field goes to the column at its place, and those behind it to the columns behind that one
pub record Turn (columns : List Reader) (before : List Field) (field : Field) (more : List Field) : Type 0 where
  pub column : Reader
  pub later : List Reader
  pub here : slice_get columns (length before) ≡ Some column
  pub parts : readings columns (before ++ field ∷ more) ≡ readings columns before ++ column field ∷ readings later more

-- what was read of a field is what the column at its place makes of it
abbrev pub Taken : List Reader → List Field → Field → Result Value BadValue → Type 0
Taken columns before field made = (column : Reader) → slice_get columns (length before) ≡ Some column → Reads column field made

pub turn : (columns : List Reader) (before : List Field) (field : Field) (more : List Field) → length before < length columns → Turn columns before field more
turn [] before field more below = absurd (omega arith)
turn (c ∷ cs) [] field more below = record { column = c; later = cs; here = refl; parts = refl }
turn (c ∷ cs) (b ∷ bs) field more below =
    let next = turn cs bs field more (omega arith) in
    record { column = next.column; later = next.later; here = next.here; parts = ap (λ (t : List (Result Value BadValue)). c b ∷ t) next.parts }

-- no field, no value
pub readings-none : (columns : List Reader) → readings columns [] ≡ []
readings-none [] = refl
readings-none (c ∷ cs) = refl

-- one more value
pub read-more : (columns : List Reader) (before : List Field) (field : Field) (row : List Value) (value : Value)
    → length before < length columns → readings columns before ≡ map Ok row → Taken columns before field (Ok value)
    → readings columns (before ++ field ∷ []) ≡ map Ok (row ++ value ∷ [])
read-more columns before field row value below read taken =
    let t = turn columns before field [] below in
    t.parts ∙ ap (λ (x : Result Value BadValue). readings columns before ++ x ∷ readings t.later []) (sym (taken t.column t.here))
    ∙ ap (λ (xs : List (Result Value BadValue)). readings columns before ++ Ok value ∷ xs) (readings-none t.later)
    ∙ ap (λ (xs : List (Result Value BadValue)). xs ++ Ok value ∷ []) read ∙ sym (map-append Ok row (value ∷ []))

-- this holds of a row's fault, unless it is want of memory
abbrev pub Unless : RowFault → Type 0 → Type 0
Unless fault P = UnlessNoMemory {A = Result (List Value) RowFault} (Err no_row.NoMemory) (Err fault) P

-- the first fault
pub read-fault : (columns : List Reader) (fields before : List Field) (field : Field) (more : List Field) (row : List Value) (fault : BadValue)
    → fields ≡ before ++ field ∷ more → length row ≡ length before → length before < length columns → readings columns before ≡ map Ok row → Taken columns before field (Err fault)
    → Unless (column_fault (length row) fault) (TakeAll columns fields (Err (column_fault (length row) fault)))
read-fault columns fields before field more row fault split count below read taken =
    let t = turn columns before field more below in
    let parts : readings columns fields ≡ map Ok row ++ t.column field ∷ readings t.later more =
    ap (readings columns) split ∙ t.parts ∙ ap (λ (xs : List (Result Value BadValue)). xs ++ t.column field ∷ readings t.later more) read in
    told (t.column field) (readings t.later more) fault (taken t.column t.here) parts
  where
    told : (made : Result Value BadValue) (later : List (Result Value BadValue)) (fault : BadValue) → Reads (λ _. made) field (Err fault)
        → readings columns fields ≡ map Ok row ++ made ∷ later
        → Unless (column_fault (length row) fault) (TakeAll columns fields (Err (column_fault (length row) fault)))
    told made later value.NoMemory takes parts some = absurd (some refl)
    told made later value.NotANumber takes parts _ = (row, value.NotANumber, later, parts ∙ ap (λ (x : Result Value BadValue). map Ok row ++ x ∷ later) (sym takes), refl, refl)
    told made later value.OutOfRange takes parts _ = (row, value.OutOfRange, later, parts ∙ ap (λ (x : Result Value BadValue). map Ok row ++ x ∷ later) (sym takes), refl, refl)
    told made later value.BadDate takes parts _ = (row, value.BadDate, later, parts ∙ ap (λ (x : Result Value BadValue). map Ok row ++ x ∷ later) (sym takes), refl, refl)
    told made later value.BadUuid takes parts _ = (row, value.BadUuid, later, parts ∙ ap (λ (x : Result Value BadValue). map Ok row ++ x ∷ later) (sym takes), refl, refl)
    told made later value.BadAddress takes parts _ = (row, value.BadAddress, later, parts ∙ ap (λ (x : Result Value BadValue). map Ok row ++ x ∷ later) (sym takes), refl, refl)
    told made later value.BadDecimal takes parts _ = (row, value.BadDecimal, later, parts ∙ ap (λ (x : Result Value BadValue). map Ok row ++ x ∷ later) (sym takes), refl, refl)
    told made later value.NullNotAllowed takes parts _ = (row, value.NullNotAllowed, later, parts ∙ ap (λ (x : Result Value BadValue). map Ok row ++ x ∷ later) (sym takes), refl, refl)
