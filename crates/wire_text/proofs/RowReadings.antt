-- What readings of rows and of their parts come to.
use Rattle.std.proofs.Common.{◌≡◌, ◌<◌, ◌^◌, ◌++◌, ◌∙◌, ℕ, List, [], ◌∷◌, Option, Some, None, Result, Ok, Err, length, take, suc, zero}
use Rattle.std.proofs.Common.{get_or, sym, ap, refl, subst, arith}
use Rattle.std.specs.List.{AllZip}
use Rattle.dict_value.specs.Memory.{UnlessNoMemory}
use Rattle.dict_value.specs.declared.fault.LineFault.{LineFault}
use Rattle.dict_value.specs.declared.fault.LineFault.TheVariants as fault
use Rattle.dict_value.specs.declared.value.Field.{Field}
use Rattle.dict_value.specs.declared.value.Field.TheVariants.{Null, Text}
use Rattle.row_text.proofs.OneReading.{one-row}
use Rattle.row_text.proofs.Tabled.{same-rows}
use Rattle.row_text.specs.TabRow.{IsTabRow, TabAnswers}
use Rattle.wire_text.specs.Numbers.{IsDecimalText}
use Rattle.wire_text.specs.Requests.{asked_above}
use Rattle.wire_text.specs.steps.Asked.{AsksBelow, ReadsBy, RowRead, RowsRead, request_fault}
use Rattle.wire_text.specs.steps.Fields.{text_first}
use Rattle.wire_text.specs.declared.request.Request.{Request}
use Rattle.wire_text.specs.declared.request.RequestFault.{RequestFault}
use Rattle.wire_text.specs.declared.request.RequestFault.TheVariants.{Bad, NoMemory}
use Rattle.wire_text.specs.declared.request.Verb.TheVariants as verb

-- a line with a fault has no fields
pub row_fault : (line : List ℕ) (f : LineFault)
    → ((answer : Result (List Field) LineFault) → TabAnswers line answer → UnlessNoMemory {A = Result (List Field) LineFault} (Err fault.NoMemory) (Err f) (Err f ≡ answer))
    → RowRead line (Err (request_fault f))
row_fault line fault.NoMemory only = tt
row_fault line (fault.BadEscape place) only = λ fields row. let e = only (Ok fields) row (λ x. cc) in cc
row_fault line fault.CarriageReturn only = λ fields row. let e = only (Ok fields) row (λ x. cc) in cc
row_fault line fault.NotOneRecord only = λ fields row. let e = only (Ok fields) row (λ x. cc) in cc

-- one row more
pub zip_more : (R : List ℕ → List Field → Type 0) (xs : List (List ℕ)) (ys : List (List Field)) (i : ℕ) (x : List ℕ) (y : List Field)
    → i < length xs → x ≡ get_or xs i x → AllZip R (take i xs) ys → R x y → AllZip R (take (suc i) xs) (ys ++ y ∷ [])
zip_more R [] ys i x y less at zip here = absurd (omega arith)
zip_more R (a ∷ xs) [] zero x y less at zip here = (subst (λ (z : List ℕ). R z y) at here, tt)
zip_more R (a ∷ xs) (b ∷ ys) zero x y less at zip here = absurd zip
zip_more R (a ∷ xs) [] (suc i) x y less at zip here = absurd zip
zip_more R (a ∷ xs) (b ∷ ys) (suc i) x y less at zip here = (zip.0, zip_more R xs ys i x y (omega arith) at zip.1 here)

-- a line without a row leaves the lines without rows
pub zip_not : (R : List ℕ → List Field → Type 0) (xs : List (List ℕ)) (ys : List (List Field)) (i : ℕ) (x : List ℕ)
    → i < length xs → x ≡ get_or xs i x → ((y : List Field) → ¬ R x y) → ¬ AllZip R xs ys
zip_not R [] ys i x less at none zip = omega arith
zip_not R (a ∷ xs) [] i x less at none zip = zip
zip_not R (a ∷ xs) (b ∷ ys) zero x less at none zip = none b (subst (λ (z : List ℕ). R z b) (sym at) zip.0)
zip_not R (a ∷ xs) (b ∷ ys) (suc i) x less at none zip = zip_not R xs ys i x (omega arith) at none zip.1

-- the first field, where it is a text, stands before the others
abbrev fields_back : Option (List ℕ × List Field) → List Field
fields_back None = []
fields_back (Some first) = Text first.0 ∷ first.1

pub text_stands : (fields rest : List Field) (text : List ℕ) → text_first fields ≡ Some (text, rest) → fields ≡ Text text ∷ rest
text_stands [] rest text e = cc
text_stands (Null ∷ fields) rest text e = cc
text_stands (Text t ∷ fields) rest text e = ap fields_back e

-- a name, a key and a level are one request
pub below_reads : (fields keys : List Field) (name digits : List ℕ) (key : Field) (level : ℕ) (answer : Result Request RequestFault)
    → fields ≡ Text name ∷ key ∷ Text digits ∷ [] → keys ≡ key ∷ [] → IsDecimalText digits level → level < 2 ^ 32
    → ReadsBy (λ r. r ≡ asked_above verb.Descendants name keys level) answer → ReadsBy (AsksBelow fields) answer
below_reads fields keys name digits key level (Ok r) e k number small read =
    (name, key, digits, level, e, number, small, read ∙ ap (λ (f : List Field). asked_above verb.Descendants name f level) k)
below_reads fields keys name digits key level (Err Bad) e k number small none = absurd (none _ refl)
below_reads fields keys name digits key level (Err NoMemory) e k number small read = tt

-- a line with a fault leaves the lines without rows
pub rows_fault : (lines : List (List ℕ)) (i : ℕ) (line : List ℕ) (f : RequestFault)
    → i < length lines → line ≡ get_or lines i line → RowRead line (Err f) → RowsRead lines (Err f)
rows_fault lines i line Bad less at none = λ rows. zip_not IsTabRow lines rows i line less at none
rows_fault lines i line NoMemory less at none = tt

-- lines have one list of rows
pub rows_whole : (lines : List (List ℕ)) (rows : List (List Field)) → AllZip IsTabRow lines rows → RowsRead lines (Ok rows)
rows_whole lines rows zip = (zip, λ others other. same-rows IsTabRow one-row lines others rows other zip)
