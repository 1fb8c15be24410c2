-- A text decoded line by line: what is decoded so far, and what the rest decodes to, is what the whole decodes to.
use Rattle.std.proofs.Common.{◌≡◌, ◌≢◌, ◌≤◌, ◌<◌, ◌+◌, ◌∷◌, ◌++◌, ◌∙◌, [], ℕ, List, length, refl, sym, ap, subst, inl, inr, arith, append_assoc, true, Result, Ok, Err}
use Rattle.std.specs.Prelude.{filter}
use Rattle.std.specs.Result.{IsErrAnd}
use Rattle.std.specs.List.{AllZip, flat_map}
use Rattle.std.proofs.lemmas.List.{append-nil, length-append}
use Rattle.std.proofs.lemmas.Bool.{cases_Bool, cases_eq}
use Rattle.dict_value.specs.declared.fault.LineFault.{LineFault}
use Rattle.dict_value.specs.declared.fault.LineFault.TheVariants as of_line
use Rattle.dict_value.specs.declared.value.Field.{Field}
use Rattle.dict_value.specs.declared.value.Format.{Format}
use Rattle.dict_value.specs.declared.value.Value.{Value}
use Rattle.row_text.specs.declared.cutter.CutRule.{CutRule}
use Rattle.dict_value.specs.declared.letters.TheConstants.{LINE_FEED}
use Rattle.row_text.specs.Cutting.{IsOpen, IsWhole, ended, keeps_open}
use Rattle.row_text.specs.Tables.{AreLines, last_line}
use Rattle.row_text.specs.Decoding.{AreTypedRows, Reader, Decodes, FillsColumns, IsTypedRow, LineGives, StandsBehind, Unread, Unvalued, is_row_line, rule_of}
use Rattle.row_text.specs.steps.CutSteps.{BeginsWithLine}
use Rattle.row_text.specs.steps.DecodeSteps.{AddsLine, LineBrings, LineDecodes, TakeAll, fault_at, row_fault}
use Rattle.dict_value.specs.Memory.{UnlessNoMemory}
use Rattle.dict_value.specs.declared.value.TheConstants.{MOST_ROWS}
use Rattle.row_text.specs.declared.decode.DecodeFault.{DecodeFault}
use Rattle.row_text.specs.declared.decode.DecodeFault.TheVariants as decode
use Rattle.row_text.specs.declared.decode.RowFault.{RowFault}
use Rattle.row_text.specs.declared.decode.RowFault.TheVariants as row
use Rattle.row_text.proofs.CutSteps.{open-nil, open-push}
use Rattle.row_text.proofs.Readings as of_row
use Rattle.row_text.proofs.Tabled.{one-lines}

-- no text, no line
lines-nil : (by : CutRule) → AreLines by [] []
lines-nil by = ([], [], record { joined = refl; whole = tt; opened = open-nil by }, refl)

-- the lines of a text behind a whole one
lines-whole : (by : CutRule) (line rest : List ℕ) (later : List (List ℕ)) → IsWhole by line → AreLines by rest later → AreLines by (ended line ++ rest) (line ∷ later)
lines-whole by line rest later whole (rows, left, cuts, are) = (
  line ∷ rows,
  left,
  record {
    joined = ap (λ (t : List ℕ). ended line ++ t) cuts.joined ∙ sym (append_assoc (ended line) (flat_map ended rows) left);
    whole = (whole, cuts.whole);
    opened = cuts.opened;
  },
  ap (λ (ls : List (List ℕ)). line ∷ ls) are,
)

-- bytes in which no row has ended are one line, where there are any
lines-open : (by : CutRule) (line : List ℕ) → IsOpen by line → AreLines by line (last_line line)
lines-open by line opened = ([], line, record { joined = refl; whole = tt; opened = opened }, refl)

-- the next byte belongs to the row
longer : (by : CutRule) (row : List ℕ) (b : ℕ) (text : List ℕ) → (lines : List (List ℕ)) × AreLines by ((row ++ b ∷ []) ++ text) lines → (lines : List (List ℕ)) × AreLines by (row ++ b ∷ text) lines
longer by row b text (lines, are) = (lines, subst (λ (t : List ℕ). AreLines by t lines) (append_assoc row (b ∷ []) text) are)

-- each text has lines
pub all-lines : (by : CutRule) (row text : List ℕ) → IsOpen by row → (lines : List (List ℕ)) × AreLines by (row ++ text) lines
all-lines by row [] opened = (last_line row, subst (λ (t : List ℕ). AreLines by t (last_line row)) (sym (append-nil row)) (lines-open by row opened))
all-lines by row (b ∷ text) opened = elim (cases_eq b LINE_FEED) [
  | inl feed ↦ elim (cases_Bool (keeps_open by row)) [
    | inl kept ↦ longer by row b text (all-lines by (row ++ b ∷ []) text (open-push by row b opened (λ _. kept)))
    | inr ends ↦
        let more = all-lines by [] text (open-nil by) in
        (row ∷ more.0, subst (λ (t : List ℕ). AreLines by t (row ∷ more.0)) (append_assoc row (LINE_FEED ∷ []) text ∙ ap (λ (n : ℕ). row ++ n ∷ text) (sym feed)) (lines-whole by row text more.0 (record { opened = opened; ends = ends }) more.1))
  ]
  | inr other ↦ longer by row b text (all-lines by (row ++ b ∷ []) text (open-push by row b opened (λ e. absurd (other e))))
]

-- lists that go together, one behind the other
zip-append : (R : List ℕ → List Value → Type 0) (lines later : List (List ℕ)) (rows others : List (List Value)) → AllZip R lines rows → AllZip R later others → AllZip R (lines ++ later) (rows ++ others)
zip-append R [] later [] others typed behind = behind
zip-append R [] later (r ∷ rows) others typed behind = absurd typed
zip-append R (l ∷ lines) later [] others typed behind = absurd typed
zip-append R (l ∷ lines) later (r ∷ rows) others typed behind = (typed.0, zip-append R lines later rows others typed.1 behind)

filter-append : (format : Format) (lines later : List (List ℕ)) → filter (is_row_line format) (lines ++ later) ≡ filter (is_row_line format) lines ++ filter (is_row_line format) later
filter-append format [] later = refl
filter-append format (l ∷ lines) later = elim (cases_Bool (is_row_line format l)) [
  | inl yes' ↦ rw yes' (ap (λ (ls : List (List ℕ)). l ∷ ls) (filter-append format lines later))
  | inr no' ↦ rw no' (filter-append format lines later)
]

-- more lines and their rows
pub typed-all : (format : Format) (columns : List Reader) (lines later : List (List ℕ)) (rows others : List (List Value)) → AreTypedRows format columns lines rows → AreTypedRows format columns later others
    → AreTypedRows format columns (lines ++ later) (rows ++ others)
typed-all format columns lines later rows others typed behind =
    rw (filter-append format lines later) (zip-append (IsTypedRow format columns) (filter (is_row_line format) lines) (filter (is_row_line format) later) rows others typed behind)

-- one more line and its row
pub typed-more : (format : Format) (columns : List Reader) (lines : List (List ℕ)) (line : List ℕ) (rows new : List (List Value)) → AreTypedRows format columns lines rows → AddsLine format columns line rows new → AreTypedRows format columns (lines ++ line ∷ []) new
typed-more format columns lines line rows new typed (inl (blank, same)) =
    let kept : filter (is_row_line format) (line ∷ []) ≡ [] = rw blank refl in
    rw (filter-append format lines (line ∷ []), kept, append-nil (filter (is_row_line format) lines), same) typed
typed-more format columns lines line rows new typed (inr (is, few, (values, row, same))) =
    let kept : filter (is_row_line format) (line ∷ []) ≡ line ∷ [] = rw is refl in
    rw (filter-append format lines (line ∷ []), kept, same) (zip-append (IsTypedRow format columns) (filter (is_row_line format) lines) (line ∷ []) rows (values ∷ []) typed (row, tt))

-- this holds, unless the answer is want of memory
abbrev pub Unless : {A : Type 0} → Result A DecodeFault → Type 0 → Type 0
Unless answer P = UnlessNoMemory (Err decode.NoMemory) answer P

-- an answer that hands this fault on
pub handed-on : {A : Type 0} → (P : Result A DecodeFault → Type 0) (answer : Result A DecodeFault) (fault : DecodeFault) → IsErrAnd answer (λ told. told ≡ fault) → Unless {A = A} (Err fault) (P (Err fault)) → Unless answer (P answer)
handed-on P (Ok rows) fault same found = absurd same
handed-on {A} P (Err told) fault same found = subst (λ (x : DecodeFault). Unless {A = A} (Err x) (P (Err x))) (sym same) found

-- the fault of a line
pub line-unread : (format : Format) (columns : List Reader) (line : List ℕ) (fault : LineFault) → UnlessNoMemory {A = Result (List Field) LineFault} (Err of_line.NoMemory) (Err fault) (LineGives format line (Err fault))
    → of_row.Unless (row_fault fault) (LineDecodes format columns line (Err (row_fault fault)))
line-unread format columns line (of_line.BadEscape place) gives _ = Unread (of_line.BadEscape place) (gives (λ e. cc)) refl refl
line-unread format columns line of_line.CarriageReturn gives _ = Unread of_line.CarriageReturn (gives (λ e. cc)) refl refl
line-unread format columns line of_line.NotOneRecord gives _ = Unread of_line.NotOneRecord (gives (λ e. cc)) refl refl
line-unread format columns line of_line.NoMemory gives want = absurd (want refl)

-- the fields of a line and what the columns make of them
pub line-valued : (format : Format) (columns : List Reader) (line : List ℕ) (fields : List Field) → FillsColumns format columns line fields → (made : Result (List Value) RowFault)
    → UnlessNoMemory (Err row.NoMemory) made (TakeAll columns fields made) → UnlessNoMemory (Err row.NoMemory) made (LineDecodes format columns line made)
line-valued format columns line fields has (Ok values) taken want = (fields, has, taken want)
line-valued format columns line fields has (Err (row.Bad column reason)) taken want =
    let first = taken want in Unvalued fields first.0 first.1 first.2 has first.3 first.4 first.5
line-valued format columns line fields has (Err row.NoMemory) taken want = absurd (want refl)

-- the fault of the line of this number
pub line-fault : (format : Format) (columns : List Reader) (line : List ℕ) (number : ℕ) (old new : List (List Value)) → is_row_line format line ≡ true → length old < MOST_ROWS → (fault : RowFault)
    → of_row.Unless fault (LineDecodes format columns line (Err fault)) → Unless {A = Unit {0}} (Err (fault_at number fault)) (LineBrings format columns line number old (Err (fault_at number fault)) new)
line-fault format columns line number old new is room (row.Bad column reason) found _ = (is, room, refl, found (λ e. cc))
line-fault format columns line number old new is room row.NoMemory found want = absurd (want refl)

-- one more line brings one row more at most, and none to a full list
pub rows-few : (format : Format) (columns : List Reader) (line : List ℕ) (old new : List (List Value)) → length old ≤ MOST_ROWS → AddsLine format columns line old new → length new ≤ MOST_ROWS
rows-few format columns line old new few (inl (blank, same)) = omega (arith, ap length same)
rows-few format columns line old new few (inr (is, room, (values, row, same))) = omega (arith, ap length same, length-append old (values ∷ []))
