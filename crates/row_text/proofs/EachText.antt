-- Each line has an answer, each text has lines, and each decodes to something.
use Rattle.std.proofs.Common.{◌≡◌, ◌≤◌, ◌<◌, ◌+◌, ◌∷◌, ◌++◌, ◌⊎◌, [], ℕ, zero, suc, List, length, map, Option, Some, None, refl, sym, ap, subst, inl, inr, arith, append_assoc, true, Result, Ok, Err}
use Rattle.std.specs.Prelude.{◌&&◌, is_some}
use Rattle.std.proofs.lemmas.List.{append-nil, length-append}
use Rattle.std.proofs.lemmas.Bool.{and_parts, cases_Bool, cases_eq}
use Rattle.csv.specs.Machine.{Read, next_record}
use Rattle.csv.specs.Reading.{Reached, default_config, strip_bom}
use Rattle.csv.specs.declared.parser.State.TheVariants as st
use Rattle.dict_value.specs.declared.fault.LineFault.{LineFault}
use Rattle.dict_value.specs.declared.fault.LineFault.TheVariants as fault
use Rattle.dict_value.specs.declared.fault.Why.{Why}
use Rattle.dict_value.specs.declared.fault.Why.TheVariants as why
use Rattle.dict_value.specs.declared.value.BadValue.{BadValue}
use Rattle.dict_value.specs.declared.value.Field.{Field}
use Rattle.dict_value.specs.declared.value.Field.TheVariants as field
use Rattle.dict_value.specs.declared.value.Format.{Format}
use Rattle.dict_value.specs.declared.value.Format.TheVariants.{Tab, Csv}
use Rattle.dict_value.specs.declared.value.Value.{Value}
use Rattle.row_text.specs.declared.cutter.CutRule.{CutRule}
use Rattle.row_text.specs.declared.decode.DecodeFault.{DecodeFault}
use Rattle.row_text.specs.declared.decode.DecodeFault.TheVariants as decode
use Rattle.dict_value.specs.declared.value.TheConstants.{MOST_ROWS}
use Rattle.dict_value.specs.declared.letters.TheConstants.{BACKSLASH, LETTER_X}
use Rattle.dict_value.specs.Escapes.{hex_digit}
use Rattle.row_text.specs.Marks.{Mark, bare, escaped, hex, IsBadEscape, IsMark, Spells, spelled}
use Rattle.row_text.specs.TabRow.{HasBadEscape, TabAnswers, ends_in_return, fields_of}
use Rattle.row_text.specs.CsvRow.{CsvAnswers}
use Rattle.row_text.specs.Tables.{AreLines}
use Rattle.row_text.specs.Decoding.{AreTypedRows, Decodes, IsBadLine, IsTypedRow, LineGives, Miscounted, Reader, StandsBehind, Unread, Unvalued, is_row_line, readings, rule_of, told_count, why_of}
use Rattle.row_text.proofs.CsvReads.{no-records, two-records}
use Rattle.row_text.proofs.CutSteps.{open-nil}
use Rattle.row_text.proofs.Decoded.{all-lines, typed-more}

-- a text is marks, or has a first bad escape
abbrev Spelling : List ℕ → Type 0
Spelling text = ((marks : List Mark) × Spells text marks) ⊎ ((place : ℕ) × HasBadEscape text place)

-- one more mark in front
in-front : (mark : Mark) (text : List ℕ) → IsMark mark → Spelling text → Spelling (spelled mark ++ text)
in-front mark text is (inl (marks, s)) = inl (mark ∷ marks, record { valid = (is, s.valid); joined = ap (λ (t : List ℕ). spelled mark ++ t) s.joined })
in-front (bare b) text is (inr (place, (marks, s, bad))) =
    inr (suc place, (bare b ∷ marks, record { valid = (is, s.valid); joined = ap (λ (t : List ℕ). b ∷ t) s.joined }, bad))
in-front (escaped b) text is (inr (place, (marks, s, bad))) =
    inr (suc (suc place), (escaped b ∷ marks, record { valid = (is, s.valid); joined = ap (λ (t : List ℕ). BACKSLASH ∷ b ∷ t) s.joined }, bad))
in-front (hex h l) text is (inr (place, (marks, s, bad))) =
    inr (suc (suc (suc (suc place))), (hex h l ∷ marks, record { valid = (is, s.valid); joined = ap (λ (t : List ℕ). BACKSLASH ∷ LETTER_X ∷ h ∷ l ∷ t) s.joined }, bad))

bad-here : (text : List ℕ) → IsBadEscape text → Spelling text
bad-here text bad = inr (0, ([], record { valid = tt; joined = refl }, bad))

-- two digits make a mark
digits : (h l : ℕ) → (is_some (hex_digit h) && is_some (hex_digit l)) ≡ true → IsMark (hex h l)
digits h l e = and_parts (is_some (hex_digit h)) (is_some (hex_digit l)) e

-- a backslash and what follows it
hex-or-bad : (rest : List ℕ) → ((tail : List ℕ) → length tail < length rest → Spelling tail) → Spelling (BACKSLASH ∷ LETTER_X ∷ rest)
hex-or-bad [] on = bad-here _ (inr ([], refl, refl))
hex-or-bad (h ∷ []) on = bad-here _ (inr (h ∷ [], refl, refl))
hex-or-bad (h ∷ l ∷ rest) on = elim (cases_Bool (is_some (hex_digit h) && is_some (hex_digit l))) [
  | inl yes' ↦ in-front (hex h l) rest (digits h l yes') (on rest (omega arith))
  | inr no' ↦ bad-here _ (inr (h ∷ l ∷ rest, refl, no'))
]

escape-or-bad : (rest : List ℕ) → ((tail : List ℕ) → length tail < length rest → Spelling tail) → Spelling (BACKSLASH ∷ rest)
escape-or-bad [] on = bad-here _ (inl refl)
escape-or-bad (b ∷ rest) on = elim (cases_eq b LETTER_X) [
  | inl is ↦ subst (λ (k : ℕ). Spelling (BACKSLASH ∷ k ∷ rest)) (sym is) (hex-or-bad rest (λ tail lt. on tail (omega (arith, lt))))
  | inr other ↦ in-front (escaped b) rest other (on rest (omega arith))
]

spelling-below : (n : ℕ) (text : List ℕ) → length text < n → Spelling text
spelling-below zero text lt = absurd (omega (arith, lt))
spelling-below (suc n) [] lt = inl ([], record { valid = tt; joined = refl })
spelling-below (suc n) (b ∷ text) lt = elim (cases_eq b BACKSLASH) [
  | inl is ↦ subst (λ (k : ℕ). Spelling (k ∷ text)) (sym is) (escape-or-bad text (λ tail less. spelling-below n tail (omega (arith, less, lt))))
  | inr other ↦ in-front (bare b) text other (spelling-below n text (omega (arith, lt)))
]

-- each line of TabSeparated text has an answer
pub some-tab_answer : (line : List ℕ) → (answer : Result (List Field) LineFault) × TabAnswers line answer
some-tab_answer line = elim (spelling-below (length line + 1) line (omega arith)) [
  | inr bad ↦ (Err (fault.BadEscape bad.0), bad.1)
  | inl read ↦ elim (cases_Bool (ends_in_return read.0)) [
    | inl shut ↦ (Err fault.CarriageReturn, (read.0, read.1, shut))
    | inr opened ↦ (Ok (fields_of read.0), (read.0, read.1, opened, refl))
  ]
]

-- each line of CSV has an answer
pub some-csv_answer : (line : List ℕ) → (answer : Result (List Field) LineFault) × CsvAnswers line answer
unfolding Reached
some-csv_answer line = first (next_record default_config st.StartRecord [] [] (strip_bom line)) refl
  where
    first : (o : Option Read) → next_record default_config st.StartRecord [] [] (strip_bom line) ≡ o → (answer : Result (List Field) LineFault) × CsvAnswers line answer
    first None e = (Err fault.NotOneRecord, λ texts is. no-records (strip_bom line) texts e is)
    first (Some p) e = second (next_record default_config p.1 [] [] p.2) refl
      where
        second : (o : Option Read) → next_record default_config p.1 [] [] p.2 ≡ o → (answer : Result (List Field) LineFault) × CsvAnswers line answer
        second None end = (Ok (map field.Text p.0), (p.0, (p.1, p.2, (p, e, refl, (refl, refl)), end), refl))
        second (Some q) more = (Err fault.NotOneRecord, λ texts is. two-records (strip_bom line) texts p.0 q.0 q.1 q.2 (p, e, refl, (q, more, refl, (refl, refl))) is)

-- so has each line of either
pub some-answer : (format : Format) (line : List ℕ) → (answer : Result (List Field) LineFault) × LineGives format line answer
some-answer Tab line = some-tab_answer line
some-answer Csv line = some-csv_answer line

-- values alone, or values in front of a first fault
all-or-fault : (made : List (Result Value BadValue)) → ((row : List Value) × (made ≡ map Ok row))
    ⊎ ((before : List Value) × (bad : BadValue) × (after : List (Result Value BadValue)) × (made ≡ map Ok before ++ Err bad ∷ after))
all-or-fault [] = inl ([], refl)
all-or-fault (Err bad ∷ made) = inr ([], bad, made, refl)
all-or-fault (Ok value ∷ made) = elim (all-or-fault made) [
  | inl all ↦ inl (value ∷ all.0, ap (λ (t : List (Result Value BadValue)). Ok value ∷ t) all.1)
  | inr first ↦ inr (value ∷ first.0, first.1, first.2, ap (λ (t : List (Result Value BadValue)). Ok value ∷ t) first.3)
]

-- a line is a row, or has a reason why it is none
row-or-bad : (format : Format) (columns : List Reader) (line : List ℕ)
    → ((row : List Value) × IsTypedRow format columns line row) ⊎ ((column : ℕ) × (reason : Why) × IsBadLine format columns line column reason)
row-or-bad format columns line = of (some-answer format line).0 (some-answer format line).1
  where
    of : (answer : Result (List Field) LineFault) → LineGives format line answer
        → ((row : List Value) × IsTypedRow format columns line row) ⊎ ((column : ℕ) × (reason : Why) × IsBadLine format columns line column reason)
    of (Err bad) gives = inr (0, why_of bad, Unread bad gives refl refl)
    of (Ok fields) gives = elim (cases_eq (length fields) (length columns)) [
      | inr other ↦ inr (0, why.FieldCount (told_count (length fields)), Miscounted fields gives other refl refl)
      | inl same ↦ elim (all-or-fault (readings columns fields)) [
        | inl all ↦ inl (all.0, (fields, (gives, same), all.1))
        | inr first ↦ inr (length first.0 + 1, why.Value first.1, Unvalued fields first.0 first.1 first.2 (gives, same) first.3 refl refl)
      ]
    ]

-- what a text decodes to whose first lines are these rows
from-lines : (format : Format) (columns : List Reader) (text : List ℕ) (before after : List (List ℕ)) (rows : List (List Value)) → AreLines (rule_of format) text (before ++ after)
    → AreTypedRows format columns before rows → length rows ≤ MOST_ROWS → (answer : Result (List (List Value)) DecodeFault) × Decodes format columns text answer
from-lines format columns text before [] rows cut typed few =
    (Ok rows, record { lines = before; cut = subst (AreLines (rule_of format) text) (append-nil before) cut; typed = typed; few = few })
from-lines format columns text before (line ∷ after) rows cut typed few = elim (cases_Bool (is_row_line format line)) [
  | inr blank ↦ from-lines format columns text (before ++ line ∷ []) after rows (on cut) (typed-more format columns before line rows rows typed (inl (blank, refl))) few
  | inl is ↦
      let stands : StandsBehind format columns text rows line = record { before = before; after = after; cut = cut; typed = typed; is_row = is } in
      elim (cases_eq (length rows) MOST_ROWS) [
        | inl full ↦ (Err decode.TooMany, record { rows = rows; line = line; stands = stands; full = full })
        | inr room ↦ elim (row-or-bad format columns line) [
          | inl row ↦
              from-lines format columns text (before ++ line ∷ []) after (rows ++ row.0 ∷ []) (on cut)
              (typed-more format columns before line rows (rows ++ row.0 ∷ []) typed (inr (is, omega (arith, few, room), (row.0, row.1, refl))))
              (omega (arith, few, room, length-append rows (row.0 ∷ [])))
          | inr bad ↦ (
            Err (decode.Bad (record { line = length before + 1; column = bad.0; why = bad.1 })),
            record { rows = rows; line = line; stands = stands; room = omega (arith, few, room); numbered = refl; reason = bad.2 },
          )
        ]
      ]
]
  where
    on : AreLines (rule_of format) text (before ++ line ∷ after) → AreLines (rule_of format) text ((before ++ line ∷ []) ++ after)
    on cut = subst (AreLines (rule_of format) text) (sym (append_assoc before (line ∷ []) after)) cut

-- each text has lines, and decodes to something
pub some-lines : (by : CutRule) (text : List ℕ) → (lines : List (List ℕ)) × AreLines by text lines
some-lines by text = all-lines by [] text (open-nil by)

pub some-decoding : (format : Format) (columns : List Reader) (text : List ℕ) → (answer : Result (List (List Value)) DecodeFault) × Decodes format columns text answer
some-decoding format columns text =
    let lines = some-lines (rule_of format) text in
    from-lines format columns text [] lines.0 [] lines.1 tt (omega arith)
