-- Whole texts and their tables.
use Rattle.std.proofs.Common.{◌≡◌, ◌≢◌, ◌∷◌, ◌++◌, ◌∙◌, ◌==◌, [], ℕ, List, map, Option, Some, None, refl, sym, ap, subst, inl, inr, true, false, not}
use Rattle.std.specs.Prelude.{filter}
use Rattle.std.specs.List.{AllByRecursion, AllZip, flat_map}
use Rattle.std.proofs.lemmas.List.{append-nil}
use Rattle.std.proofs.lemmas.Bool.{and_parts, cases_Bool, eqb-true}
use Rattle.csv.specs.Machine.{next_record}
use Rattle.csv.specs.Reading.{Reached, default_config, strip_bom}
use Rattle.csv.specs.declared.parser.State.TheVariants as st
use Rattle.dict_value.specs.declared.value.Field.{Field}
use Rattle.row_text.specs.declared.cutter.CutRule.{CutRule}
use Rattle.row_text.specs.declared.cutter.CutRule.TheVariants as rule
use Rattle.row_text.specs.Cutting.{IsWhole, ended}
use Rattle.row_text.specs.CsvRow.{BeginsWithMark, IsCsvRow, csv_fields, csv_line, csv_text, is_blank_line}
use Rattle.dict_value.specs.declared.letters.TheConstants.{CARRIAGE_RETURN}
use Rattle.row_text.specs.TabRow.{IsTabRow, row_line}
use Rattle.row_text.specs.Tables.{AreLines, IsCsvTable, IsTabTable, last_line}
use Rattle.row_text.proofs.CsvReads.{one-csv_row}
use Rattle.row_text.proofs.CsvWritten as csv
use Rattle.row_text.proofs.CutSteps.{open-nil}
use Rattle.row_text.proofs.OneCutting.{same-cuts}
use Rattle.row_text.proofs.OneReading.{one-row}
use Rattle.row_text.proofs.Written as tab

-- a text has one list of lines
pub one-lines : (by : CutRule) (text : List ℕ) (lines others : List (List ℕ)) → AreLines by text lines → AreLines by text others → lines ≡ others
one-lines by text lines others (rows, rest, cuts, are) (rows', rest', cuts', are') =
    let same = same-cuts by text rows rows' rest rest' cuts cuts' in
    are ∙ ap (λ (rs : List (List ℕ)). rs ++ last_line rest) same.0 ∙ ap (λ (r : List ℕ). rows' ++ last_line r) same.1 ∙ sym are'

-- rows that are fixed by their lines
pub same-rows : {Row : Type 0} → (R : List ℕ → Row → Type 0) → ((line : List ℕ) (f g : Row) → R line f → R line g → f ≡ g)
    → (lines : List (List ℕ)) (table other : List Row) → AllZip R lines table → AllZip R lines other → table ≡ other
same-rows R one [] [] [] p q = refl
same-rows R one [] [] (g ∷ gs) p q = absurd q
same-rows R one [] (f ∷ fs) other p q = absurd p
same-rows R one (line ∷ lines) [] other p q = absurd p
same-rows R one (line ∷ lines) (f ∷ fs) [] p q = absurd q
same-rows R one (line ∷ lines) (f ∷ fs) (g ∷ gs) p q =
    ap (λ row. row ∷ fs) (one line f g p.0 q.0) ∙ ap (λ rows. g ∷ rows) (same-rows R one lines fs gs p.1 q.1)

pub one-tab_table : (text : List ℕ) (table other : List (List Field)) → IsTabTable text table → IsTabTable text other → table ≡ other
one-tab_table text table other (lines, are, rows) (lines', are', rows') =
    let same = one-lines rule.Tab text lines lines' are are' in
    same-rows IsTabRow one-row lines' table other (subst (λ (ls : List (List ℕ)). AllZip IsTabRow ls table) same rows) rows'

pub one-csv_table : (text : List ℕ) (table other : List (List Field)) → IsCsvTable text table → IsCsvTable text other → table ≡ other
one-csv_table text table other (lines, are, rows) (lines', are', rows') =
    let same = one-lines rule.Csv text lines lines' are are' in
    same-rows IsCsvRow one-csv_row _ table other (subst (λ (ls : List (List ℕ)). AllZip IsCsvRow (filter (λ line. not (is_blank_line line)) ls) table) same rows) rows'

-- lines that are whole rows, each with its line feed, are the lines of their text
whole-lines : (by : CutRule) (lines : List (List ℕ)) → AllByRecursion (IsWhole by) lines → AreLines by (flat_map ended lines) lines
whole-lines by lines whole = (lines, [], record { joined = sym (append-nil (flat_map ended lines)); whole = whole; opened = open-nil by }, sym (append-nil lines))

pub tab-table : (rows : List (List Field)) → AllByRecursion (λ row. row ≢ []) rows → IsTabTable (flat_map (λ row. ended (row_line row)) rows) rows
tab-table rows some = (map row_line rows, subst (λ (t : List ℕ). AreLines rule.Tab t (map row_line rows)) (text rows) (whole-lines rule.Tab (map row_line rows) (whole rows some)), read rows some)
  where
    text : (rows : List (List Field)) → flat_map ended (map row_line rows) ≡ flat_map (λ row. ended (row_line row)) rows
    text [] = refl
    text (row ∷ rows) = ap (λ (t : List ℕ). ended (row_line row) ++ t) (text rows)

    whole : (rows : List (List Field)) → AllByRecursion (λ row. row ≢ []) rows → AllByRecursion (IsWhole rule.Tab) (map row_line rows)
    whole [] some = tt
    whole (row ∷ rows) some = (tab.row-whole row some.0, whole rows some.1)

    read : (rows : List (List Field)) → AllByRecursion (λ row. row ≢ []) rows → AllZip IsTabRow (map row_line rows) rows
    read [] some = tt
    read (row ∷ rows) some = (tab.row-again row some.0, read rows some.1)

-- a blank line has no record
blank-none : (line : List ℕ) → is_blank_line line ≡ true → next_record default_config st.StartRecord [] [] line ≡ None
unfolding next_record
blank-none [] blank = refl
blank-none (b ∷ line) blank =
    let parts = and_parts (b == CARRIAGE_RETURN) (is_blank_line line) blank in
    rw (eqb-true b CARRIAGE_RETURN parts.0) (blank-none line parts.1)

blank-strip : (line : List ℕ) → is_blank_line line ≡ true → strip_bom line ≡ line
unfolding strip_bom
blank-strip [] blank = refl
blank-strip (a ∷ []) blank = refl
blank-strip (a ∷ b ∷ []) blank = refl
blank-strip (a ∷ b ∷ c ∷ rest) blank = rw (eqb-true a CARRIAGE_RETURN (and_parts (a == CARRIAGE_RETURN) (is_blank_line (b ∷ c ∷ rest)) blank).0) refl

row-not_blank : (line : List ℕ) (fields : List Field) → IsCsvRow line fields → is_blank_line line ≡ false
unfolding Reached
row-not_blank line fields (texts, (s, left, (p, e, is, rest), end), are) = elim (cases_Bool (is_blank_line line)) [
  | inr some ↦ some
  | inl blank ↦ absurd (let none : ◌≡◌ {A = Option _} None (Some p) = sym (blank-none line blank) ∙ ap (next_record default_config st.StartRecord [] []) (sym (blank-strip line blank)) ∙ e in cc none)
]

pub csv-table : (rows : List (List Field)) → AllByRecursion (λ row. (row ≢ []) × (¬ BeginsWithMark row)) rows → IsCsvTable (flat_map csv_text rows) (map csv_fields rows)
csv-table rows some = (
  map csv_line rows,
  subst (λ (t : List ℕ). AreLines rule.Csv t (map csv_line rows)) (text rows) (whole-lines rule.Csv (map csv_line rows) (whole rows)),
  subst (λ (ls : List (List ℕ)). AllZip IsCsvRow ls (map csv_fields rows)) (sym (kept rows some)) (read rows some),
)
  where
    text : (rows : List (List Field)) → flat_map ended (map csv_line rows) ≡ flat_map csv_text rows
    text [] = refl
    text (row ∷ rows) = ap (λ (t : List ℕ). t ++ flat_map ended (map csv_line rows)) (sym (csv.text-line row)) ∙ ap (λ (t : List ℕ). csv_text row ++ t) (text rows)

    whole : (rows : List (List Field)) → AllByRecursion (IsWhole rule.Csv) (map csv_line rows)
    whole [] = tt
    whole (row ∷ rows) = (csv.row-whole row, whole rows)

    read : (rows : List (List Field)) → AllByRecursion (λ row. (row ≢ []) × (¬ BeginsWithMark row)) rows → AllZip IsCsvRow (map csv_line rows) (map csv_fields rows)
    read [] some = tt
    read (row ∷ rows) some = (csv.row-again row some.0.0 some.0.1, read rows some.1)

    kept : (rows : List (List Field)) → AllByRecursion (λ row. (row ≢ []) × (¬ BeginsWithMark row)) rows → filter (λ line. not (is_blank_line line)) (map csv_line rows) ≡ map csv_line rows
    kept [] some = refl
    kept (row ∷ rows) some =
        rw (row-not_blank (csv_line row) (csv_fields row) (csv.row-again row some.0.0 some.0.1)) (ap (λ (ls : List (List ℕ)). csv_line row ∷ ls) (kept rows some.1))
