-- The records that the reader of `csv` finds in a line.
use Rattle.std.proofs.Common.{◌≡◌, ◌<◌, ◌+◌, ◌∷◌, ◌++◌, ◌∙◌, [], Bool, ℕ, List, length, take, map, Option, Some, None, refl, sym, ap, subst, inl, inr, true, false, Result, Ok, Err}
use Rattle.std.proofs.lemmas.List.{map-append, take_all, take_more}
use Rattle.std.proofs.lemmas.Bool.{cases_lt}
use Rattle.csv.specs.Machine.{Read, next_record}
use Rattle.csv.specs.Reading.{AreRecords, Reached, ReadRecord, Ready, builder_config, builder_names_headers, builder_trim, default_config, names_headers, reader_config, reader_headers, reader_state, reader_trim, source_of, strip_bom, with_flexible, with_names_headers}
use Rattle.csv.specs.Records.{field_at}
use Rattle.csv.specs.declared.parser.State.{State}
use Rattle.csv.specs.declared.parser.State.TheVariants as st
use Rattle.csv.specs.declared.reader.Reader.{Reader}
use Rattle.csv.specs.declared.reader.ReaderBuilder.{ReaderBuilder}
use Rattle.csv.specs.declared.reader.Trim.TheVariants as trim
use Rattle.csv.proofs.ReadFacts.{rows-end, rows-more}
use Rattle.csv.proofs.RecordFacts.{field-get, field-none, field-there}
use Rattle.dict_value.specs.declared.value.Field.{Field}
use Rattle.dict_value.specs.declared.value.Field.TheVariants as field
use Rattle.dict_value.specs.declared.fault.LineFault.{LineFault}
use Rattle.dict_value.specs.declared.fault.LineFault.TheVariants as fault
use Rattle.row_text.specs.CsvRow.{CsvAnswers, IsCsvRow, IsRecord}
use Rattle.dict_value.specs.Memory.{UnlessNoMemory}

-- a reader that has read nothing of these bytes yet
pub record Fresh {R : Type 0} (rem : R → Option (List ℕ)) (a : Reader R) (bytes : List ℕ) : Type 0 where
  pub untrimmed : reader_trim a ≡ trim.None
  pub ready : Ready a
  pub config : a.config ≡ default_config
  pub source : source_of rem a ≡ Some bytes
  pub start : st.StartRecord ≡ a.state

pub fresh : {R : Type 0} (rem : R → Option (List ℕ)) (a : Reader R) (bytes : List ℕ) (none named flexible : ReaderBuilder) {b : Bool}
    → builder_config none ≡ default_config → builder_trim none ≡ trim.None → named ≡ with_names_headers none false → flexible ≡ with_flexible named b
    → reader_config a ≡ builder_config flexible → names_headers a ≡ builder_names_headers flexible → reader_trim a ≡ builder_trim flexible
    → reader_headers a ≡ None → reader_state a ≡ st.StartRecord → source_of rem a ≡ Some bytes → Fresh rem a bytes
fresh rem a bytes none named flexible {b} config trims n f rc rh rt headers state source = record {
  untrimmed = rt ∙ ap builder_trim (f ∙ ap (λ (x : ReaderBuilder). with_flexible x b) n) ∙ trims;
  ready = inr (inr (rh ∙ ap builder_names_headers (f ∙ ap (λ (x : ReaderBuilder). with_flexible x b) n), headers));
  config = rc ∙ ap builder_config (f ∙ ap (λ (x : ReaderBuilder). with_flexible x b) n) ∙ config;
  source = source;
  start = sym state;
}

-- a first record, and what is left
pub first-read : {R : Type 0} (rem : R → Option (List ℕ)) (a b : Reader R) (bytes : List ℕ) (texts : List (List ℕ)) → Fresh rem a bytes → ReadRecord rem a b true texts
    → (left : List ℕ) × (source_of rem b ≡ Some left) × Reached default_config st.StartRecord bytes (texts ∷ []) b.state left
unfolding Reached
first-read rem a b bytes texts f r = rows-more rem a b texts default_config st.StartRecord bytes bytes [] f.config f.source (f.start, refl) r

-- what the reads of a line show of its records
pub no-records : (bytes : List ℕ) (texts : List (List ℕ)) → next_record default_config st.StartRecord [] [] bytes ≡ None → AreRecords default_config st.StartRecord bytes (texts ∷ []) → ⊥
unfolding Reached
no-records bytes texts none (s, left, (p, e, is, rest), end) = cc (sym none ∙ e)

pub two-records : (bytes : List ℕ) (texts first next : List (List ℕ)) (s : State) (left : List ℕ) → Reached default_config st.StartRecord bytes (first ∷ next ∷ []) s left → AreRecords default_config st.StartRecord bytes (texts ∷ []) → ⊥
unfolding Reached
two-records bytes texts first next s left (p, e, is, (q, e', is2, rest)) (s', left', (p', f, is', (at, over)), end) =
    let same : p ≡ p' = cc (sym e ∙ f) in
    cc (sym (ap (λ (r : Read). next_record default_config r.1 [] [] r.2) same) ∙ e', at, over, end)

pub not-first : {R : Type 0} (rem : R → Option (List ℕ)) (a b : Reader R) (line : List ℕ) (found : List (List ℕ)) (texts : List (List ℕ)) → Fresh rem a (strip_bom line) → ReadRecord rem a b false found → IsRecord line texts → ⊥
not-first rem a b line found texts f r is =
    no-records (strip_bom line) texts (subst (λ (s : State). next_record default_config s [] [] (strip_bom line) ≡ None) (sym f.start) (rows-end rem a b found default_config (strip_bom line) f.config f.source r)) is

pub not-second : {R : Type 0} (rem : R → Option (List ℕ)) (a b d : Reader R) (line : List ℕ) (first next texts : List (List ℕ)) → Fresh rem a (strip_bom line) → ReadRecord rem a b true first → ReadRecord rem b d true next → IsRecord line texts → ⊥
not-second rem a b d line first next texts f r q is =
    let m = first-read rem a b (strip_bom line) first f r in
    let n = rows-more rem b d next default_config st.StartRecord (strip_bom line) m.0 (first ∷ []) (r.2 ∙ f.config) m.1 m.2 q in
    two-records (strip_bom line) texts first next d.state n.0 n.2 is

pub only-first : {R : Type 0} (rem : R → Option (List ℕ)) (a b d : Reader R) (line : List ℕ) (first next : List (List ℕ)) → Fresh rem a (strip_bom line) → ReadRecord rem a b true first → ReadRecord rem b d false next → IsRecord line first
only-first rem a b d line first next f r q =
    let m = first-read rem a b (strip_bom line) first f r in
    (b.state, m.0, m.2, rows-end rem b d next default_config m.0 (r.2 ∙ f.config) m.1 q)

-- a line is one record in one way
one-record : (line : List ℕ) (a b : List (List ℕ)) → IsRecord line a → IsRecord line b → a ≡ b
unfolding Reached
one-record line a b (s, left, (p, e, is, rest), end) (s', left', (p', e', is', rest'), end') =
    let same : p ≡ p' = cc (sym e ∙ e') in
    is ∙ ap (λ (r : Read). r.0) same ∙ sym is'

pub one-csv_row : (line : List ℕ) (f g : List Field) → IsCsvRow line f → IsCsvRow line g → f ≡ g
one-csv_row line f g p q = p.2 ∙ ap (map field.Text) (one-record line p.0 q.0 p.1 q.1) ∙ sym q.2

pub one-answer : (line : List ℕ) (a b : Result (List Field) LineFault) → CsvAnswers line a → CsvAnswers line b → a ≡ b
one-answer line (Ok f) (Ok g) p q = ap (λ (t : List Field). Ok t) (one-csv_row line f g p q)
one-answer line (Ok f) (Err (fault.BadEscape j)) p q = absurd q
one-answer line (Ok f) (Err fault.CarriageReturn) p q = absurd q
one-answer line (Ok f) (Err fault.NotOneRecord) p q = absurd (q p.0 p.1)
one-answer line (Ok f) (Err fault.NoMemory) p q = absurd q
one-answer line (Err (fault.BadEscape i)) b p q = absurd p
one-answer line (Err fault.CarriageReturn) b p q = absurd p
one-answer line (Err fault.NoMemory) b p q = absurd p
one-answer line (Err fault.NotOneRecord) (Ok g) p q = absurd (p q.0 q.1)
one-answer line (Err fault.NotOneRecord) (Err (fault.BadEscape j)) p q = absurd q
one-answer line (Err fault.NotOneRecord) (Err fault.CarriageReturn) p q = absurd q
one-answer line (Err fault.NotOneRecord) (Err fault.NotOneRecord) p q = refl
one-answer line (Err fault.NotOneRecord) (Err fault.NoMemory) p q = absurd q

-- so what was answered is any other answer
pub only-answer : (line : List ℕ) (r a : Result (List Field) LineFault) → UnlessNoMemory (Err fault.NoMemory) r (CsvAnswers line r)
    → CsvAnswers line a → UnlessNoMemory (Err fault.NoMemory) r (r ≡ a)
only-answer line r a p q = λ some. one-answer line r a (p some) q

-- the fields of a record, one after another
pub there : (texts : List (List ℕ)) (at : ℕ) (text : List ℕ) → Some text ≡ field_at texts at → at < length texts
there texts at text e = elim (cases_lt at (length texts)) [ inl lt ↦ lt | inr past ↦ absurd (let h : Some text ≡ None = e ∙ field-none texts at past in cc h) ]

pub more-fields : (texts : List (List ℕ)) (at : ℕ) (text : List ℕ) → Some text ≡ field_at texts at → map field.Text (take (at + 1) texts) ≡ map field.Text (take at texts) ++ field.Text text ∷ []
more-fields texts at text e =
    ap (map field.Text) (take_more texts at [] (there texts at text e) ∙ ap (λ (t : List ℕ). take at texts ++ t ∷ []) (field-get texts at text (sym e)))
    ∙ map-append field.Text (take at texts) (text ∷ [])

pub all-fields : (texts : List (List ℕ)) (at : ℕ) → None ≡ field_at texts at → map field.Text (take at texts) ≡ map field.Text texts
all-fields texts at e = elim (cases_lt at (length texts)) [ inl lt ↦ absurd (field-there texts at lt (sym e)) | inr past ↦ ap (map field.Text) (take_all at texts past) ]
