-- A written CSV row is one row, and is read again.
use Rattle.std.proofs.Common.{◌≡◌, ◌≢◌, ◌∷◌, ◌++◌, ◌∙◌, ◌==◌, [], ℕ, List, length, map, Option, Some, None, refl, sym, ap, subst, inl, inr, arith, append_assoc, true, false, not, Bool}
use Rattle.std.specs.Prelude.{if◌then◌else◌}
use Rattle.std.specs.List.{list_any}
use Rattle.std.proofs.lemmas.List.{append-nil, length-append}
use Rattle.std.proofs.lemmas.Bool.{cases_Bool, eqb-true, eqb-false, ne_eqb, or_parts}
use Rattle.csv.specs.Machine.{Read, field_after, fields_after, is_end, next_record, step}
use Rattle.csv.specs.Reading.{Reached, default_config, strip_bom}
use Rattle.csv.specs.Writing.{default_writer, escaped, field_text, fields_text, is_blank, needs_byte, row_body}
use Rattle.csv.specs.declared.parser.State.{State}
use Rattle.csv.specs.declared.parser.State.TheVariants as st
use Rattle.csv.proofs.RoundTrip.{read-write}
use Rattle.dict_value.specs.declared.value.Field.{Field}
use Rattle.dict_value.specs.declared.value.Field.TheVariants as field
use Rattle.row_text.specs.declared.cutter.CutRule.TheVariants as rule
use Rattle.row_text.specs.Cutting.{IsOpen, IsWhole, keeps_open}
use Rattle.row_text.specs.CsvRow.{BeginsWithMark, IsCsvRow, csv_field, csv_fields, csv_line, csv_text}
use Rattle.dict_value.specs.declared.letters.TheConstants.{DOUBLE_QUOTE, LINE_FEED}
use Rattle.row_text.proofs.CutSteps.{keeps_open-nil, keeps_open-push, open-nil, open-push}

-- these bytes of a row end between quotes
record IsQuoted (row : List ℕ) : Type 0 where
  opened : IsOpen rule.Csv row
  quoted : keeps_open rule.Csv row ≡ true

whole-nil : IsWhole rule.Csv []
whole-nil = record { opened = open-nil rule.Csv; ends = keeps_open-nil rule.Csv }

whole-byte : (row : List ℕ) (b : ℕ) → IsWhole rule.Csv row → b ≢ DOUBLE_QUOTE → b ≢ LINE_FEED → IsWhole rule.Csv (row ++ b ∷ [])
whole-byte row b w quote line = record {
  opened = open-push rule.Csv row b w.opened (λ e. absurd (line e));
  ends = keeps_open-push rule.Csv row b ∙ rw (ne_eqb b DOUBLE_QUOTE quote) w.ends;
}

opening : (row : List ℕ) → IsWhole rule.Csv row → IsQuoted (row ++ DOUBLE_QUOTE ∷ [])
opening row w = record {
  opened = open-push rule.Csv row DOUBLE_QUOTE w.opened (λ e. absurd (eqb-false DOUBLE_QUOTE LINE_FEED refl e));
  quoted = keeps_open-push rule.Csv row DOUBLE_QUOTE ∙ ap not w.ends;
}

quoted-byte : (row : List ℕ) (b : ℕ) → IsQuoted row → b ≢ DOUBLE_QUOTE → IsQuoted (row ++ b ∷ [])
quoted-byte row b q quote = record {
  opened = open-push rule.Csv row b q.opened (λ _. q.quoted);
  quoted = keeps_open-push rule.Csv row b ∙ rw (ne_eqb b DOUBLE_QUOTE quote) q.quoted;
}

closing : (row : List ℕ) → IsQuoted row → IsWhole rule.Csv (row ++ DOUBLE_QUOTE ∷ [])
closing row q = record {
  opened = open-push rule.Csv row DOUBLE_QUOTE q.opened (λ _. q.quoted);
  ends = keeps_open-push rule.Csv row DOUBLE_QUOTE ∙ ap not q.quoted;
}

-- bytes that call for no quotes
whole-plain : (row x : List ℕ) → list_any (needs_byte default_writer) x ≡ false → IsWhole rule.Csv row → IsWhole rule.Csv (row ++ x)
whole-plain row [] p w = rw (append-nil row) w
whole-plain row (b ∷ x) p w =
    let parts = or_parts (needs_byte default_writer b) (list_any (needs_byte default_writer) x) p in
    rw (← append_assoc row (b ∷ []) x) (whole-plain (row ++ b ∷ []) x parts.1 (whole-byte row b w (plain b parts.0).0 (plain b parts.0).1))
  where
    plain : (b : ℕ) → needs_byte default_writer b ≡ false → (b ≢ DOUBLE_QUOTE) × (b ≢ LINE_FEED)
    plain b p = ((λ e. cc (rw e at p)), (λ e. cc (rw e at p)))

-- bytes between quotes
quoted-escaped : (row x : List ℕ) → IsQuoted row → IsQuoted (row ++ escaped default_writer x)
unfolding escaped
quoted-escaped row [] q = rw (append-nil row) q
quoted-escaped row (b ∷ x) q = elim (cases_Bool (b == DOUBLE_QUOTE)) [
  | inl is ↦
      rw (is, eqb-true b DOUBLE_QUOTE is)
      (subst IsQuoted (append_assoc (row ++ DOUBLE_QUOTE ∷ []) (DOUBLE_QUOTE ∷ []) (escaped default_writer x) ∙ append_assoc row (DOUBLE_QUOTE ∷ []) (DOUBLE_QUOTE ∷ escaped default_writer x))
      (quoted-escaped ((row ++ DOUBLE_QUOTE ∷ []) ++ DOUBLE_QUOTE ∷ []) x (opening (row ++ DOUBLE_QUOTE ∷ []) (closing row q))))
  | inr other ↦ rw (other, ← append_assoc row (b ∷ []) (escaped default_writer x)) (quoted-escaped (row ++ b ∷ []) x (quoted-byte row b q (eqb-false b DOUBLE_QUOTE other)))
]

whole-field : (row x : List ℕ) → IsWhole rule.Csv row → IsWhole rule.Csv (row ++ field_text default_writer x)
whole-field row x w = elim (cases_Bool (list_any (needs_byte default_writer) x)) [
  | inl needs ↦
      rw needs (subst (IsWhole rule.Csv) (append_assoc (row ++ DOUBLE_QUOTE ∷ []) (escaped default_writer x) (DOUBLE_QUOTE ∷ []) ∙ append_assoc row (DOUBLE_QUOTE ∷ []) (escaped default_writer x ++ DOUBLE_QUOTE ∷ []))
      (closing ((row ++ DOUBLE_QUOTE ∷ []) ++ escaped default_writer x) (quoted-escaped (row ++ DOUBLE_QUOTE ∷ []) x (opening row w))))
  | inr plain ↦ rw plain (whole-plain row x plain w)
]

whole-fields : (row : List ℕ) (xs : List (List ℕ)) → IsWhole rule.Csv row → IsWhole rule.Csv (row ++ fields_text default_writer xs)
unfolding fields_text
whole-fields row [] w = rw (append-nil row) w
whole-fields row (x ∷ xs) w =
    subst (IsWhole rule.Csv) (append_assoc (row ++ 44 ∷ []) (field_text default_writer x) (fields_text default_writer xs) ∙ append_assoc row (44 ∷ []) (field_text default_writer x ++ fields_text default_writer xs))
    (whole-fields ((row ++ 44 ∷ []) ++ field_text default_writer x) xs
    (whole-field (row ++ 44 ∷ []) x (whole-byte row 44 w (eqb-false 44 DOUBLE_QUOTE refl) (eqb-false 44 LINE_FEED refl))))

whole-body : (xs : List (List ℕ)) → IsWhole rule.Csv (row_body default_writer xs)
whole-body [] = whole-nil
whole-body (x ∷ xs) = whole-fields (field_text default_writer x) xs (whole-field [] x whole-nil)

-- the written row is one row
pub row-whole : (fields : List Field) → IsWhole rule.Csv (csv_line fields)
row-whole fields = elim (cases_Bool (is_blank default_writer (map csv_field fields))) [
  | inl blank ↦
      let body = row_body default_writer (map csv_field fields) in
      rw blank (subst (IsWhole rule.Csv) (append_assoc body (DOUBLE_QUOTE ∷ []) (DOUBLE_QUOTE ∷ []))
      (closing (body ++ DOUBLE_QUOTE ∷ []) (opening body (whole-body (map csv_field fields)))))
  | inr some ↦ rw (some, append-nil (row_body default_writer (map csv_field fields))) (whole-body (map csv_field fields))
]

read-of : Option Read → List (List ℕ)
read-of None = []
read-of (Some r) = r.0

left-of : Option Read → List ℕ
left-of None = []
left-of (Some r) = r.2

not-left : (r read : List (List ℕ)) (s t : State) → ◌≡◌ {A = Option Read} (Some (r, s, [])) (Some (read, t, 97 ∷ [])) → ⊥
unfolding left-of
not-left r read s t e = let left : [] ≡ 97 ∷ [] = ap left-of e in cc left

left-is : (r read : List (List ℕ)) (s t : State) → ◌≡◌ {A = Option Read} (Some (r, s, 97 ∷ [])) (Some (read, t, 97 ∷ [])) → ◌≡◌ {A = Option Read} (Some (r, st.StartRecord, [])) (Some (read, st.StartRecord, []))
unfolding read-of
left-is r read s t e = let same : r ≡ read = ap read-of e in ap (λ (x : List (List ℕ)). Some (x, st.StartRecord, [])) same

-- a record that ends before a line feed is the record of what stands before it
before-end : (x : List ℕ) (s t : State) (fields read : List (List ℕ)) (text : List ℕ) → next_record default_config s fields text (x ++ LINE_FEED ∷ 97 ∷ []) ≡ Some (read, t, 97 ∷ [])
    → next_record default_config s fields text x ≡ Some (read, st.StartRecord, [])
unfolding next_record left-of
before-end [] st.StartRecord t fields read text e = absurd (not-left _ read _ t e)
before-end [] st.AfterCr t fields read text e = absurd (not-left _ read _ t e)
before-end [] st.InQuoted t fields read text e = absurd (not-left _ read _ t e)
before-end [] st.InEscape t fields read text e = absurd (not-left _ read _ t e)
before-end [] st.InComment t fields read text e = absurd (not-left _ read _ t e)
before-end [] st.StartField t fields read text e = left-is _ read _ t e
before-end [] st.InField t fields read text e = left-is _ read _ t e
before-end [] st.AfterQuote t fields read text e = left-is _ read _ t e
before-end (c ∷ x) s t fields read text e = elim (cases_Bool (is_end (step default_config s c).1)) [
  | inl ends ↦
      let rest : x ++ LINE_FEED ∷ 97 ∷ [] ≡ 97 ∷ [] = ap left-of (rw ends at e) in
      absurd (omega (arith, ap length rest, length-append x (LINE_FEED ∷ 97 ∷ [])))
  | inr on ↦ rw on (before-end x (step default_config s c).0 t (fields_after (step default_config s c).1 fields text) read (field_after (step default_config s c).1 c text) (rw on at e))
]

-- a text that begins with no byte order mark is read whole
no-mark : (text : List ℕ) → ((rest : List ℕ) → text ≡ 0xEF ∷ 0xBB ∷ 0xBF ∷ rest → ⊥) → strip_bom text ≡ text
unfolding strip_bom
no-mark [] n = refl
no-mark (a ∷ []) n = refl
no-mark (a ∷ b ∷ []) n = refl
no-mark (a ∷ b ∷ c ∷ rest) n = elim (cases_Bool (a == 0xEF)) [
  | inr other ↦ rw other refl
  | inl ef ↦ elim (cases_Bool (b == 0xBB)) [
    | inr other ↦ rw (ef, other) refl
    | inl bb ↦ elim (cases_Bool (c == 0xBF)) [
      | inr other ↦ rw (ef, bb, other) refl
      | inl bf ↦
          let ea = eqb-true a 0xEF ef in let eb = eqb-true b 0xBB bb in let ec = eqb-true c 0xBF bf in
          absurd (n rest (ap (λ (k : ℕ). k ∷ b ∷ c ∷ rest) ea ∙ ap (λ (k : ℕ). 0xEF ∷ k ∷ c ∷ rest) eb ∙ ap (λ (k : ℕ). 0xEF ∷ 0xBB ∷ k ∷ rest) ec))
    ]
  ]
]

-- what stands behind the first field begins with a comma or a quote
abbrev Behind : List ℕ → Type 0
Behind tail = (b : ℕ) (rest : List ℕ) → tail ≡ b ∷ rest → (b == 44) ≡ false → (b == 34) ≡ false → ⊥

behind-first : (xs : List (List ℕ)) (blank : Bool) → Behind (fields_text default_writer xs ++ (if blank then DOUBLE_QUOTE ∷ DOUBLE_QUOTE ∷ [] else []))
unfolding fields_text
behind-first [] true b rest e COMMA quote = cc
behind-first [] false b rest e COMMA quote = cc
behind-first (x ∷ xs) blank b rest e COMMA quote = cc

first-mark : (x tail rest : List ℕ) → Behind tail → field_text default_writer x ++ tail ≡ 0xEF ∷ 0xBB ∷ 0xBF ∷ rest → (more : List ℕ) × (x ≡ 0xEF ∷ 0xBB ∷ 0xBF ∷ more)
first-mark x tail rest behind e = elim (cases_Bool (list_any (needs_byte default_writer) x)) [
  | inl needs ↦ absurd (let h = rw needs at e in cc h)
  | inr plain ↦ begins x (rw plain at e)
]
  where
    begins : (x : List ℕ) → x ++ tail ≡ 0xEF ∷ 0xBB ∷ 0xBF ∷ rest → (more : List ℕ) × (x ≡ 0xEF ∷ 0xBB ∷ 0xBF ∷ more)
    begins [] e = absurd (behind 0xEF (0xBB ∷ 0xBF ∷ rest) e refl refl)
    begins (a ∷ []) e = absurd (behind 0xBB (0xBF ∷ rest) (cc e) refl refl)
    begins (a ∷ b ∷ []) e = absurd (behind 0xBF rest (cc e) refl refl)
    begins (a ∷ b ∷ c ∷ more) e =
        let ea : a ≡ 0xEF = cc e in let eb : b ≡ 0xBB = cc e in let ec : c ≡ 0xBF = cc e in
        (more, ap (λ (k : ℕ). k ∷ b ∷ c ∷ more) ea ∙ ap (λ (k : ℕ). 0xEF ∷ k ∷ c ∷ more) eb ∙ ap (λ (k : ℕ). 0xEF ∷ 0xBB ∷ k ∷ more) ec)

-- the text of a row and the line that it ends
pub text-line : (fields : List Field) → csv_text fields ≡ csv_line fields ++ LINE_FEED ∷ []
text-line fields = sym (append_assoc (row_body default_writer (map csv_field fields)) _ (LINE_FEED ∷ []))

-- the written row is read as the texts of its fields
pub row-again : (fields : List Field) → fields ≢ [] → ¬ BeginsWithMark fields → IsCsvRow (csv_line fields) (csv_fields fields)
unfolding Reached next_record
row-again [] some mark = absurd (some refl)
row-again (f ∷ fields) some mark =
    let texts = map csv_field (f ∷ fields) in
    let line = csv_line (f ∷ fields) in
    let first : line ≡ field_text default_writer (csv_field f) ++ (fields_text default_writer (map csv_field fields) ++ (if is_blank default_writer texts then DOUBLE_QUOTE ∷ DOUBLE_QUOTE ∷ [] else [])) =
    append_assoc (field_text default_writer (csv_field f)) (fields_text default_writer (map csv_field fields)) _ in
    let whole : strip_bom line ≡ line = no-mark line (λ rest e. mark (first-mark (csv_field f) _ rest (behind-first (map csv_field fields) (is_blank default_writer texts)) (sym first ∙ e))) in
    let both : csv_text (f ∷ fields) ++ 97 ∷ [] ≡ line ++ LINE_FEED ∷ 97 ∷ [] = ap (λ (t : List ℕ). t ++ 97 ∷ []) (text-line (f ∷ fields)) ∙ append_assoc line (LINE_FEED ∷ []) (97 ∷ []) in
    let read = before-end line st.StartRecord st.StartRecord [] texts [] (ap (next_record default_config st.StartRecord [] []) (sym both) ∙ read-write texts (97 ∷ [])) in
    (texts, (st.StartRecord, [], ((texts, st.StartRecord, []), ap (next_record default_config st.StartRecord [] []) whole ∙ read, refl, (refl, refl)), refl), texts-are (f ∷ fields))
  where
    texts-are : (fs : List Field) → csv_fields fs ≡ map field.Text (map csv_field fs)
    texts-are [] = refl
    texts-are (g ∷ gs) = ap (λ (t : List Field). field.Text (csv_field g) ∷ t) (texts-are gs)
