-- A row without quotes and line ends is split at its commas.
use Rattle.std.proofs.Common.{◌≡◌, ◌≢◌, ◌≤◌, ◌<◌, ◌+◌, ◌-◌, ◌∷◌, ◌++◌, ◌∙◌, [], ℕ, List, length, take, drop, map, get_or, Some, refl, sym, ap, arith, append_assoc}
use Rattle.std.proofs.lemmas.List.{append-nil, drop-drop, drop_more, length-drop, map-append, take-append-drop, take_all, take_rest}
use Rattle.std.proofs.lemmas.Bool.{ne_eqb}
use Rattle.csv.specs.Machine.{next_record}
use Rattle.csv.specs.Reading.{Reached, default_config, strip_bom}
use Rattle.csv.specs.declared.parser.State.TheVariants as st
use Rattle.csv.proofs.RoundTrip.{record-same, start-same}
use Rattle.dict_value.specs.declared.value.Field.{Field}
use Rattle.dict_value.specs.declared.value.Field.TheVariants as field
use Rattle.dict_value.specs.declared.letters.TheConstants.{CARRIAGE_RETURN, DOUBLE_QUOTE, LINE_FEED}
use Rattle.row_text.specs.CsvRow.{IsCsvRow, IsRecord}
use Rattle.dict_value.specs.declared.letters.TheConstants.{COMMA}
use Rattle.row_text.specs.steps.CsvSteps.{IsPlainText}
use Rattle.row_text.proofs.Reached.{suffix}

-- plain bytes join the field at hand
plain-run : (texts : List (List ℕ)) (text run tail : List ℕ) → IsPlainText run
    → next_record default_config st.InField texts text (run ++ tail) ≡ next_record default_config st.InField texts (text ++ run) tail
unfolding next_record
plain-run texts text [] tail p = rw (append-nil text) refl
plain-run texts text (b ∷ run) tail p =
    rw (ne_eqb b COMMA p.0.0, ne_eqb b CARRIAGE_RETURN p.0.2, ne_eqb b LINE_FEED p.0.3) (plain-run texts (text ++ (b ∷ [])) run tail p.1
    ∙ ap (λ (t : List ℕ). next_record default_config st.InField texts t tail) (append_assoc text (b ∷ []) run))

in-field-comma : (texts : List (List ℕ)) (text tail : List ℕ) → next_record default_config st.InField texts text (COMMA ∷ tail) ≡ next_record default_config st.StartField (texts ++ text ∷ []) [] tail
unfolding next_record
in-field-comma texts text tail = refl

-- a field and the comma behind it
pub field-comma : (texts : List (List ℕ)) (run tail : List ℕ) → IsPlainText run
    → next_record default_config st.StartField texts [] (run ++ COMMA ∷ tail) ≡ next_record default_config st.StartField (texts ++ run ∷ []) [] tail
unfolding next_record
field-comma texts [] tail p = refl
field-comma texts (b ∷ run) tail p =
    start-same texts [] b (run ++ COMMA ∷ tail) (ne_eqb b DOUBLE_QUOTE p.0.1) ∙ plain-run texts [] (b ∷ run) (COMMA ∷ tail) p ∙ in-field-comma texts (b ∷ run) tail

-- the last field
pub field-last : (texts : List (List ℕ)) (run : List ℕ) → IsPlainText run → next_record default_config st.StartField texts [] run ≡ Some (texts ++ run ∷ [], st.StartRecord, [])
unfolding next_record
field-last texts [] p = refl
field-last texts (b ∷ run) p =
    let whole : next_record default_config st.InField texts [] (b ∷ run) ≡ next_record default_config st.InField texts (b ∷ run) [] =
    ap (λ (t : List ℕ). next_record default_config st.InField texts [] t) (sym (append-nil (b ∷ run))) ∙ plain-run texts [] (b ∷ run) [] p in
    start-same texts [] b run (ne_eqb b DOUBLE_QUOTE p.0.1) ∙ whole

-- the fields before a place of the line where the next one begins
pub record Splits (line : List ℕ) (at : ℕ) (fields : List Field) (texts : List (List ℕ)) : Type 0 where
  pub within : at ≤ length line
  pub are : fields ≡ map field.Text texts
  pub later : next_record default_config st.StartField texts [] (drop at line) ≡ next_record default_config st.StartRecord [] [] line

-- the first byte begins no byte order mark and ends no line
pub split-none : (line : List ℕ) → 0 < length line → get_or line 0 0 ≢ CARRIAGE_RETURN → get_or line 0 0 ≢ LINE_FEED → Splits line 0 [] []
split-none [] some r n = absurd (omega (arith, some))
split-none (b ∷ line) some r n = record { within = omega arith; are = refl; later = sym (record-same [] [] b line (ne_eqb b CARRIAGE_RETURN r) (ne_eqb b LINE_FEED n)) }

pub split-more : (line : List ℕ) (at run : ℕ) (fields : List Field) (texts : List (List ℕ)) → Splits line at fields texts → run < length (suffix line at) → get_or (suffix line at) run 0 ≡ COMMA
    → IsPlainText (take run (suffix line at)) → Splits line (at + run + 1) (fields ++ field.Text (take run (suffix line at)) ∷ []) (texts ++ take run (suffix line at) ∷ [])
split-more line at run fields texts s lt here plain =
    let left = suffix line at in
    let size : length left ≡ length line - at = ap length (take_rest line at) ∙ length-drop at line in
    let parts : drop at line ≡ take run left ++ COMMA ∷ drop (at + run + 1) line =
    sym (take_rest line at) ∙ sym (take-append-drop run left)
    ∙ ap (λ (t : List ℕ). take run left ++ t) (drop_more left run 0 lt ∙ ap (λ (b : ℕ). b ∷ drop (run + 1) left) here
    ∙ ap (λ (t : List ℕ). COMMA ∷ t) (ap (drop (run + 1)) (take_rest line at) ∙ drop-drop (run + 1) at line ∙ ap (λ (k : ℕ). drop k line) (omega arith))) in
    record {
      within = omega (arith, s.within);
      are = ap (λ (fs : List Field). fs ++ field.Text (take run left) ∷ []) s.are ∙ sym (map-append field.Text texts (take run left ∷ []));
      later = sym (field-comma texts (take run left) (drop (at + run + 1) line) plain)
          ∙ ap (λ (t : List ℕ). next_record default_config st.StartField texts [] t) (sym parts) ∙ s.later;
    }

pub no-mark : (line : List ℕ) → get_or line 0 0 ≢ 0xEF → strip_bom line ≡ line
unfolding strip_bom
no-mark [] n = refl
no-mark (a ∷ []) n = refl
no-mark (a ∷ b ∷ []) n = refl
no-mark (a ∷ b ∷ c ∷ rest) n = rw (ne_eqb a 0xEF n) refl

pub split-last : (line : List ℕ) (at run : ℕ) (fields : List Field) (texts : List (List ℕ)) → Splits line at fields texts → run ≡ length (suffix line at) → get_or line 0 0 ≢ 0xEF
    → IsPlainText (take run (suffix line at)) → IsCsvRow line (fields ++ field.Text (take run (suffix line at)) ∷ [])
unfolding Reached next_record
split-last line at run fields texts s end mark plain =
    let left = suffix line at in
    let all : take run left ≡ drop at line = take_all run left (omega arith) ∙ take_rest line at in
    let read : next_record default_config st.StartRecord [] [] line ≡ Some (texts ++ take run left ∷ [], st.StartRecord, []) =
    sym s.later ∙ ap (λ (t : List ℕ). next_record default_config st.StartField texts [] t) (sym all) ∙ field-last texts (take run left) plain in
    let whole : IsRecord line (texts ++ take run left ∷ []) =
    (st.StartRecord, [], ((texts ++ take run left ∷ [], st.StartRecord, []), ap (next_record default_config st.StartRecord [] []) (no-mark line mark) ∙ read, refl, (refl, refl)), refl) in
    (texts ++ take run left ∷ [], whole, ap (λ (fs : List Field). fs ++ field.Text (take run left) ∷ []) s.are ∙ sym (map-append field.Text texts (take run left ∷ [])))
