-- Lines of CSV without quotes, read from the text in which they stand.
use Rattle.std.proofs.Common.{◌≡◌, ◌≢◌, ◌≤◌, ◌<◌, ◌+◌, ◌∷◌, ◌++◌, ◌∙◌, ◌==◌, [], ℕ, List, length, take, drop, map, zero, suc, get_or, Some, refl, sym, ap, subst, arith, append_assoc, true}
use Rattle.std.specs.Prelude.{count_by}
use Rattle.std.specs.List.{AllByRecursion, flat_map}
use Rattle.std.proofs.Math.Seq.{take-add}
use Rattle.std.proofs.lemmas.List.{append-nil, get_or-take, length-append, length-drop, length-take-le, map-append, take-append-drop, take_more, take_rest}
use Rattle.std.proofs.lemmas.List.Concat.{flat_map-append}
use Rattle.std.proofs.lemmas.Bool.{eqb-false, ne_eqb}
use Rattle.csv.specs.Machine.{next_record}
use Rattle.csv.specs.Reading.{Reached, default_config}
use Rattle.csv.specs.declared.parser.State.TheVariants as st
use Rattle.csv.proofs.RoundTrip.{record-same}
use Rattle.dict_value.specs.declared.letters.TheConstants.{CARRIAGE_RETURN, COMMA, DOUBLE_QUOTE, LINE_FEED}
use Rattle.dict_value.specs.declared.value.Field.{Field}
use Rattle.dict_value.specs.declared.value.Field.TheVariants as field
use Rattle.dict_value.specs.declared.value.Format.TheVariants.{Csv}
use Rattle.dict_value.specs.declared.value.Value.{Value}
use Rattle.row_text.specs.declared.cutter.CutRule.TheVariants as rule
use Rattle.row_text.specs.CsvRow.{IsCsvRow, IsRecord}
use Rattle.row_text.specs.Cutting.{IsWhole, is_odd, keeps_open}
use Rattle.row_text.specs.Decoding.{Reader, is_row_line}
use Rattle.row_text.specs.steps.CsvSteps.{IsPlainText}
use Rattle.row_text.specs.steps.DirectSteps.{AddsValue, AreValues, BeginsWithRow, EndsText, HasTextsTaken, with_comma}
use Rattle.row_text.proofs.CsvPlain.{field-comma, field-last, no-mark}
use Rattle.row_text.proofs.DirectRows.{values-all, values-more, values-none}
use Rattle.row_text.proofs.MarkLists.{all-append}
use Rattle.row_text.proofs.Reached.{at-suffix, suffix}

-- a byte without a meaning between quotes or at the end of a line
abbrev IsBare : ℕ → Type 0
IsBare b = (b ≢ DOUBLE_QUOTE) × (b ≢ CARRIAGE_RETURN) × (b ≢ LINE_FEED)

plain-bare : (text : List ℕ) → IsPlainText text → AllByRecursion IsBare text
plain-bare [] plain = tt
plain-bare (b ∷ text) plain = ((plain.0.1, plain.0.2, plain.0.3), plain-bare text plain.1)

comma-bare : AllByRecursion IsBare (COMMA ∷ [])
comma-bare = ((eqb-false COMMA DOUBLE_QUOTE refl, eqb-false COMMA CARRIAGE_RETURN refl, eqb-false COMMA LINE_FEED refl), tt)

texts-bare : (texts : List (List ℕ)) (last : List ℕ) → AllByRecursion IsPlainText texts → IsPlainText last → AllByRecursion IsBare (flat_map with_comma texts ++ last)
texts-bare [] last plain end = plain-bare last end
texts-bare (text ∷ texts) last plain end =
    subst (AllByRecursion IsBare) (sym (append_assoc (with_comma text) (flat_map with_comma texts) last))
    (all-append IsBare (with_comma text) (flat_map with_comma texts ++ last) (all-append IsBare text (COMMA ∷ []) (plain-bare text plain.0) comma-bare) (texts-bare texts last plain.1 end))

-- bare bytes are a whole line, and no blank one

bare-at : (line : List ℕ) (k : ℕ) → AllByRecursion IsBare line → k < length line → IsBare (get_or line k 0)
bare-at [] k bare below = absurd (omega arith)
bare-at (b ∷ line) zero bare below = bare.0
bare-at (b ∷ line) (suc k) bare below = bare-at line k bare.1 (omega arith)

bare-unquoted : (line : List ℕ) → AllByRecursion IsBare line → count_by (λ b. b == DOUBLE_QUOTE) line ≡ 0
bare-unquoted [] bare = refl
bare-unquoted (b ∷ line) bare = rw (ne_eqb b DOUBLE_QUOTE bare.0.0) (bare-unquoted line bare.1)

bare-whole : (line : List ℕ) → AllByRecursion IsBare line → IsWhole rule.Csv line
unfolding keeps_open
bare-whole line bare = record {
  opened = λ place below feed. absurd ((bare-at line place bare below).2 feed);
  ends = ap is_odd (bare-unquoted line bare);
}

bare-row : (line : List ℕ) → AllByRecursion IsBare line → 0 < length line → is_row_line Csv line ≡ true
bare-row [] bare some = absurd (omega (arith, some))
bare-row (b ∷ line) bare some = rw (ne_eqb b CARRIAGE_RETURN bare.0.1) refl

-- texts with a comma behind each, and a last one, are read as one record
texts-read : (done texts : List (List ℕ)) (last : List ℕ) → AllByRecursion IsPlainText texts → IsPlainText last
    → next_record default_config st.StartField done [] (flat_map with_comma texts ++ last) ≡ Some (done ++ (texts ++ last ∷ []), st.StartRecord, [])
texts-read done [] last plain end = field-last done last end
texts-read done (text ∷ texts) last plain end =
    let rest = flat_map with_comma texts ++ last in
    let parts : flat_map with_comma (text ∷ texts) ++ last ≡ text ++ COMMA ∷ rest = append_assoc (with_comma text) (flat_map with_comma texts) last ∙ append_assoc text (COMMA ∷ []) rest in
    ap (λ (t : List ℕ). next_record default_config st.StartField done [] t) parts ∙ field-comma done text rest plain.0 ∙ texts-read (done ++ text ∷ []) texts last plain.1 end
    ∙ ap (λ (ts : List (List ℕ)). Some (ts, st.StartRecord, [])) (append_assoc done (text ∷ []) (texts ++ last ∷ []))

texts-row : (line : List ℕ) (texts : List (List ℕ)) (last : List ℕ) → line ≡ flat_map with_comma texts ++ last → 0 < length line → get_or line 0 0 ≢ 0xEF
    → AllByRecursion IsPlainText texts → IsPlainText last → IsCsvRow line (map field.Text (texts ++ last ∷ []))
unfolding Reached next_record
texts-row [] texts last is some mark plain end = absurd (omega (arith, some))
texts-row (b ∷ line) texts last is some mark plain end =
    let bare = subst (AllByRecursion IsBare) (sym is) (texts-bare texts last plain end) in
    let read : next_record default_config st.StartRecord [] [] (b ∷ line) ≡ Some (texts ++ last ∷ [], st.StartRecord, []) =
    record-same [] [] b line (ne_eqb b CARRIAGE_RETURN bare.0.1) (ne_eqb b LINE_FEED bare.0.2)
    ∙ ap (λ (t : List ℕ). next_record default_config st.StartField [] [] t) is ∙ texts-read [] texts last plain end in
    let whole : IsRecord (b ∷ line) (texts ++ last ∷ []) =
    (st.StartRecord, [], ((texts ++ last ∷ [], st.StartRecord, []), ap (next_record default_config st.StartRecord [] []) (no-mark (b ∷ line) mark) ∙ read, refl, (refl, refl)), refl) in
    (texts ++ last ∷ [], whole, refl)

-- no text is taken yet
pub texts-none : (columns : List Reader) (text : List ℕ) → HasTextsTaken columns text 0 []
texts-none columns text = record { texts = []; within = omega arith; joined = refl; plain = tt; values = values-none columns }

place-within : (text : List ℕ) (at size byte : ℕ) → at ≤ length text → EndsText (suffix text at) size byte → at + size < length text
place-within text at size byte within end = omega (arith, end.0, within, ap (λ (t : List ℕ). length t) (take_rest text at), length-drop at text)

front-more : (text : List ℕ) (at size : ℕ) → take (at + size) text ≡ take at text ++ take size (suffix text at)
front-more text at size = take-add at size text ∙ ap (λ (t : List ℕ). take at text ++ take size t) (sym (take_rest text at))

-- one text more, and the comma behind it
pub texts-more : (columns : List Reader) (text : List ℕ) (at size : ℕ) (row new : List Value) → HasTextsTaken columns text at row → EndsText (suffix text at) size COMMA → length row < length columns
    → AddsValue columns (field.Text (take size (suffix text at))) row new → HasTextsTaken columns text (at + size + 1) new
texts-more columns text at size row new has end below adds =
    let run = take size (suffix text at) in
    let within = place-within text at size COMMA has.within end in
    let here : get_or text (at + size) 0 ≡ COMMA = sym (at-suffix text at size) ∙ end.2 in
    let values = values-more columns (map field.Text has.texts) (field.Text run) row new has.values below adds in
    record {
      texts = has.texts ++ run ∷ [];
      within = omega (arith, within);
      joined = take_more text (at + size) 0 within ∙ ap (λ b. take (at + size) text ++ b ∷ []) here
          ∙ ap (λ (t : List ℕ). t ++ COMMA ∷ []) (front-more text at size ∙ ap (λ (t : List ℕ). t ++ run) has.joined)
          ∙ append_assoc (flat_map with_comma has.texts) run (COMMA ∷ [])
          ∙ ap (λ (t : List ℕ). flat_map with_comma has.texts ++ t) (sym (append-nil (with_comma run)))
          ∙ sym (flat_map-append with_comma has.texts (run ∷ []));
      plain = all-append IsPlainText has.texts (run ∷ []) has.plain (end.1, tt);
      values = subst (λ (fs : List Field). AreValues columns fs new) (sym (map-append field.Text has.texts (run ∷ []))) values;
    }

-- the last text, and the line feed behind it
pub texts-last : (columns : List Reader) (text : List ℕ) (at size : ℕ) (row new : List Value) → HasTextsTaken columns text at row → EndsText (suffix text at) size LINE_FEED → length row + 1 ≡ length columns
    → 0 < at + size → get_or text 0 0 ≢ 0xEF → AddsValue columns (field.Text (take size (suffix text at))) row new → BeginsWithRow Csv columns text (at + size + 1) new
texts-last columns text at size row new has end all some mark adds =
    let run = take size (suffix text at) in
    let line = take (at + size) text in
    let texts = has.texts ++ run ∷ [] in
    let within = place-within text at size LINE_FEED has.within end in
    let here : get_or text (at + size) 0 ≡ LINE_FEED = sym (at-suffix text at size) ∙ end.2 in
    let is : line ≡ flat_map with_comma has.texts ++ run = front-more text at size ∙ ap (λ (t : List ℕ). t ++ run) has.joined in
    let bare = subst (AllByRecursion IsBare) (sym is) (texts-bare has.texts run has.plain end.1) in
    let long : length line ≡ at + size = length-take-le (at + size) text (omega (arith, within)) in
    let values = subst (λ (fs : List Field). AreValues columns fs new) (sym (map-append field.Text has.texts (run ∷ []))) (values-more columns (map field.Text has.texts) (field.Text run) row new has.values (omega (arith, all)) adds) in
    let width : length new ≡ length columns = omega (arith, all, ap (λ (vs : List Value). length vs) adds.1, length-append row (adds.0 ∷ [])) in
    let first = get_or-take (at + size) text 0 0 some in
    record {
      line = line;
      within = omega (arith, within);
      whole = bare-whole line bare;
      joined = sym (take-append-drop (at + size + 1) text)
          ∙ ap (λ (t : List ℕ). t ++ drop (at + size + 1) text) (take_more text (at + size) 0 within ∙ ap (λ b. line ++ b ∷ []) here);
      is_row = bare-row line bare (omega (arith, long, some));
      typed = (
        map field.Text texts,
        (texts-row line has.texts run is (omega (arith, long, some)) (λ e. mark (sym first ∙ e)) has.plain end.1, omega (arith, values.count, width)),
        values-all columns (map field.Text texts) new values width,
      );
    }
