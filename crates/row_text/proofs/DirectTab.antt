-- Lines of TabSeparated text, read from the text in which they stand.
use Rattle.std.proofs.Common.{◌≡◌, ◌≢◌, ◌≤◌, ◌<◌, ◌+◌, ◌-◌, ◌∷◌, ◌++◌, ◌∙◌, ◌==◌, [], ℕ, zero, suc, List, length, take, drop, map, get_or, refl, sym, ap, subst, arith, append_assoc, true, false, inl, inr, cond}
use Rattle.std.specs.Prelude.{IsSome}
use Rattle.std.specs.List.{AllByRecursion, flat_map}
use Rattle.std.proofs.lemmas.List.{append-nil, get_or_at, get_or_default, length-append, length-drop, take-append-drop, take_more, take_rest}
use Rattle.std.proofs.lemmas.Bool.{cases_Bool, eqb-false, eqb-true}
use Rattle.dict_value.specs.Escapes.{hex_digit}
use Rattle.dict_value.specs.declared.letters.TheConstants.{BACKSLASH, CARRIAGE_RETURN, LETTER_X, LINE_FEED, TAB}
use Rattle.dict_value.specs.declared.value.Field.{Field}
use Rattle.dict_value.specs.declared.value.Field.TheVariants as field
use Rattle.dict_value.specs.declared.value.Format.TheVariants.{Tab}
use Rattle.dict_value.specs.declared.value.Value.{Value}
use Rattle.row_text.specs.declared.cutter.CutRule.TheVariants as rule
use Rattle.row_text.specs.Cutting.{IsWhole, keeps_open}
use Rattle.row_text.specs.Decoding.{Reader}
use Rattle.row_text.specs.Marks.{Mark, bare, escaped, hex, IsMark, Spells, spelled}
use Rattle.row_text.specs.TabRow.{ends_in_return, field_of, are_null_marks}
use Rattle.row_text.specs.steps.TabSteps.{FieldOf, IsOrdinary, ReachesUntabbed}
use Rattle.row_text.specs.steps.DirectSteps.{AddsField, AddsValue, BeginsWithRow, EndsNoLine, EndsPiece, FrontMarks, HasFieldsTaken, IsQuiet, LacksReturn}
use Rattle.row_text.proofs.CutSteps.{keeps_open-nil, keeps_open-push, open-nil, open-push, toggle-other, toggled}
use Rattle.row_text.proofs.DirectRows.{values-all, values-more, values-none}
use Rattle.row_text.proofs.MarkLists.{all-append, ends-append, run-meant}
use Rattle.row_text.proofs.Reached.{at-suffix, fields-last, line-more, reach-plain, reach-run, read-none, read-tab, suffix}

-- marks behind a whole line leave it whole, where none ends a line

plain-whole : (row : List ℕ) (b : ℕ) → IsWhole rule.Tab row → b ≢ BACKSLASH → b ≢ LINE_FEED → IsWhole rule.Tab (row ++ b ∷ [])
plain-whole row b whole plain feed = record {
  opened = open-push rule.Tab row b whole.opened (λ e. absurd (feed e));
  ends = keeps_open-push rule.Tab row b ∙ toggle-other b BACKSLASH _ _ plain;
}

same-both : (x : ℕ) → cond (x == BACKSLASH) false false ≡ false
same-both x = elim (cases_Bool (x == BACKSLASH)) [
  | inl yes' ↦ rw yes' refl
  | inr no' ↦ rw no' refl
]

-- a backslash and the byte that it takes
taken-whole : (row : List ℕ) (b : ℕ) → IsWhole rule.Tab row → IsWhole rule.Tab (row ++ BACKSLASH ∷ b ∷ [])
taken-whole row b whole =
    let front = row ++ BACKSLASH ∷ [] in
    let opened = open-push rule.Tab row BACKSLASH whole.opened (λ e. absurd (eqb-false BACKSLASH LINE_FEED refl e)) in
    let inside : keeps_open rule.Tab front ≡ true = keeps_open-push rule.Tab row BACKSLASH ∙ ap (λ k. toggled rule.Tab k BACKSLASH) whole.ends in
    subst (IsWhole rule.Tab) (append_assoc row (BACKSLASH ∷ []) (b ∷ [])) (record {
      opened = open-push rule.Tab front b opened (λ _. inside);
      ends = keeps_open-push rule.Tab front b ∙ ap (λ k. toggled rule.Tab k b) inside ∙ same-both b;
    })

digit-plain : (b : ℕ) → IsSome (hex_digit b) → (b ≢ BACKSLASH) × (b ≢ LINE_FEED)
unfolding hex_digit
digit-plain b some = (
  (λ e. let none : false ≡ true = subst (λ x. IsSome (hex_digit x)) e some in cc none),
  (λ e. let none : false ≡ true = subst (λ x. IsSome (hex_digit x)) e some in cc none),
)

mark-whole : (row : List ℕ) (mark : Mark) → IsWhole rule.Tab row → IsMark mark → EndsNoLine mark → IsWhole rule.Tab (row ++ spelled mark)
mark-whole row (bare b) whole valid feed = plain-whole row b whole valid feed
mark-whole row (escaped b) whole valid feed = taken-whole row b whole
mark-whole row (hex high low) whole valid feed =
    let front = row ++ BACKSLASH ∷ LETTER_X ∷ [] in
    let h = digit-plain high valid.0 in
    let l = digit-plain low valid.1 in
    subst (IsWhole rule.Tab) (append_assoc front (high ∷ []) (low ∷ []) ∙ append_assoc row (BACKSLASH ∷ LETTER_X ∷ []) (high ∷ low ∷ []))
    (plain-whole (front ++ high ∷ []) low (plain-whole front high (taken-whole row LETTER_X whole) h.0 h.1) l.0 l.1)

marks-behind : (row : List ℕ) (marks : List Mark) → IsWhole rule.Tab row → AllByRecursion IsMark marks → AllByRecursion EndsNoLine marks → IsWhole rule.Tab (row ++ flat_map spelled marks)
marks-behind row [] whole valid unended = rw (append-nil row) whole
marks-behind row (mark ∷ marks) whole valid unended =
    subst (IsWhole rule.Tab) (append_assoc row (spelled mark) (flat_map spelled marks))
    (marks-behind (row ++ spelled mark) marks (mark-whole row mark whole valid.0 unended.0) valid.1 unended.1)

marks-whole : (line : List ℕ) (marks : List Mark) → Spells line marks → AllByRecursion EndsNoLine marks → IsWhole rule.Tab line
marks-whole line marks spells unended =
    subst (IsWhole rule.Tab) (sym spells.joined) (marks-behind [] marks (record { opened = open-nil rule.Tab; ends = keeps_open-nil rule.Tab }) spells.valid unended)

place-within : (text : List ℕ) (at size : ℕ) → at ≤ length text → size < length (suffix text at) → at + size < length text
place-within text at size within below = omega (arith, below, ap (λ (t : List ℕ). length t) (take_rest text at), length-drop at text)

-- quiet bytes are marks by themselves, and their field is their text

quiet-plain : (run : List ℕ) → AllByRecursion IsQuiet run → AllByRecursion IsOrdinary run
quiet-plain [] quiet = tt
quiet-plain (b ∷ run) quiet = (quiet.0.0, quiet-plain run quiet.1)

quiet-unended : (run : List ℕ) → AllByRecursion IsQuiet run → AllByRecursion EndsNoLine (map bare run)
quiet-unended [] quiet = tt
quiet-unended (b ∷ run) quiet = (quiet.0.1, quiet-unended run quiet.1)

bare-null : (run : List ℕ) → are_null_marks (map bare run) ≡ false
bare-null [] = refl
bare-null (b ∷ run) = refl

bare-field : (run : List ℕ) → field_of (map bare run) ≡ field.Text run
bare-field run = rw (bare-null run) (ap field.Text (run-meant run))

pub piece-marks : (text : List ℕ) (size byte : ℕ) → EndsPiece text size byte → FrontMarks text size byte (map bare (take size text))
piece-marks text size byte piece = record {
  reaches = reach-run text size (omega (arith, piece.0)) (quiet-plain (take size text) piece.1);
  unended = quiet-unended (take size text) piece.1;
  below = piece.0;
  here = piece.2;
}

pub piece-adds : (columns : List Reader) (text : List ℕ) (size byte : ℕ) (old new : List Value) → EndsPiece text size byte → AddsValue columns (field.Text (take size text)) old new → AddsField columns text size byte old new
piece-adds columns text size byte old new piece adds =
    (map bare (take size text), piece-marks text size byte piece, subst (λ (f : Field). AddsValue columns f old new) (sym (bare-field (take size text))) adds)

-- marks up to a place, and quiet bytes from there on
pub piece-behind : (text : List ℕ) (at size byte : ℕ) (marks : List Mark) → ReachesUntabbed text at marks → AllByRecursion EndsNoLine marks → EndsPiece (suffix text at) size byte
    → FrontMarks text (at + size) byte (marks ++ map bare (take size (suffix text at)))
piece-behind text at size byte marks reaches unended piece =
    let run = take size (suffix text at) in
    record {
      reaches = reach-plain text at size marks reaches (omega (arith, piece.0)) (quiet-plain run piece.1);
      unended = all-append EndsNoLine marks (map bare run) unended (quiet-unended run piece.1);
      below = place-within text at size reaches.within piece.0;
      here = sym (at-suffix text at size) ∙ piece.2;
    }

-- the mark of an escape ends no line
pub escape-unended : (text : List ℕ) (size : ℕ) (mark : Mark) → get_or text 0 0 ≡ BACKSLASH → ReachesUntabbed text size (mark ∷ []) → EndsNoLine mark
escape-unended text size (escaped b) first reaches = tt
escape-unended text size (hex high low) first reaches = tt
escape-unended [] size (bare b) first reaches = absurd (eqb-false 0 BACKSLASH refl first)
escape-unended (c ∷ text) zero (bare b) first reaches = λ e. cc reaches.spells.joined
escape-unended (c ∷ text) (suc size) (bare b) first reaches =
    let same : c ≡ b = ap (λ (t : List ℕ). get_or t 0 0) reaches.spells.joined in
    absurd (reaches.spells.valid.0 (sym same ∙ first))

-- a field whose bytes don't end in a carriage return doesn't either

return-last : (marks : List Mark) → ends_in_return marks ≡ true → (front : List ℕ) × (flat_map spelled marks ≡ front ++ CARRIAGE_RETURN ∷ [])
return-last [] ends = absurd (cc ends)
return-last (bare b ∷ []) ends = ([], ap (λ (x : ℕ). x ∷ []) (eqb-true b CARRIAGE_RETURN ends))
return-last (escaped b ∷ []) ends = absurd (cc ends)
return-last (hex high low ∷ []) ends = absurd (cc ends)
return-last (mark ∷ next ∷ marks) ends =
    let more = return-last (next ∷ marks) ends in
    (spelled mark ++ more.0, ap (λ (t : List ℕ). spelled mark ++ t) more.1 ∙ sym (append_assoc (spelled mark) more.0 (CARRIAGE_RETURN ∷ [])))

lacks-open : (piece : List ℕ) (marks : List Mark) → Spells piece marks → LacksReturn piece → ends_in_return marks ≡ false
lacks-open piece marks spells lacks = elim (cases_Bool (ends_in_return marks)) [
  | inl yes' ↦
      let last = return-last marks yes' in
      let is : piece ≡ last.0 ++ CARRIAGE_RETURN ∷ [] = spells.joined ∙ last.1 in
      absurd (lacks (length last.0) (ap (λ (t : List ℕ). length t) is ∙ length-append last.0 (CARRIAGE_RETURN ∷ []) ∙ omega arith) (ap (λ (t : List ℕ). get_or t (length last.0) 0) is ∙ get_or_at last.0 CARRIAGE_RETURN [] 0 (length last.0) refl))
  | inr no' ↦ no'
]

pub lacks-return : (piece : List ℕ) (last : ℕ) → last ≡ get_or piece (length piece - 1) last → last ≢ CARRIAGE_RETURN → LacksReturn piece
lacks-return [] last is not = λ k size. absurd (omega (arith, size))
lacks-return (b ∷ piece) last is not = λ k size same.
    let at : length (b ∷ piece) - 1 ≡ k = omega (arith, size) in
    not (is ∙ (get_or_default (b ∷ piece) (length (b ∷ piece) - 1) last 0 (omega arith) ∙ (ap (λ i. get_or (b ∷ piece) i 0) at ∙ same)))

-- no field is taken yet
pub fields-none : (columns : List Reader) (text : List ℕ) → HasFieldsTaken columns text 0 []
fields-none columns text = record { fields = []; marks = []; before = read-none text; unended = tt; values = values-none columns }

-- one field more, and the tab behind it
pub fields-more : (columns : List Reader) (text : List ℕ) (at size : ℕ) (row new : List Value) → HasFieldsTaken columns text at row → length row < length columns
    → AddsField columns (suffix text at) size TAB row new → HasFieldsTaken columns text (at + size + 1) new
fields-more columns text at size row new has below adds =
    let marks = adds.0 in
    let front = adds.1 in
    let within = place-within text at size has.before.within front.below in
    let found : FieldOf (suffix text at) (field_of marks) size = (marks, front.reaches, refl, (λ _. front.here), (λ end. absurd (omega (arith, end, front.below)))) in
    record {
      fields = has.fields ++ field_of marks ∷ [];
      marks = (has.marks ++ marks) ++ bare TAB ∷ [];
      before = read-tab text at size has.fields (field_of marks) has.marks has.before found (omega (arith, within));
      unended = all-append EndsNoLine (has.marks ++ marks) (bare TAB ∷ []) (all-append EndsNoLine has.marks marks has.unended front.unended) (eqb-false TAB LINE_FEED refl, tt);
      values = values-more columns has.fields (field_of marks) row new has.values below adds.2;
    }

-- the last field, and the line feed behind it
pub fields-last-one : (columns : List Reader) (text : List ℕ) (at size : ℕ) (row new : List Value) → HasFieldsTaken columns text at row → length row + 1 ≡ length columns → LacksReturn (take size (suffix text at))
    → AddsField columns (suffix text at) size LINE_FEED row new → BeginsWithRow Tab columns text (at + size + 1) new
fields-last-one columns text at size row new has all lacks adds =
    let marks = adds.0 in
    let front = adds.1 in
    let within = place-within text at size has.before.within front.below in
    let here : get_or text (at + size) 0 ≡ LINE_FEED = sym (at-suffix text at size) ∙ front.here in
    let fields = has.fields ++ field_of marks ∷ [] in
    let spells = line-more text at size has.fields has.marks marks has.before front.reaches.spells in
    let values = values-more columns has.fields (field_of marks) row new has.values (omega (arith, all)) adds.2 in
    let width : length new ≡ length columns = omega (arith, all, ap (λ (vs : List Value). length vs) adds.2.1, length-append row (adds.2.0 ∷ [])) in
    record {
      line = take (at + size) text;
      within = omega (arith, within);
      whole = marks-whole (take (at + size) text) (has.marks ++ marks) spells (all-append EndsNoLine has.marks marks has.unended front.unended);
      joined = sym (take-append-drop (at + size + 1) text)
          ∙ ap (λ (t : List ℕ). t ++ drop (at + size + 1) text) (take_more text (at + size) 0 within ∙ ap (λ b. take (at + size) text ++ b ∷ []) here);
      is_row = refl;
      typed = (
        fields,
        (
          (
            has.marks ++ marks,
            spells,
            ends-append has.marks marks has.before.last (lacks-open (take size (suffix text at)) marks front.reaches.spells lacks),
            sym (has.before.later marks ∙ ap (λ (fs : List Field). has.fields ++ fs) (fields-last marks front.reaches.untabbed)),
          ),
          omega (arith, values.count, width),
        ),
        values-all columns fields new values width,
      );
    }
