-- A text decodes to one answer.
use Rattle.std.proofs.Common.{◌≡◌, ◌<◌, ◌+◌, ◌∷◌, ◌++◌, ◌∙◌, [], ℕ, List, length, map, refl, sym, ap, subst, inl, inr, arith, true, Result, Ok, Err}
use Rattle.std.specs.Prelude.{filter}
use Rattle.std.specs.List.{AllZip}
use Rattle.std.proofs.lemmas.Bool.{cases_Bool}
use Rattle.dict_value.specs.declared.fault.BadRow.{BadRow}
use Rattle.dict_value.specs.declared.fault.LineFault.{LineFault}
use Rattle.dict_value.specs.declared.fault.Why.{Why}
use Rattle.dict_value.specs.declared.fault.Why.TheVariants as why
use Rattle.dict_value.specs.declared.value.BadValue.{BadValue}
use Rattle.dict_value.specs.declared.value.Field.{Field}
use Rattle.dict_value.specs.declared.value.Format.{Format}
use Rattle.dict_value.specs.declared.value.Format.TheVariants.{Tab, Csv}
use Rattle.dict_value.specs.declared.value.Value.{Value}
use Rattle.row_text.specs.Decoding.{AreTypedRows, Reader, Decodes, HasBadRow, HasRows, HasTooMany, IsBadLine, IsTypedRow, LineGives, Miscounted, StandsBehind, Unread, Unvalued, is_row_line, readings, rule_of, told_count, why_of}
use Rattle.row_text.specs.declared.decode.DecodeFault.{DecodeFault}
use Rattle.row_text.specs.declared.decode.DecodeFault.TheVariants as decode
use Rattle.row_text.proofs.CsvReads as csv
use Rattle.row_text.proofs.OneReading as tab
use Rattle.row_text.proofs.Tabled as tabled
use Rattle.row_text.proofs.Tabled.{one-lines}

-- a line has one list of fields, or one fault
pub one-gives : (format : Format) (line : List ℕ) (a b : Result (List Field) LineFault) → LineGives format line a → LineGives format line b → a ≡ b
one-gives Tab line a b p q = tab.one-answer line a b p q
one-gives Csv line a b p q = csv.one-answer line a b p q

same-fields : (format : Format) (line : List ℕ) (f g : List Field) → LineGives format line (Ok f) → LineGives format line (Ok g) → f ≡ g
same-fields format line f g p q = cc (one-gives format line (Ok f) (Ok g) p q)

no-fault : (format : Format) (line : List ℕ) (f : List Field) (fault : LineFault) → LineGives format line (Ok f) → LineGives format line (Err fault) → ⊥
no-fault format line f fault p q = cc (one-gives format line (Ok f) (Err fault) p q)

-- values alone, or values in front of a first fault
same-values : (v w : List Value) → map {B = Result Value BadValue} Ok v ≡ map Ok w → v ≡ w
same-values [] [] e = refl
same-values [] (y ∷ w) e = cc
same-values (x ∷ v) [] e = cc
same-values (x ∷ v) (y ∷ w) e = let rest : v ≡ w = same-values v w cc in cc

not-values : (row v : List Value) (fault : BadValue) (after : List (Result Value BadValue)) → map Ok row ≡ map Ok v ++ Err fault ∷ after → ⊥
not-values [] [] fault after e = cc
not-values [] (y ∷ v) fault after e = cc
not-values (x ∷ row) [] fault after e = cc
not-values (x ∷ row) (y ∷ v) fault after e = not-values row v fault after cc

same-fault : (v w : List Value) (fault other : BadValue) (a b : List (Result Value BadValue)) → map Ok v ++ Err fault ∷ a ≡ map Ok w ++ Err other ∷ b → (length v ≡ length w) × (fault ≡ other)
same-fault [] [] fault other a b e = (refl, cc)
same-fault [] (y ∷ w) fault other a b e = cc
same-fault (x ∷ v) [] fault other a b e = cc
same-fault (x ∷ v) (y ∷ w) fault other a b e = let rest = same-fault v w fault other a b cc in (omega (arith, rest.0), rest.1)

-- a line is one row
same-row : (format : Format) (columns : List Reader) (line : List ℕ) (v w : List Value) → IsTypedRow format columns line v → IsTypedRow format columns line w → v ≡ w
same-row format columns line v w (f, (gives, count), read) (g, (gives', count'), read') =
    same-values v w (sym read ∙ ap (readings columns) (same-fields format line f g gives gives') ∙ read')

-- a bad line is no row
not-row : (format : Format) (columns : List Reader) (line : List ℕ) (column : ℕ) (reason : Why) (row : List Value) → IsBadLine format columns line column reason → IsTypedRow format columns line row → ⊥
not-row format columns line column reason row (Unread fault gives at why') (g, (gives', count'), read') = no-fault format line g fault gives' gives
not-row format columns line column reason row (Miscounted f gives count at why') (g, (gives', count'), read') =
    count (ap length (same-fields format line f g gives gives') ∙ count')
not-row format columns line column reason row (Unvalued f before fault after (gives, count) read at why') (g, (gives', count'), read') =
    not-values row before fault after (sym read' ∙ ap (readings columns) (same-fields format line g f gives' gives) ∙ read)

-- a bad line has one column and one reason
same-reason : (format : Format) (columns : List Reader) (line : List ℕ) (i j : ℕ) (a b : Why) → IsBadLine format columns line i a → IsBadLine format columns line j b → (i ≡ j) × (a ≡ b)
same-reason format columns line i j a b (Unread x gives at told) (Unread y gives' at' told') =
    let same : x ≡ y = cc (one-gives format line (Err x) (Err y) gives gives') in
    (cc, told ∙ ap why_of same ∙ sym told')
same-reason format columns line i j a b (Unread x gives at told) (Miscounted g gives' count' at' told') = absurd (no-fault format line g x gives' gives)
same-reason format columns line i j a b (Unread x gives at told) (Unvalued g w y after' (gives', count') read' at' told') = absurd (no-fault format line g x gives' gives)
same-reason format columns line i j a b (Miscounted f gives count at told) (Unread y gives' at' told') = absurd (no-fault format line f y gives gives')
same-reason format columns line i j a b (Miscounted f gives count at told) (Miscounted g gives' count' at' told') =
    (cc, told ∙ ap (λ (fs : List Field). why.FieldCount (told_count (length fs))) (same-fields format line f g gives gives') ∙ sym told')
same-reason format columns line i j a b (Miscounted f gives count at told) (Unvalued g w y after' (gives', count') read' at' told') =
    absurd (count (ap length (same-fields format line f g gives gives') ∙ count'))
same-reason format columns line i j a b (Unvalued f v x after (gives, count) read at told) (Unread y gives' at' told') = absurd (no-fault format line f y gives gives')
same-reason format columns line i j a b (Unvalued f v x after (gives, count) read at told) (Miscounted g gives' count' at' told') =
    absurd (count' (ap length (same-fields format line g f gives' gives) ∙ count))
same-reason format columns line i j a b (Unvalued f v x after (gives, count) read at told) (Unvalued g w y after' (gives', count') read' at' told') =
    let same = same-fault v w x y after after' (sym read ∙ ap (readings columns) (same-fields format line f g gives gives') ∙ read') in
    (omega (arith, same.0), told ∙ ap why.Value same.1 ∙ sym told')

-- lines are one list of rows
same-rows : (format : Format) (columns : List Reader) (lines : List (List ℕ)) (rows others : List (List Value)) → AreTypedRows format columns lines rows → AreTypedRows format columns lines others → rows ≡ others
same-rows format columns lines rows others p q = tabled.same-rows (IsTypedRow format columns) (same-row format columns) (filter (is_row_line format) lines) rows others p q

-- the row of a line among typed rows, and the rows in front of it
record Behind (format : Format) (columns : List Reader) (before : List (List ℕ)) (line : List ℕ) (rows : List (List Value)) : Type 0 where
  pub front : List (List Value)
  pub row : List Value
  pub typed : AreTypedRows format columns before front
  pub here : IsTypedRow format columns line row
  pub more : length front < length rows

behind : (format : Format) (columns : List Reader) (before : List (List ℕ)) (line : List ℕ) (after : List (List ℕ)) (rows : List (List Value)) → is_row_line format line ≡ true
    → AreTypedRows format columns (before ++ line ∷ after) rows → Behind format columns before line rows
behind format columns [] line after rows is typed = first rows (rw is at typed)
  where
    first : (rows : List (List Value)) → AllZip (IsTypedRow format columns) (line ∷ filter (is_row_line format) after) rows → Behind format columns [] line rows
    first [] p = absurd p
    first (v ∷ vs) p = record { front = []; row = v; typed = tt; here = p.0; more = omega arith }
behind format columns (b ∷ before) line after rows is typed = elim (cases_Bool (is_row_line format b)) [
  | inl yes' ↦ next rows yes' (λ vs p. behind format columns before line after vs is p) (rw yes' at typed)
  | inr no' ↦
      let rest = behind format columns before line after rows is (rw no' at typed) in
      record { front = rest.front; row = rest.row; typed = rw no' rest.typed; here = rest.here; more = rest.more }
]
  where
    next : (rows : List (List Value)) → is_row_line format b ≡ true → ((vs : List (List Value)) → AreTypedRows format columns (before ++ line ∷ after) vs → Behind format columns before line vs)
        → AllZip (IsTypedRow format columns) (b ∷ filter (is_row_line format) (before ++ line ∷ after)) rows → Behind format columns (b ∷ before) line rows
    next [] kept on p = absurd p
    next (v ∷ vs) kept on p =
        let rest = on vs p.1 in
        record { front = v ∷ rest.front; row = rest.row; typed = rw kept (p.0, rest.typed); here = rest.here; more = omega (arith, rest.more) }

-- two places of one list: the same, or one behind the other
data TwoPlaces (before : List (List ℕ)) (line : List ℕ) (front : List (List ℕ)) (other : List ℕ) : Type 0 where
  Same : before ≡ front → line ≡ other → TwoPlaces before line front other
  Later : (more : List (List ℕ)) → front ≡ before ++ line ∷ more → TwoPlaces before line front other
  Sooner : (more : List (List ℕ)) → before ≡ front ++ other ∷ more → TwoPlaces before line front other

two-places : (before : List (List ℕ)) (line : List ℕ) (after front : List (List ℕ)) (other : List ℕ) (back : List (List ℕ)) → before ++ line ∷ after ≡ front ++ other ∷ back → TwoPlaces before line front other
two-places [] line after [] other back e = Same refl cc
two-places [] line after (f ∷ front) other back e = Later front cc
two-places (b ∷ before) line after [] other back e = Sooner before cc
two-places (b ∷ before) line after (f ∷ front) other back e =
    let head : b ≡ f = cc in
    elim (two-places before line after front other back cc) [
      | Same p q ↦ Same (cc) q
      | Later more p ↦ Later more cc
      | Sooner more p ↦ Sooner more cc
    ]

-- where two lines of one text stand
places : (format : Format) (columns : List Reader) (text : List ℕ) (rows others : List (List Value)) (line other : List ℕ)
    → (s : StandsBehind format columns text rows line) → (t : StandsBehind format columns text others other) → TwoPlaces s.before line t.before other
places format columns text rows others line other s t =
    two-places s.before line s.after t.before other t.after (one-lines (rule_of format) text _ _ s.cut t.cut)

-- the row of a line that stands in front of another
sooner : (format : Format) (columns : List Reader) (text : List ℕ) (rows : List (List Value)) (line : List ℕ) (lines more : List (List ℕ)) (others : List (List Value))
    → (s : StandsBehind format columns text rows line) → lines ≡ s.before ++ line ∷ more → AreTypedRows format columns lines others → ((row : List Value) × IsTypedRow format columns line row) × (length rows < length others)
sooner format columns text rows line lines more others s e typed =
    let b = behind format columns s.before line more others s.is_row (subst (λ (ls : List (List ℕ)). AreTypedRows format columns ls others) e typed) in
    ((b.row, b.here), rw (same-rows format columns s.before rows b.front s.typed b.typed) b.more)

-- a text of rows has no bad row, and not too many
rows-not_bad : (format : Format) (columns : List Reader) (text : List ℕ) (rows : List (List Value)) (bad : BadRow) → HasRows format columns text rows → HasBadRow format columns text bad → ⊥
rows-not_bad format columns text rows bad h b =
    let at = sooner format columns text b.rows b.line h.lines b.stands.after rows b.stands (one-lines (rule_of format) text _ _ h.cut b.stands.cut) h.typed in
    not-row format columns b.line bad.column bad.why at.0.0 b.reason at.0.1

rows-not_many : (format : Format) (columns : List Reader) (text : List ℕ) (rows : List (List Value)) → HasRows format columns text rows → HasTooMany format columns text → ⊥
rows-not_many format columns text rows h m =
    let at = sooner format columns text m.rows m.line h.lines m.stands.after rows m.stands (one-lines (rule_of format) text _ _ h.cut m.stands.cut) h.typed in
    absurd (omega (arith, at.1, m.full, h.few))

-- a text with a bad row has not too many
bad-not_many : (format : Format) (columns : List Reader) (text : List ℕ) (bad : BadRow) → HasBadRow format columns text bad → HasTooMany format columns text → ⊥
bad-not_many format columns text bad b m = elim (places format columns text b.rows m.rows b.line m.line b.stands m.stands) [
  | Same p q ↦
      let same : b.rows ≡ m.rows = same-rows format columns m.stands.before b.rows m.rows (subst (λ (ls : List (List ℕ)). AreTypedRows format columns ls b.rows) p b.stands.typed) m.stands.typed in
      absurd (omega (arith, ap length same, m.full, b.room))
  | Later more e ↦
      let at = sooner format columns text b.rows b.line m.stands.before more m.rows b.stands e m.stands.typed in
      not-row format columns b.line bad.column bad.why at.0.0 b.reason at.0.1
  | Sooner more e ↦
      let at = sooner format columns text m.rows m.line b.stands.before more b.rows m.stands e b.stands.typed in
      absurd (omega (arith, at.1, m.full, b.room))
]

-- a text has one first bad row
same-bad : (format : Format) (columns : List Reader) (text : List ℕ) (bad other : BadRow) → HasBadRow format columns text bad → HasBadRow format columns text other → bad ≡ other
same-bad format columns text bad other b c = elim (places format columns text b.rows c.rows b.line c.line b.stands c.stands) [
  | Same p q ↦
      let line : bad.line ≡ other.line = b.numbered ∙ ap (λ (ls : List (List ℕ)). length ls + 1) p ∙ sym c.numbered in
      let told = same-reason format columns c.line bad.column other.column bad.why other.why (subst (λ (l : List ℕ). IsBadLine format columns l bad.column bad.why) q b.reason) c.reason in
      λ i. record { line = line i; column = told.0 i; why = told.1 i }
  | Later more e ↦
      let at = sooner format columns text b.rows b.line c.stands.before more c.rows b.stands e c.stands.typed in
      absurd (not-row format columns b.line bad.column bad.why at.0.0 b.reason at.0.1)
  | Sooner more e ↦
      let at = sooner format columns text c.rows c.line b.stands.before more b.rows c.stands e b.stands.typed in
      absurd (not-row format columns c.line other.column other.why at.0.0 c.reason at.0.1)
]

pub one-decoding : (format : Format) (columns : List Reader) (text : List ℕ) (answer other : Result (List (List Value)) DecodeFault) → Decodes format columns text answer → Decodes format columns text other → answer ≡ other
one-decoding format columns text (Ok rows) (Ok others) p q =
    let lines = one-lines (rule_of format) text p.lines q.lines p.cut q.cut in
    ap (λ (rs : List (List Value)). Ok rs) (same-rows format columns q.lines rows others (subst (λ (ls : List (List ℕ)). AreTypedRows format columns ls rows) lines p.typed) q.typed)
one-decoding format columns text (Ok rows) (Err (decode.Bad bad)) p q = absurd (rows-not_bad format columns text rows bad p q)
one-decoding format columns text (Ok rows) (Err decode.TooMany) p q = absurd (rows-not_many format columns text rows p q)
one-decoding format columns text (Ok rows) (Err decode.NoMemory) p q = absurd q
one-decoding format columns text (Err (decode.Bad bad)) (Ok rows) p q = absurd (rows-not_bad format columns text rows bad q p)
one-decoding format columns text (Err (decode.Bad bad)) (Err (decode.Bad other)) p q = ap (λ (b : BadRow). Err (decode.Bad b)) (same-bad format columns text bad other p q)
one-decoding format columns text (Err (decode.Bad bad)) (Err decode.TooMany) p q = absurd (bad-not_many format columns text bad p q)
one-decoding format columns text (Err (decode.Bad bad)) (Err decode.NoMemory) p q = absurd q
one-decoding format columns text (Err decode.TooMany) (Ok rows) p q = absurd (rows-not_many format columns text rows q p)
one-decoding format columns text (Err decode.TooMany) (Err (decode.Bad bad)) p q = absurd (bad-not_many format columns text bad q p)
one-decoding format columns text (Err decode.TooMany) (Err decode.TooMany) p q = refl
one-decoding format columns text (Err decode.TooMany) (Err decode.NoMemory) p q = absurd q
one-decoding format columns text (Err decode.NoMemory) other p q = absurd p
