-- A written row is read again.
use Rattle.std.proofs.Common.{◌≡◌, ◌≢◌, ◌<◌, ◌∷◌, ◌++◌, ◌∙◌, ◌==◌, [], ℕ, List, length, map, Option, Some, None, refl, sym, ap, subst, inl, inr, arith, append_assoc, true, false}
use Rattle.std.specs.Prelude.{IsSome}
use Rattle.std.specs.List.{AllByRecursion, flat_map, join_with_byte}
use Rattle.std.proofs.lemmas.List.{append-nil, map-append}
use Rattle.std.proofs.lemmas.Bool.{cases_Bool, eqb-true, eqb-false, ne_eqb}
use Rattle.std.proofs.lemmas.List.Elements.{All-from_recursion}
use Rattle.dict_value.specs.declared.value.Field.{Field}
use Rattle.dict_value.specs.declared.value.Field.TheVariants as field
use Rattle.row_text.specs.declared.cutter.CutRule.TheVariants as rule
use Rattle.row_text.specs.Cutting.{IsOpen, IsWhole, keeps_open}
use Rattle.dict_value.specs.declared.letters.TheConstants.{BACKSLASH, CAPITAL_N, CARRIAGE_RETURN, LETTER_X, LINE_FEED, TAB}
use Rattle.dict_value.specs.Escapes.{hex_digit, unescaped}
use Rattle.row_text.specs.Marks.{Mark, bare, escaped, hex, IsMark, Spells, meant_byte, spelled}
use Rattle.row_text.specs.TabRow.{IsTabRow, ends_in_return, field_of, field_text, fields_of, are_null_marks, is_return, is_tab, row_line, written_as, written_byte, written_letter}
use Rattle.row_text.proofs.CutSteps.{keeps_open-nil, keeps_open-push}
use Rattle.row_text.proofs.MarkLists.{all-append, ends-append, ends-append_cons, spells-append}
use Rattle.row_text.proofs.Reached.{fields-last, fields-tab}

-- what is known of a byte that is written with this letter, or by itself
abbrev WritesAs : ℕ → Option ℕ → Type 0
WritesAs b None = (b ≢ BACKSLASH) × (b ≢ TAB) × (b ≢ LINE_FEED) × (b ≢ CARRIAGE_RETURN)
WritesAs b (Some letter) = (letter ≢ LETTER_X) × (letter ≢ CAPITAL_N) × (letter ≢ LINE_FEED) × (unescaped letter ≡ b)

at-letter : (b k letter : ℕ) → (b == k) ≡ true → (letter == LETTER_X) ≡ false → (letter == CAPITAL_N) ≡ false → (letter == LINE_FEED) ≡ false → unescaped letter ≡ k → WritesAs b (Some letter)
at-letter b k letter e x n f u = (eqb-false letter LETTER_X x, eqb-false letter CAPITAL_N n, eqb-false letter LINE_FEED f, u ∙ sym (eqb-true b k e))

writes-as : (b : ℕ) → WritesAs b (written_letter b)
unfolding written_letter unescaped
writes-as b = elim (cases_Bool (b == 8)) [
  | inl e ↦ rw e (at-letter b 8 98 e refl refl refl refl)
  | inr n8 ↦ elim (cases_Bool (b == 12)) [
    | inl e ↦ rw (n8, e) (at-letter b 12 102 e refl refl refl refl)
    | inr n12 ↦ elim (cases_Bool (b == 13)) [
      | inl e ↦ rw (n8, n12, e) (at-letter b 13 114 e refl refl refl refl)
      | inr n13 ↦ elim (cases_Bool (b == 10)) [
        | inl e ↦ rw (n8, n12, n13, e) (at-letter b 10 110 e refl refl refl refl)
        | inr n10 ↦ elim (cases_Bool (b == 9)) [
          | inl e ↦ rw (n8, n12, n13, n10, e) (at-letter b 9 116 e refl refl refl refl)
          | inr n9 ↦ elim (cases_Bool (b == 0)) [
            | inl e ↦ rw (n8, n12, n13, n10, n9, e) (at-letter b 0 48 e refl refl refl refl)
            | inr n0 ↦ elim (cases_Bool (b == 39)) [
              | inl e ↦ rw (n8, n12, n13, n10, n9, n0, e) (at-letter b 39 39 e refl refl refl refl)
              | inr n39 ↦ elim (cases_Bool (b == 92)) [
                | inl e ↦ rw (n8, n12, n13, n10, n9, n0, n39, e) (at-letter b 92 92 e refl refl refl refl)
                | inr n92 ↦ rw (n8, n12, n13, n10, n9, n0, n39, n92) (eqb-false b 92 n92, eqb-false b 9 n9, eqb-false b 10 n10, eqb-false b 13 n13)
              ]
            ]
          ]
        ]
      ]
    ]
  ]
]

-- the mark that a byte is written as
abbrev mark_as : ℕ → Option ℕ → Mark
mark_as b None = bare b
mark_as b (Some letter) = escaped letter

abbrev mark_of : ℕ → Mark
mark_of b = mark_as b (written_letter b)

-- what is known of that mark
record IsWritten (b : ℕ) (text : List ℕ) (mark : Mark) : Type 0 where
  valid : IsMark mark
  written : spelled mark ≡ text
  means : meant_byte mark ≡ b
  untabbed : is_tab mark ≡ false
  open' : is_return mark ≡ false
  some : are_null_marks (mark ∷ []) ≡ false
  one_line : AllByRecursion (λ c. c ≢ LINE_FEED) text

mark-known : (b : ℕ) (letter : Option ℕ) → WritesAs b letter → IsWritten b (written_as b letter) (mark_as b letter)
mark-known b None p = record { valid = p.0; written = refl; means = refl; untabbed = ne_eqb b TAB p.1; open' = ne_eqb b CARRIAGE_RETURN p.3; some = refl; one_line = (p.2, tt) }
mark-known b (Some letter) p = record {
  valid = p.0;
  written = refl;
  means = p.3;
  untabbed = refl;
  open' = refl;
  some = ne_eqb letter CAPITAL_N p.1;
  one_line = (eqb-false BACKSLASH LINE_FEED refl, (p.2, tt));
}

known : (b : ℕ) → IsWritten b (written_byte b) (mark_of b)
known b = mark-known b (written_letter b) (writes-as b)

-- the marks of a field
field_marks : Field → List Mark
field_marks field.Null = escaped CAPITAL_N ∷ []
field_marks (field.Text bytes) = map mark_of bytes

text-spells : (bytes : List ℕ) → Spells (flat_map written_byte bytes) (map mark_of bytes)
text-spells [] = record { valid = tt; joined = refl }
text-spells (b ∷ bytes) =
    let more = text-spells bytes in
    record {
      valid = ((known b).valid, more.valid);
      joined = ap (λ (t : List ℕ). t ++ flat_map written_byte bytes) (sym (known b).written) ∙ ap (λ (t : List ℕ). spelled (mark_of b) ++ t) more.joined;
    }

text-meant : (bytes : List ℕ) → map meant_byte (map mark_of bytes) ≡ bytes
text-meant [] = refl
text-meant (b ∷ bytes) = ap (λ (x : ℕ). x ∷ map meant_byte (map mark_of bytes)) (known b).means ∙ ap (λ (t : List ℕ). b ∷ t) (text-meant bytes)

text-untabbed : (bytes : List ℕ) → AllByRecursion (λ m. is_tab m ≡ false) (map mark_of bytes)
text-untabbed [] = tt
text-untabbed (b ∷ bytes) = ((known b).untabbed, text-untabbed bytes)

text-open : (bytes : List ℕ) → ends_in_return (map mark_of bytes) ≡ false
text-open [] = refl
text-open (b ∷ []) = (known b).open'
text-open (b ∷ c ∷ bytes) = text-open (c ∷ bytes)

two-marks : (m n : Mark) (ms : List Mark) → are_null_marks (m ∷ n ∷ ms) ≡ false
two-marks (bare b) n ms = refl
two-marks (escaped b) n ms = refl
two-marks (hex h l) n ms = refl

text-some : (bytes : List ℕ) → are_null_marks (map mark_of bytes) ≡ false
text-some [] = refl
text-some (b ∷ []) = (known b).some
text-some (b ∷ c ∷ bytes) = two-marks (mark_of b) (mark_of c) (map mark_of bytes)

text-one_line : (bytes : List ℕ) → AllByRecursion (λ c. c ≢ LINE_FEED) (flat_map written_byte bytes)
text-one_line [] = tt
text-one_line (b ∷ bytes) = all-append (λ c. c ≢ LINE_FEED) (written_byte b) (flat_map written_byte bytes) (known b).one_line (text-one_line bytes)

-- what is known of them
record AreOf (f : Field) (marks : List Mark) : Type 0 where
  spells : Spells (field_text f) marks
  untabbed : AllByRecursion (λ m. is_tab m ≡ false) marks
  open' : ends_in_return marks ≡ false
  again : field_of marks ≡ f
  one_line : AllByRecursion (λ c. c ≢ LINE_FEED) (field_text f)

field-known : (f : Field) → AreOf f (field_marks f)
unfolding field_marks
field-known field.Null = record {
  spells = record { valid = (eqb-false CAPITAL_N LETTER_X refl, tt); joined = refl };
  untabbed = (refl, tt);
  open' = refl;
  again = refl;
  one_line = (eqb-false BACKSLASH LINE_FEED refl, (eqb-false CAPITAL_N LINE_FEED refl, tt));
}
field-known (field.Text bytes) = record {
  spells = text-spells bytes;
  untabbed = text-untabbed bytes;
  open' = text-open bytes;
  again = rw (text-some bytes) (ap (λ (t : List ℕ). field.Text t) (text-meant bytes));
  one_line = text-one_line bytes;
}

-- the marks of a row
row_marks : Field → List Field → List Mark
row_marks f [] = field_marks f
row_marks f (g ∷ fields) = field_marks f ++ bare TAB ∷ row_marks g fields

tab-spells : Spells (TAB ∷ []) (bare TAB ∷ [])
tab-spells = record { valid = (eqb-false TAB BACKSLASH refl, tt); joined = refl }

row-spells : (f : Field) (fields : List Field) → Spells (row_line (f ∷ fields)) (row_marks f fields)
unfolding row_marks
row-spells f [] = (field-known f).spells
row-spells f (g ∷ fields) = spells-append (field_text f) (TAB ∷ row_line (g ∷ fields)) (field_marks f) (bare TAB ∷ row_marks g fields) (field-known f).spells
    (spells-append (TAB ∷ []) (row_line (g ∷ fields)) (bare TAB ∷ []) (row_marks g fields) tab-spells (row-spells g fields))

row-open : (f : Field) (fields : List Field) → ends_in_return (row_marks f fields) ≡ false
unfolding row_marks
row-open f [] = (field-known f).open'
row-open f (g ∷ fields) = ends-append_cons (field_marks f) (bare TAB) (row_marks g fields) ∙ ends-append (bare TAB ∷ []) (row_marks g fields) refl (row-open g fields)

row-fields : (f : Field) (fields : List Field) → f ∷ fields ≡ fields_of (row_marks f fields)
unfolding row_marks
row-fields f [] = sym (fields-last (field_marks f) (field-known f).untabbed ∙ ap (λ (x : Field). x ∷ []) (field-known f).again)
row-fields f (g ∷ fields) = sym (fields-tab (field_marks f) (row_marks g fields) (field-known f).untabbed
    ∙ ap (λ (x : Field). x ∷ fields_of (row_marks g fields)) (field-known f).again ∙ ap (λ (xs : List Field). f ∷ xs) (sym (row-fields g fields)))

-- the written row is read as its fields
pub row-again : (fields : List Field) → fields ≢ [] → IsTabRow (row_line fields) fields
row-again [] some = absurd (some refl)
row-again (f ∷ fields) some = (row_marks f fields, row-spells f fields, row-open f fields, row-fields f fields)

row-one_line : (f : Field) (fields : List Field) → AllByRecursion (λ c. c ≢ LINE_FEED) (row_line (f ∷ fields))
row-one_line f [] = (field-known f).one_line
row-one_line f (g ∷ fields) = all-append (λ c. c ≢ LINE_FEED) (field_text f) (TAB ∷ row_line (g ∷ fields)) (field-known f).one_line (eqb-false TAB LINE_FEED refl, row-one_line g fields)

-- a text without a line feed ends no row
open-one_line : (text : List ℕ) → AllByRecursion (λ c. c ≢ LINE_FEED) text → IsOpen rule.Tab text
open-one_line text all place below is = absurd (All-from_recursion (λ c. c ≢ LINE_FEED) text all place 0 below is)

-- behind whole marks a line feed ends the row
tab-step : (row : List ℕ) (b : ℕ) → keeps_open rule.Tab row ≡ false → b ≢ BACKSLASH → keeps_open rule.Tab (row ++ b ∷ []) ≡ false
tab-step row b shut other = keeps_open-push rule.Tab row b ∙ rw (ne_eqb b BACKSLASH other) refl

tab-backslash : (row : List ℕ) → keeps_open rule.Tab row ≡ false → keeps_open rule.Tab (row ++ BACKSLASH ∷ []) ≡ true
tab-backslash row shut = keeps_open-push rule.Tab row BACKSLASH ∙ rw shut refl

tab-taken : (row : List ℕ) (b : ℕ) → keeps_open rule.Tab row ≡ true → keeps_open rule.Tab (row ++ b ∷ []) ≡ false
tab-taken row b open' = keeps_open-push rule.Tab row b ∙ rw open' (elim (cases_Bool (b == BACKSLASH)) [ inl e ↦ rw e refl | inr e ↦ rw e refl ])

not-backslash : (b : ℕ) → IsSome (hex_digit b) → b ≢ BACKSLASH
unfolding hex_digit
not-backslash b some e = cc (rw e at some)

shut-mark : (row : List ℕ) (mark : Mark) → IsMark mark → keeps_open rule.Tab row ≡ false → keeps_open rule.Tab (row ++ spelled mark) ≡ false
shut-mark row (bare b) p shut = tab-step row b shut p
shut-mark row (escaped b) p shut = rw (← append_assoc row (BACKSLASH ∷ []) (b ∷ [])) (tab-taken (row ++ BACKSLASH ∷ []) b (tab-backslash row shut))
shut-mark row (hex h l) p shut =
    let taken = tab-taken (row ++ BACKSLASH ∷ []) LETTER_X (tab-backslash row shut) in
    let high = tab-step ((row ++ BACKSLASH ∷ []) ++ LETTER_X ∷ []) h taken (not-backslash h p.0) in
    let low = tab-step (((row ++ BACKSLASH ∷ []) ++ LETTER_X ∷ []) ++ h ∷ []) l high (not-backslash l p.1) in
    subst (λ (t : List ℕ). keeps_open rule.Tab t ≡ false)
    (append_assoc ((row ++ BACKSLASH ∷ []) ++ LETTER_X ∷ []) (h ∷ []) (l ∷ []) ∙ append_assoc (row ++ BACKSLASH ∷ []) (LETTER_X ∷ []) (h ∷ l ∷ []) ∙ append_assoc row (BACKSLASH ∷ []) (LETTER_X ∷ h ∷ l ∷ [])) low

shut-marks : (row : List ℕ) (marks : List Mark) → AllByRecursion IsMark marks → keeps_open rule.Tab row ≡ false → keeps_open rule.Tab (row ++ flat_map spelled marks) ≡ false
shut-marks row [] p shut = rw (append-nil row) shut
shut-marks row (mark ∷ marks) p shut =
    rw (← append_assoc row (spelled mark) (flat_map spelled marks)) (shut-marks (row ++ spelled mark) marks p.1 (shut-mark row mark p.0 shut))

-- the written row is one row
pub row-whole : (fields : List Field) → fields ≢ [] → IsWhole rule.Tab (row_line fields)
row-whole [] some = absurd (some refl)
row-whole (f ∷ fields) some =
    let spells = row-spells f fields in
    record {
      opened = open-one_line _ (row-one_line f fields);
      ends = subst (λ (t : List ℕ). keeps_open rule.Tab t ≡ false) (sym spells.joined) (shut-marks [] (row_marks f fields) spells.valid (keeps_open-nil rule.Tab));
    }

-- one more field
join-push : (c : ℕ) (x y : List ℕ) (xs : List (List ℕ)) → join_with_byte c ((x ∷ xs) ++ y ∷ []) ≡ join_with_byte c (x ∷ xs) ++ c ∷ y
join-push c x y [] = refl
join-push c x y (z ∷ zs) = ap (λ (t : List ℕ). x ++ (c ∷ t)) (join-push c z y zs) ∙ sym (append_assoc x (c ∷ join_with_byte c (z ∷ zs)) (c ∷ y))

row-more : (f : Field) (fields : List Field) → 0 < length fields → row_line (fields ++ f ∷ []) ≡ row_line fields ++ TAB ∷ field_text f
row-more f [] some = absurd (omega (arith, some))
row-more f (g ∷ fields) some = ap (join_with_byte TAB) (map-append field_text (g ∷ fields) (f ∷ [])) ∙ join-push TAB (field_text g) (field_text f) (map field_text fields)

-- the text so far with one more field
pub text-first : (old out text : List ℕ) (f : Field) (fields : List Field) → length fields ≡ 0 → out ≡ old ++ row_line fields → text ≡ out ++ field_text f → text ≡ old ++ row_line (fields ++ f ∷ [])
text-first old out text f [] none e is = is ∙ ap (λ (t : List ℕ). t ++ field_text f) (e ∙ append-nil old)
text-first old out text f (g ∷ fields) none e is = absurd (omega (arith, none))

pub text-more : (old out text : List ℕ) (f : Field) (fields : List Field) → 0 < length fields → out ≡ old ++ row_line fields → text ≡ (out ++ TAB ∷ []) ++ field_text f → text ≡ old ++ row_line (fields ++ f ∷ [])
text-more old out text f fields some e is =
    is ∙ append_assoc out (TAB ∷ []) (field_text f) ∙ ap (λ (t : List ℕ). t ++ TAB ∷ field_text f) e ∙ append_assoc old (row_line fields) (TAB ∷ field_text f)
    ∙ ap (λ (t : List ℕ). old ++ t) (sym (row-more f fields some))
