-- The line that is the request to quit, read byte by byte.
use Rattle.std.proofs.Common.{◌≡◌, ◌≢◌, ◌==◌, ◌+◌, ◌*◌, ◌++◌, ◌∙◌, ℕ, List, [], ◌∷◌, Bool, true, false, Option, Some, None}
use Rattle.std.proofs.Common.{map, refl, sym, ap, subst, if◌then◌else◌, codes, cond, arith, drop, get_or, length, ◌<◌}
use Rattle.std.proofs.lemmas.List.{at_drop_more}
use Rattle.std.proofs.lemmas.Bool.{ne_eqb, eq-eqb, eqb-true, eqb-false, true≢false}
use Rattle.std.specs.List.{AllByRecursion, AllZip, flat_map, onto_first, slice_split}
use Rattle.std.proofs.lemmas.List.Splits.{slice_split_none}
use Rattle.std.proofs.lemmas.List.Elements.{All-from_recursion}
use Rattle.std.specs.Prelude.{IsSome, MatchBool, unwrap_or}
use Rattle.dict_value.specs.Escapes.{hex_digit, unescaped}
use Rattle.dict_value.specs.declared.letters.TheConstants.{BACKSLASH, CARRIAGE_RETURN, LETTER_X, TAB}
use Rattle.dict_value.specs.declared.value.Field.{Field}
use Rattle.dict_value.specs.declared.value.Field.TheVariants.{Null, Text}
use Rattle.row_text.specs.Marks.{Mark, bare, escaped, hex, IsMark, Spells, meant_byte, spelled}
use Rattle.row_text.specs.TabRow.{IsTabRow, field_of, are_null_marks, is_return, is_tab}
use Rattle.wire_text.specs.Requests.{AsksFor, IsRequest}
use Rattle.wire_text.specs.declared.request.Request.{Request}
use Rattle.wire_text.specs.declared.request.Request.TheVariants as request
use Rattle.wire_text.specs.steps.Heads.{escape_meant, hex_byte, first_meant, goes_on_behind, hex_meant, is_none_left, means}

-- ---- marks are found, one after another

hex_found : (h l : Option ℕ) (rest : List ℕ) → IsSome h → IsSome l
    → hex_byte h l rest ≡ Some (16 * unwrap_or h 0 + unwrap_or l 0, rest)
hex_found None l rest a b = absurd (true≢false (sym a))
hex_found (Some x) None rest a b = absurd (true≢false (sym b))
hex_found (Some x) (Some y) rest a b = refl

-- the first mark is found
first_found : (m : Mark) (rest : List ℕ) → IsMark m → first_meant (spelled m ++ rest) ≡ Some (meant_byte m, rest)
first_found (bare b) rest is = rw (ne_eqb b BACKSLASH is) refl
first_found (escaped b) rest is = rw (ne_eqb b LETTER_X is) refl
first_found (hex high low) rest is = hex_found (hex_digit high) (hex_digit low) rest is.0 is.1

goes_same : (passes : List ℕ → Bool) (b : ℕ) (rest : List ℕ) → goes_on_behind passes b (Some (b, rest)) ≡ passes rest
goes_same passes b rest = rw (eq-eqb b b refl) refl

-- marks mean their bytes
marks_mean : (marks : List Mark) → AllByRecursion IsMark marks → means (flat_map spelled marks) (map meant_byte marks) ≡ true
marks_mean [] valid = refl
marks_mean (m ∷ marks) valid =
    let passes : List ℕ → Bool = λ rest. means rest (map meant_byte marks) in
    ap (goes_on_behind passes (meant_byte m)) (first_found m (flat_map spelled marks) valid.0)
    ∙ goes_same passes (meant_byte m) (flat_map spelled marks) ∙ marks_mean marks valid.1

-- ---- what is found is a mark

record Found (text : List ℕ) (b : ℕ) (rest : List ℕ) : Type 0 where
  mark : Mark
  valid : IsMark mark
  meant : meant_byte mark ≡ b
  joined : text ≡ spelled mark ++ rest

abbrev Finds : List ℕ → Option (ℕ × List ℕ) → Type 0
Finds text None = Unit {0}
Finds text (Some found) = Found text found.0 found.1

hex_mark : (high low : ℕ) (rest : List ℕ) (h l : Option ℕ) → hex_digit high ≡ h → hex_digit low ≡ l
    → Finds (BACKSLASH ∷ LETTER_X ∷ high ∷ low ∷ rest) (hex_byte h l rest)
hex_mark high low rest None l e f = tt
hex_mark high low rest (Some x) None e f = tt
hex_mark high low rest (Some x) (Some y) e f = record {
  mark = hex high low;
  valid = (subst IsSome (sym e) refl, subst IsSome (sym f) refl);
  meant = ap (λ (h : Option ℕ). 16 * unwrap_or h 0 + unwrap_or (hex_digit low) 0) e ∙ ap (λ (l : Option ℕ). 16 * x + unwrap_or l 0) f;
  joined = refl;
}

hex_finds : (rest : List ℕ) → Finds (BACKSLASH ∷ LETTER_X ∷ rest) (hex_meant rest)
hex_finds [] = tt
hex_finds (high ∷ []) = tt
hex_finds (high ∷ low ∷ rest) = hex_mark high low rest (hex_digit high) (hex_digit low) refl refl

escape_finds : (b : ℕ) (rest : List ℕ) (is_x : Bool) → (b == LETTER_X) ≡ is_x
    → Finds (BACKSLASH ∷ b ∷ rest) (if is_x then hex_meant rest else Some (unescaped b, rest))
escape_finds b rest true e =
    subst (λ (c : ℕ). Finds (BACKSLASH ∷ c ∷ rest) (hex_meant rest)) (sym (eqb-true b LETTER_X e)) (hex_finds rest)
escape_finds b rest false e = record { mark = escaped b; valid = eqb-false b LETTER_X e; meant = refl; joined = refl }

byte_finds : (b : ℕ) (rest : List ℕ) (is_escape : Bool) → (b == BACKSLASH) ≡ is_escape
    → Finds (b ∷ rest) (if is_escape then escape_meant rest else Some (b, rest))
byte_finds b [] true e = tt
byte_finds b (c ∷ rest) true e =
    subst (λ (d : ℕ). Finds (d ∷ c ∷ rest) (escape_meant (c ∷ rest))) (sym (eqb-true b BACKSLASH e))
    (escape_finds c rest (c == LETTER_X) refl)
byte_finds b rest false e = record { mark = bare b; valid = eqb-false b BACKSLASH e; meant = refl; joined = refl }

finds : (text : List ℕ) → Finds text (first_meant text)
finds [] = tt
finds (b ∷ rest) = byte_finds b rest (b == BACKSLASH) refl

-- marks that mean a word spell the text
record Meant (text word : List ℕ) : Type 0 where
  marks : List Mark
  spells : Spells text marks
  are : map meant_byte marks ≡ word

nothing_meant : (text : List ℕ) → is_none_left text ≡ true → Meant text []
nothing_meant [] e = record { marks = []; spells = record { valid = tt; joined = refl }; are = refl }
nothing_meant (b ∷ rest) e = absurd (true≢false (sym e))

meant_same : (text : List ℕ) (b c : ℕ) (behind word : List ℕ) (passes : List ℕ → Bool) (same : Bool) → (c == b) ≡ same
    → Found text c behind → ((rest : List ℕ) → passes rest ≡ true → Meant rest word)
    → (if same then passes behind else false) ≡ true → Meant text (b ∷ word)
meant_same text b c behind word passes false is found rest e = absurd (true≢false (sym e))
meant_same text b c behind word passes true is found rest e =
    let m = rest behind e in record {
      marks = found.mark ∷ m.marks;
      spells = record {
        valid = (found.valid, m.spells.valid);
        joined = found.joined ∙ ap (λ (t : List ℕ). spelled found.mark ++ t) m.spells.joined;
      };
      are = ap (λ (t : ℕ). t ∷ map meant_byte m.marks) (found.meant ∙ eqb-true c b is) ∙ ap (λ (t : List ℕ). b ∷ t) m.are;
    }

meant_more : (text : List ℕ) (b : ℕ) (word : List ℕ) (passes : List ℕ → Bool) (o : Option (ℕ × List ℕ)) → Finds text o
    → ((rest : List ℕ) → passes rest ≡ true → Meant rest word) → goes_on_behind passes b o ≡ true → Meant text (b ∷ word)
meant_more text b word passes None found rest e = absurd (true≢false (sym e))
meant_more text b word passes (Some (c, behind)) found rest e = meant_same text b c behind word passes (c == b) refl found rest e

means_marks : (word text : List ℕ) → means text word ≡ true → Meant text word
means_marks [] text e = nothing_meant text e
means_marks (b ∷ word) text e =
    meant_more text b word (λ rest. means rest word) (first_meant text) (finds text) (λ rest p. means_marks word rest p) e

-- ---- the one field of a line

-- there is at least one part
part_some : (m : Mark) (parts : List (List Mark)) → onto_first m parts ≡ [] → ⊥
part_some m [] e = let none : (m ∷ []) ∷ [] ≡ [] = e in cc
part_some m (h ∷ parts) e = let none : (m ∷ h) ∷ parts ≡ [] = e in cc

split_put : (m : Mark) (ms : List Mark) (is : Bool)
    → cond is ([] ∷ slice_split is_tab ms) (onto_first m (slice_split is_tab ms)) ≡ [] → ⊥
split_put m ms true e = let none : [] ∷ slice_split is_tab ms ≡ [] = e in cc
split_put m ms false e = part_some m (slice_split is_tab ms) e

split_some : (ms : List Mark) → slice_split is_tab ms ≡ [] → ⊥
split_some [] e = let none : [] ∷ [] ≡ [] = e in cc
split_some (m ∷ ms) e = split_put m ms (is_tab m) e

-- one part is the whole
onto_one : (m : Mark) (ms : List Mark) (parts : List (List Mark)) (g : List Mark) → (parts ≡ [] → ⊥)
    → ((h : List Mark) → parts ≡ h ∷ [] → h ≡ ms) → onto_first m parts ≡ g ∷ [] → g ≡ m ∷ ms
onto_one m ms [] g some one e = absurd (some refl)
onto_one m ms (h ∷ []) g some one e =
    let same : m ∷ h ≡ g = cc in sym same ∙ ap (λ (t : List Mark). m ∷ t) (one h refl)
onto_one m ms (h ∷ k ∷ parts) g some one e = let more : (m ∷ h) ∷ k ∷ parts ≡ g ∷ [] = e in absurd (cc)

one_put : (m : Mark) (ms : List Mark) (g : List Mark) (is : Bool) → ((h : List Mark) → slice_split is_tab ms ≡ h ∷ [] → h ≡ ms)
    → cond is ([] ∷ slice_split is_tab ms) (onto_first m (slice_split is_tab ms)) ≡ g ∷ [] → g ≡ m ∷ ms
one_put m ms g true one e = let none : slice_split is_tab ms ≡ [] = cc in absurd (split_some ms none)
one_put m ms g false one e = onto_one m ms (slice_split is_tab ms) g (split_some ms) one e

one_part : (ms g : List Mark) → slice_split is_tab ms ≡ g ∷ [] → g ≡ ms
one_part [] g e = let same : [] ≡ g = cc in sym same
one_part (m ∷ ms) g e = one_put m ms g (is_tab m) (λ h f. one_part ms h f) e

field_is : (g : List Mark) (text : List ℕ) (null : Bool) → (if null then Null else Text (map meant_byte g)) ≡ Text text
    → map meant_byte g ≡ text
field_is g text true e = let other : Null ≡ Text text = e in absurd (cc)
field_is g text false e = cc

one_field : (ms : List Mark) (text : List ℕ) (parts : List (List Mark)) → slice_split is_tab ms ≡ parts
    → map field_of parts ≡ Text text ∷ [] → map meant_byte ms ≡ text
one_field ms text [] e f = let none : [] ≡ Text text ∷ [] = f in absurd (cc)
one_field ms text (g ∷ []) e f =
    let is : field_of g ≡ Text text = cc in
    ap (map meant_byte) (sym (one_part ms g e)) ∙ field_is g text (are_null_marks g) is
one_field ms text (g ∷ k ∷ parts) e f = let more : field_of g ∷ field_of k ∷ map field_of parts ≡ Text text ∷ [] = f in absurd (cc)

-- ---- marks of the word

no_tab : (m : Mark) (b : ℕ) → meant_byte m ≡ b → b ≢ TAB → is_tab m ≡ false
no_tab (bare c) b e other = ne_eqb c TAB (λ f. other (sym e ∙ f))
no_tab (escaped c) b e other = refl
no_tab (hex high low) b e other = refl

no_return : (m : Mark) (b : ℕ) → meant_byte m ≡ b → b ≢ CARRIAGE_RETURN → is_return m ≡ false
no_return (bare c) b e other = ne_eqb c CARRIAGE_RETURN (λ f. other (sym e ∙ f))
no_return (escaped c) b e other = refl
no_return (hex high low) b e other = refl

long_not_null : (m n : Mark) (ms : List Mark) → are_null_marks (m ∷ n ∷ ms) ≡ false
long_not_null (bare b) n ms = refl
long_not_null (escaped b) n ms = refl
long_not_null (hex high low) n ms = refl

-- four marks that mean the word are its one field
quit_row : (line : List ℕ) (ms : List Mark) → Spells line ms → map meant_byte ms ≡ codes "quit"
    → IsTabRow line (Text (codes "quit") ∷ [])
quit_row line [] spells e = let short : [] ≡ codes "quit" = e in absurd (cc)
quit_row line (a ∷ []) spells e = let short : meant_byte a ∷ [] ≡ codes "quit" = e in absurd (cc)
quit_row line (a ∷ b ∷ []) spells e = let short : meant_byte a ∷ meant_byte b ∷ [] ≡ codes "quit" = e in absurd (cc)
quit_row line (a ∷ b ∷ c ∷ []) spells e =
    let short : meant_byte a ∷ meant_byte b ∷ meant_byte c ∷ [] ≡ codes "quit" = e in absurd (cc)
quit_row line (a ∷ b ∷ c ∷ d ∷ f ∷ ms) spells e =
    let long : meant_byte a ∷ meant_byte b ∷ meant_byte c ∷ meant_byte d ∷ meant_byte f ∷ map meant_byte ms ≡ codes "quit" = e in
    absurd (cc)
quit_row line (a ∷ b ∷ c ∷ d ∷ []) spells e =
    let q : meant_byte a ≡ 113 = cc in
    let u : meant_byte b ≡ 117 = cc in
    let i : meant_byte c ≡ 105 = cc in
    let t : meant_byte d ≡ 116 = cc in
    let ms = a ∷ b ∷ c ∷ d ∷ [] in
    let untabbed : AllByRecursion (λ m. is_tab m ≡ false) ms = (
      no_tab a 113 q (λ w. omega (arith, w)),
      (no_tab b 117 u (λ w. omega (arith, w)), (no_tab c 105 i (λ w. omega (arith, w)), (no_tab d 116 t (λ w. omega (arith, w)), tt))),
    ) in
    let parts : slice_split is_tab ms ≡ ms ∷ [] = slice_split_none is_tab ms (All-from_recursion (λ m. is_tab m ≡ false) ms untabbed) in
    let field : field_of ms ≡ Text (codes "quit") = rw (long_not_null a b (c ∷ d ∷ [])) (ap Text e) in (
      ms,
      spells,
      no_return d 116 t (λ w. omega (arith, w)),
      sym (ap (map field_of) parts ∙ ap (λ (x : Field). x ∷ []) field),
    )

-- ---- the request

abbrev is_quit_request : Request → Bool
is_quit_request request.Quit = true
is_quit_request _ = false

quit_fields : (line : List ℕ) {fields : List Field} {rows : List (List Field)} {r : Request} → AsksFor line fields rows r
    → is_quit_request r ≡ true → fields ≡ Text (codes "quit") ∷ []
quit_fields line (AsksFor.single a b c) e = absurd (true≢false (sym e))
quit_fields line (AsksFor.block count a b) e = absurd (true≢false (sym e))
quit_fields line (AsksFor.chain name key) e = absurd (true≢false (sym e))
quit_fields line (AsksFor.children name key) e = absurd (true≢false (sym e))
quit_fields line (AsksFor.is_in name key ancestor) e = absurd (true≢false (sym e))
quit_fields line (AsksFor.descendants name digits key a b) e = absurd (true≢false (sym e))
quit_fields line (AsksFor.reload name) e = absurd (true≢false (sym e))
quit_fields line (AsksFor.status name) e = absurd (true≢false (sym e))
quit_fields line (AsksFor.show name) e = absurd (true≢false (sym e))
quit_fields line (AsksFor.after name digits a) e = absurd (true≢false (sym e))
quit_fields line AsksFor.config e = absurd (true≢false (sym e))
quit_fields line AsksFor.quit e = refl

quit_rows : (line : List ℕ) {fields : List Field} {rows : List (List Field)} {r : Request} → AsksFor line fields rows r
    → is_quit_request r ≡ true → rows ≡ []
quit_rows line (AsksFor.single a b c) e = refl
quit_rows line (AsksFor.block count a b) e = absurd (true≢false (sym e))
quit_rows line (AsksFor.chain name key) e = refl
quit_rows line (AsksFor.children name key) e = refl
quit_rows line (AsksFor.is_in name key ancestor) e = refl
quit_rows line (AsksFor.descendants name digits key a b) e = refl
quit_rows line (AsksFor.reload name) e = refl
quit_rows line (AsksFor.status name) e = refl
quit_rows line (AsksFor.show name) e = refl
quit_rows line (AsksFor.after name digits a) e = refl
quit_rows line AsksFor.config e = refl
quit_rows line AsksFor.quit e = refl

no_rows : (lines : List (List ℕ)) (rows : List (List Field)) → AllZip IsTabRow lines rows → rows ≡ [] → lines ≡ []
no_rows [] rows all e = refl
no_rows (line ∷ lines) [] all e = absurd all
no_rows (line ∷ lines) (row ∷ rows) all e = let some : row ∷ rows ≡ [] = e in absurd (cc)

-- no line follows it
pub quit_alone : (first : List ℕ) (more : List (List ℕ)) → IsRequest first more request.Quit → more ≡ []
quit_alone first more r = no_rows more r.rows r.lines (quit_rows first r.asks refl)

row_meant : (line : List ℕ) → IsTabRow line (Text (codes "quit") ∷ []) → means line (codes "quit") ≡ true
row_meant line row =
    let marks = row.0 in
    let meant : map meant_byte marks ≡ codes "quit" = one_field marks (codes "quit") (slice_split is_tab marks) refl (sym row.3) in
    ap (λ (t : List ℕ). means t (codes "quit")) row.1.joined ∙ ap (means (flat_map spelled marks)) (sym meant)
    ∙ marks_mean marks row.1.valid

pub quits : (line : List ℕ) (b : Bool) → b ≡ means line (codes "quit")
    → MatchBool b (IsRequest line [] request.Quit) (¬ IsRequest line [] request.Quit)
quits line true e =
    let m = means_marks (codes "quit") line (sym e) in record {
      fields = Text (codes "quit") ∷ [];
      head = quit_row line m.marks m.spells m.are;
      rows = [];
      lines = tt;
      asks = AsksFor.quit;
    }
quits line false e = λ r.
    let same = quit_fields line r.asks refl in
    true≢false (sym (row_meant line (subst (IsTabRow line) same r.head)) ∙ sym e)

-- ---- a word is compared byte by byte

means_at : (rest word : List ℕ) (i : ℕ) → i < length word
    → means rest (drop i word) ≡ goes_on_behind (λ r. means r (drop (i + 1) word)) (get_or word i 0) (first_meant rest)
means_at rest word i within = at_drop_more (means rest) word i 0 within

pub means_none : (rest word : List ℕ) (i : ℕ) → i < length word → first_meant rest ≡ None → means rest (drop i word) ≡ false
means_none rest word i within e = means_at rest word i within ∙ ap (goes_on_behind (λ r. means r (drop (i + 1) word)) (get_or word i 0)) e
