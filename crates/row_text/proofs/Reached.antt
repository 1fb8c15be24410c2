-- Reading a field and a line, step by step.
use Rattle.std.proofs.Common.{◌≡◌, ◌≢◌, ◌≤◌, ◌<◌, ◌+◌, ◌-◌, ◌∷◌, ◌++◌, ◌∙◌, [], ℕ, suc, List, length, take, drop, map, get_or, Result, Ok, Err, refl, sym, ap, subst, arith, append_assoc, true, false}
use Rattle.std.specs.Prelude.{OnOk, is_ok}
use Rattle.std.specs.List.{AllByRecursion}
use Rattle.std.proofs.Math.Seq.{take-add}
use Rattle.std.proofs.lemmas.List.{append-nil, drop-drop, get_or-drop, get_or-take, length-drop, length-take-le, map-append, take_all, take_more, take_rest}
use Rattle.std.proofs.lemmas.Bool.{eq-eqb, ne_eqb}
use Rattle.std.proofs.lemmas.List.Elements.{All-from_recursion}
use Rattle.std.proofs.lemmas.List.Splits.{slice_split_at, slice_split_none}
use Rattle.dict_value.specs.declared.value.Field.{Field}
use Rattle.dict_value.specs.declared.fault.LineFault.{LineFault}
use Rattle.dict_value.specs.declared.fault.LineFault.TheVariants as fault
use Rattle.dict_value.specs.declared.letters.TheConstants.{CARRIAGE_RETURN, TAB}
use Rattle.row_text.specs.Marks.{Mark, bare, IsBadEscape, Spells, meant_byte}
use Rattle.dict_value.specs.Memory.{UnlessNoMemory}
use Rattle.row_text.specs.TabRow.{TabAnswers, IsTabRow, ends_in_return, field_of, fields_of, is_tab}
use Rattle.row_text.specs.steps.TabSteps.{FieldOf, HasFieldsBefore, IsOrdinary, ReachesUntabbed, ReadsField}
use Rattle.row_text.proofs.MarkLists.{all-append, ends-append, ends-append_cons, ends-append_true, run-ends, run-meant, run-spelled, run-untabbed, run-valid, spells-append, spells-nil}

pub reach-start : (rest : List ℕ) → ReachesUntabbed rest 0 []
reach-start rest = record { within = omega arith; spells = spells-nil; untabbed = tt }

-- from one place to the next
pub reach-more : (rest : List ℕ) (at size : ℕ) (ms ns : List Mark) → ReachesUntabbed rest at ms → ReachesUntabbed (drop at rest) size ns → ReachesUntabbed rest (at + size) (ms ++ ns)
reach-more rest at size ms ns p q = record {
  within = omega (arith, p.within, q.within, length-drop at rest);
  spells = rw (take-add at size rest) (spells-append _ _ ms ns p.spells q.spells);
  untabbed = all-append (λ m. is_tab m ≡ false) ms ns p.untabbed q.untabbed;
}

-- a run of plain bytes
pub reach-run : (rest : List ℕ) (size : ℕ) → size ≤ length rest → AllByRecursion IsOrdinary (take size rest) → ReachesUntabbed rest size (map bare (take size rest))
reach-run rest size within plain = record {
  within = within;
  spells = record { valid = run-valid _ plain; joined = sym (run-spelled _) };
  untabbed = run-untabbed _ plain;
}

-- the text behind a run
pub meant-run : (text run : List ℕ) (ms : List Mark) → text ≡ map meant_byte ms → text ++ run ≡ map meant_byte (ms ++ map bare run)
meant-run text run ms e = ap (λ (t : List ℕ). t ++ run) e ∙ ap (λ (t : List ℕ). map meant_byte ms ++ t) (sym (run-meant run)) ∙ sym (map-append meant_byte ms (map bare run))

-- whether marks and a run end in a carriage return
pub returns-run : (run : List ℕ) (ms : List Mark) (k : ℕ) → length run ≡ suc k → get_or run k 0 ≡ CARRIAGE_RETURN → ends_in_return (ms ++ map bare run) ≡ true
returns-run run ms k e last = ends-append_true ms (map bare run) (run-ends run k e ∙ eq-eqb _ _ last)

pub ends-run : (run : List ℕ) (ms : List Mark) → ends_in_return ms ≡ false → ((k : ℕ) → length run ≡ suc k → get_or run k 0 ≢ CARRIAGE_RETURN) → ends_in_return (ms ++ map bare run) ≡ false
ends-run [] ms p last = rw (append-nil ms) p
ends-run (b ∷ run) ms p last = ends-append ms (map bare (b ∷ run)) p (run-ends (b ∷ run) (length run) refl ∙ ne_eqb _ _ (last (length run) refl))

-- nothing is read yet
pub read-none : (line : List ℕ) → HasFieldsBefore line 0 [] []
read-none line = record { within = omega arith; spells = spells-nil; last = refl; later = λ more. refl }

-- the field that ends at a tab
pub fields-tab : (ms more : List Mark) → AllByRecursion (λ m. is_tab m ≡ false) ms → fields_of (ms ++ bare TAB ∷ more) ≡ field_of ms ∷ fields_of more
fields-tab ms more untabbed = ap (λ (t : List (List Mark)). map field_of t) (slice_split_at is_tab ms (bare TAB) more (All-from_recursion (λ m. is_tab m ≡ false) ms untabbed) refl)

pub fields-last : (ms : List Mark) → AllByRecursion (λ m. is_tab m ≡ false) ms → fields_of ms ≡ field_of ms ∷ []
fields-last ms untabbed = ap (λ (t : List (List Mark)). map field_of t) (slice_split_none is_tab ms (All-from_recursion (λ m. is_tab m ≡ false) ms untabbed))

-- the slice of a text from a place on, as the code takes it
abbrev pub suffix : List ℕ → ℕ → List ℕ
suffix rest at = take (length rest - at) (drop at rest)

suffix-suffix : (rest : List ℕ) (at size : ℕ) → suffix (suffix rest at) size ≡ drop (at + size) rest
suffix-suffix rest at size = take_rest (suffix rest at) size ∙ ap (drop size) (take_rest rest at) ∙ drop-drop size at rest

-- marks up to a place, and a run of plain bytes from there on
pub reach-plain : (rest : List ℕ) (at size : ℕ) (ms : List Mark) → ReachesUntabbed rest at ms → size ≤ length (suffix rest at) → AllByRecursion IsOrdinary (take size (suffix rest at))
    → ReachesUntabbed rest (at + size) (ms ++ map bare (take size (suffix rest at)))
reach-plain rest at size ms p within plain =
    reach-more rest at size ms (map bare (take size (suffix rest at))) p
    (subst (λ (t : List ℕ). ReachesUntabbed t size (map bare (take size (suffix rest at)))) (take_rest rest at) (reach-run (suffix rest at) size within plain))

pub reach-mark : (rest : List ℕ) (at size more : ℕ) (ms : List Mark) (mark : Mark) → ReachesUntabbed rest (at + size) ms → ReachesUntabbed (suffix (suffix rest at) size) more (mark ∷ [])
    → ReachesUntabbed rest (at + size + more) (ms ++ mark ∷ [])
reach-mark rest at size more ms mark p q = reach-more rest (at + size) more ms (mark ∷ []) p (subst (λ (t : List ℕ). ReachesUntabbed t more (mark ∷ [])) (suffix-suffix rest at size) q)

pub meant-mark : (text : List ℕ) (byte : ℕ) (ms : List Mark) (mark : Mark) → text ≡ map meant_byte ms → byte ≡ meant_byte mark → text ++ byte ∷ [] ≡ map meant_byte (ms ++ mark ∷ [])
meant-mark text byte ms mark e is = ap (λ (t : List ℕ). t ++ byte ∷ []) e ∙ ap (λ (b : ℕ). map meant_byte ms ++ b ∷ []) is ∙ sym (map-append meant_byte ms (mark ∷ []))

pub bad-at : (rest : List ℕ) (at size : ℕ) → IsBadEscape (suffix (suffix rest at) size) → IsBadEscape (drop (at + size) rest)
bad-at rest at size bad = subst IsBadEscape (suffix-suffix rest at size) bad

-- a text that the marks reach the end of
pub whole-spells : (rest : List ℕ) (at : ℕ) (ms : List Mark) → ReachesUntabbed rest at ms → at ≡ length rest → Spells rest ms
whole-spells rest at ms p e = subst (λ (t : List ℕ). Spells t ms) (take_all at rest (omega arith)) p.spells

-- the last byte of a run
run-last : (left : List ℕ) (size : ℕ) → size ≤ length left → (k : ℕ) → length (take size left) ≡ suc k → (size ≡ k + 1) × (get_or (take size left) k 0 ≡ get_or left (size - 1) 0)
run-last left size within k e =
    let is : size ≡ k + 1 = sym (length-take-le size left within) ∙ e ∙ omega arith in
    let lt : k < size = omega arith in
    (is, get_or-take size left k 0 lt ∙ ap (λ (i : ℕ). get_or left i 0) (omega arith))

pub run-shuts : (left : List ℕ) (size : ℕ) (ms : List Mark) → size ≤ length left → 0 < size → get_or left (size - 1) 0 ≡ CARRIAGE_RETURN → ends_in_return (ms ++ map bare (take size left)) ≡ true
run-shuts left size ms within some last =
    let long : length (take size left) ≡ suc (size - 1) = length-take-le size left within ∙ omega arith in
    returns-run (take size left) ms (size - 1) long ((run-last left size within (size - 1) long).1 ∙ last)

pub run-opens : (left : List ℕ) (size : ℕ) (ms : List Mark) → size ≤ length left → ends_in_return ms ≡ false → (0 < size → get_or left (size - 1) 0 ≢ CARRIAGE_RETURN)
    → ends_in_return (ms ++ map bare (take size left)) ≡ false
run-opens left size ms within open' last =
    ends-run (take size left) ms open' (λ k e is. last (omega (arith, (run-last left size within k e).0)) (sym (run-last left size within k e).1 ∙ is))

-- the byte at a place of a slice
pub at-suffix : (rest : List ℕ) (at size : ℕ) → get_or (suffix rest at) size 0 ≡ get_or rest (at + size) 0
at-suffix rest at size = ap (λ (t : List ℕ). get_or t size 0) (take_rest rest at) ∙ get_or-drop at rest size 0

-- what a call that went well leaves
pub on-ok : {T E : Type 0} (r : Result T E) (P : Type 0) → is_ok r ≡ true → OnOk r P → P
on-ok (Ok x) P e p = p
on-ok (Err x) P e p = cc e

-- the marks of a line up to a place behind the fields so far
pub line-more : (line : List ℕ) (at size : ℕ) (fields : List Field) (ms ns : List Mark) → HasFieldsBefore line at fields ms → Spells (take size (suffix line at)) ns → Spells (take (at + size) line) (ms ++ ns)
line-more line at size fields ms ns p q =
    rw (take-add at size line) (spells-append _ _ ms ns p.spells (subst (λ (t : List ℕ). Spells (take size t) ns) (take_rest line at) q))

-- one more field, and the tab that ends it
pub read-tab : (line : List ℕ) (at size : ℕ) (fields : List Field) (field : Field) (ms : List Mark) → HasFieldsBefore line at fields ms → (found : FieldOf (suffix line at) field size) → at + size ≢ length line
    → HasFieldsBefore line (at + size + 1) (fields ++ field ∷ []) ((ms ++ found.0) ++ bare TAB ∷ [])
read-tab line at size fields field ms p found more' =
    let long : length (suffix line at) ≡ length line - at = ap length (take_rest line at) ∙ length-drop at line in
    let lt : at + size < length line = omega (arith, p.within, found.1.within, more') in
    let here : get_or line (at + size) 0 ≡ TAB = sym (at-suffix line at size) ∙ found.3 (omega arith) in
    let front = line-more line at size fields ms found.0 p found.1.spells in
    let end : Spells (TAB ∷ []) (bare TAB ∷ []) = record { valid = ((λ e. cc e), tt); joined = refl } in
    record {
      within = omega arith;
      spells = rw (take_more line (at + size) 0 lt, here) (spells-append _ _ (ms ++ found.0) (bare TAB ∷ []) front end);
      last = ends-append_cons (ms ++ found.0) (bare TAB) [];
      later = λ more.
          ap fields_of (append_assoc (ms ++ found.0) (bare TAB ∷ []) more ∙ append_assoc ms found.0 (bare TAB ∷ more))
          ∙ p.later (found.0 ++ bare TAB ∷ more)
          ∙ ap (λ (fs : List Field). fields ++ fs) (fields-tab found.0 more found.1.untabbed ∙ ap (λ (f : Field). f ∷ fields_of more) (sym found.2))
          ∙ sym (append_assoc fields (field ∷ []) (fields_of more));
    }

-- the last field
pub read-last : (line : List ℕ) (at size : ℕ) (fields : List Field) (field : Field) (ms : List Mark) → HasFieldsBefore line at fields ms → FieldOf (suffix line at) field size → at + size ≡ length line
    → IsTabRow line (fields ++ field ∷ [])
read-last line at size fields field ms p found end =
    let long : length (suffix line at) ≡ length line - at = ap length (take_rest line at) ∙ length-drop at line in
    let front = line-more line at size fields ms found.0 p found.1.spells in (
      ms ++ found.0,
      subst (λ (t : List ℕ). Spells t (ms ++ found.0)) (take_all (at + size) line (omega arith)) front,
      ends-append ms found.0 p.last (found.4 (omega arith)),
      sym (p.later found.0 ∙ ap (λ (fs : List Field). fields ++ fs) (fields-last found.0 found.1.untabbed ∙ ap (λ (f : Field). f ∷ []) (sym found.2))),
    )

-- a fault
pub read-fault : (line : List ℕ) (at : ℕ) (fields : List Field) (ms : List Mark) (e : LineFault) → HasFieldsBefore line at fields ms
    → UnlessNoMemory {A = Result (Field × ℕ) LineFault} (Err fault.NoMemory) (Err e) (ReadsField (suffix line at) at (Err e))
    → UnlessNoMemory {A = Result (List Field) LineFault} (Err fault.NoMemory) (Err e) (TabAnswers line (Err e))
read-fault line at fields ms (fault.BadEscape place) p found _ =
    let q = found (λ e. cc) in
    let front = line-more line at q.1 fields ms q.0 p q.3 in
    rw q.2 (ms ++ q.0, front, subst IsBadEscape (ap (drop q.1) (take_rest line at) ∙ drop-drop q.1 at line) q.4)
read-fault line at fields ms fault.CarriageReturn p found _ =
    let q = found (λ e. cc) in
    let long : length (suffix line at) ≡ length line - at = ap length (take_rest line at) ∙ length-drop at line in
    let whole : Spells (take (length (suffix line at)) (suffix line at)) q.0 = rw (take_all (length (suffix line at)) (suffix line at) (omega arith)) q.1 in
    let front = line-more line at (length (suffix line at)) fields ms q.0 p whole in
    (ms ++ q.0, subst (λ (t : List ℕ). Spells t (ms ++ q.0)) (take_all (at + length (suffix line at)) line (omega (arith, p.within))) front, ends-append_true ms q.0 q.2)
read-fault line at fields ms fault.NotOneRecord p found _ = absurd (found (λ e. cc))
read-fault line at fields ms fault.NoMemory p found some = absurd (some refl)
