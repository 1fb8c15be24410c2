-- A line has one answer.
use Rattle.std.proofs.Common.{◌≡◌, ◌<◌, ◌-◌, ◌∷◌, ◌++◌, ◌∙◌, ◌⊎◌, [], ℕ, List, length, take, drop, refl, sym, ap, subst, inl, inr, arith, append_assoc, true, false, Result, Ok, Err}
use Rattle.std.specs.List.{AllByRecursion, flat_map}
use Rattle.std.proofs.lemmas.List.{append-nil, take-append-drop, length-drop}
use Rattle.std.proofs.lemmas.Bool.{both_ways}
use Rattle.dict_value.specs.declared.value.Field.{Field}
use Rattle.dict_value.specs.declared.fault.LineFault.{LineFault}
use Rattle.dict_value.specs.declared.fault.LineFault.TheVariants as fault
use Rattle.dict_value.specs.declared.letters.TheConstants.{BACKSLASH, LETTER_X}
use Rattle.dict_value.specs.Escapes.{begins_with_digits}
use Rattle.row_text.specs.Marks.{Mark, bare, escaped, hex, IsBadEscape, IsMark, Spells, spelled}
use Rattle.dict_value.specs.Memory.{UnlessNoMemory}
use Rattle.row_text.specs.TabRow.{TabAnswers, IsTabRow, ends_in_return, fields_of}

-- nothing, or a bad escape: no mark stands in front
abbrev Stuck : List ℕ → Type 0
Stuck s = (s ≡ []) ⊎ IsBadEscape s

cons-parts : {X : Type 0} (x y : X) (xs ys : List X) → x ∷ xs ≡ y ∷ ys → (x ≡ y) × (xs ≡ ys)
cons-parts x y xs ys e = (cc, cc)

-- no mark begins a text that is stuck
not-stuck : (m : Mark) (rest : List ℕ) → IsMark m → Stuck (spelled m ++ rest) → ⊥
not-stuck (bare b) rest p (inl e) = cc
not-stuck (escaped b) rest p (inl e) = cc
not-stuck (hex h l) rest p (inl e) = cc
not-stuck (bare b) rest p (inr (inl e)) = p (cons-parts b BACKSLASH rest [] e).0
not-stuck (escaped b) rest p (inr (inl e)) = cc
not-stuck (hex h l) rest p (inr (inl e)) = cc
not-stuck (bare b) rest p (inr (inr w)) = p (cons-parts b BACKSLASH rest _ w.1).0
not-stuck (escaped b) rest p (inr (inr w)) = let q = cons-parts BACKSLASH BACKSLASH (b ∷ rest) (LETTER_X ∷ w.0) w.1 in p (cons-parts b LETTER_X rest w.0 q.1).0
not-stuck (hex h l) rest p (inr (inr w)) =
    let q : h ∷ l ∷ rest ≡ w.0 = cc w.1 in
    both_ways (begins_with_digits w.0) w.2 (subst (λ t. begins_with_digits t ≡ true) q (rw (p.0, p.1) refl))

-- two marks in front of one text are one mark
same-mark : (m n : Mark) (s t : List ℕ) → IsMark m → IsMark n → spelled m ++ s ≡ spelled n ++ t → (m ≡ n) × (s ≡ t)
same-mark (bare a) (bare b) s t p q e = (ap bare (cons-parts a b s t e).0, (cons-parts a b s t e).1)
same-mark (bare a) (escaped b) s t p q e = absurd (p (cons-parts a BACKSLASH s (b ∷ t) e).0)
same-mark (bare a) (hex h l) s t p q e = absurd (p (cons-parts a BACKSLASH s (LETTER_X ∷ h ∷ l ∷ t) e).0)
same-mark (escaped a) (bare b) s t p q e = absurd (q (cons-parts b BACKSLASH t (a ∷ s) (sym e)).0)
same-mark (escaped a) (escaped b) s t p q e = let r = cons-parts a b s t (cons-parts BACKSLASH BACKSLASH (a ∷ s) (b ∷ t) e).1 in (ap escaped r.0, r.1)
same-mark (escaped a) (hex h l) s t p q e = let r = cons-parts a LETTER_X s (h ∷ l ∷ t) (cons-parts BACKSLASH BACKSLASH (a ∷ s) (LETTER_X ∷ h ∷ l ∷ t) e).1 in absurd (p r.0)
same-mark (hex h l) (bare b) s t p q e = absurd (q (cons-parts b BACKSLASH t (LETTER_X ∷ h ∷ l ∷ s) (sym e)).0)
same-mark (hex h l) (escaped b) s t p q e = let r = cons-parts LETTER_X b (h ∷ l ∷ s) t (cons-parts BACKSLASH BACKSLASH (LETTER_X ∷ h ∷ l ∷ s) (b ∷ t) e).1 in absurd (q (sym r.0))
same-mark (hex h l) (hex i k) s t p q e =
    let r : (h ≡ i) × (l ≡ k) × (s ≡ t) = (cc, cc, cc) in
    (ap (λ (x : ℕ). hex x l) r.0 ∙ ap (λ (x : ℕ). hex i x) r.1, r.2)

-- marks and a stuck rest are read off in one way
pub one-spelling : (ms ns : List Mark) (s t : List ℕ) → AllByRecursion IsMark ms → AllByRecursion IsMark ns → Stuck s → Stuck t
    → flat_map spelled ms ++ s ≡ flat_map spelled ns ++ t → (ms ≡ ns) × (s ≡ t)
one-spelling [] [] s t p q stuck stuck' e = (refl, e)
one-spelling [] (n ∷ ns) s t p q stuck stuck' e =
    absurd (not-stuck n (flat_map spelled ns ++ t) q.0 (subst Stuck (e ∙ append_assoc (spelled n) (flat_map spelled ns) t) stuck))
one-spelling (m ∷ ms) [] s t p q stuck stuck' e =
    absurd (not-stuck m (flat_map spelled ms ++ s) p.0 (subst Stuck (sym e ∙ append_assoc (spelled m) (flat_map spelled ms) s) stuck'))
one-spelling (m ∷ ms) (n ∷ ns) s t p q stuck stuck' e =
    let both = sym (append_assoc (spelled m) (flat_map spelled ms) s) ∙ e ∙ append_assoc (spelled n) (flat_map spelled ns) t in
    let head = same-mark m n (flat_map spelled ms ++ s) (flat_map spelled ns ++ t) p.0 q.0 both in
    let tail = one-spelling ms ns s t p.1 q.1 stuck stuck' head.1 in
    (ap (λ (x : Mark). x ∷ ms) head.0 ∙ ap (λ (xs : List Mark). n ∷ xs) tail.0, tail.1)

-- the marks of a line
one-marks : (line : List ℕ) (ms ns : List Mark) → Spells line ms → Spells line ns → ms ≡ ns
one-marks line ms ns p q = (one-spelling ms ns [] [] p.valid q.valid (inl refl) (inl refl)
    (append-nil (flat_map spelled ms) ∙ sym p.joined ∙ q.joined ∙ sym (append-nil (flat_map spelled ns)))).0

bad-some : (s : List ℕ) → IsBadEscape s → 0 < length s
bad-some s (inl e) = rw e (omega arith)
bad-some s (inr w) = rw w.1 (omega arith)

-- a line of marks has no bad escape
no-bad : (line : List ℕ) (ms : List Mark) (place : ℕ) (ns : List Mark) → Spells line ms → Spells (take place line) ns → IsBadEscape (drop place line) → ⊥
no-bad line ms place ns p q bad =
    let e = append-nil (flat_map spelled ms) ∙ sym p.joined ∙ sym (take-append-drop place line) ∙ ap (λ (t : List ℕ). t ++ drop place line) q.joined in
    let r = (one-spelling ms ns [] (drop place line) p.valid q.valid (inl refl) (inr bad) e).1 in
    let some : 0 < length (drop place line) = bad-some _ bad in
    let none : length (drop place line) ≡ 0 = ap length (sym r) in
    omega arith

-- the first bad escape has one place
one-place : (line : List ℕ) (i j : ℕ) (ms ns : List Mark) → Spells (take i line) ms → IsBadEscape (drop i line) → Spells (take j line) ns → IsBadEscape (drop j line) → i ≡ j
one-place line i j ms ns p bad q bad' =
    let e = ap (λ (t : List ℕ). t ++ drop i line) (sym p.joined) ∙ take-append-drop i line ∙ sym (take-append-drop j line) ∙ ap (λ (t : List ℕ). t ++ drop j line) q.joined in
    let r = (one-spelling ms ns (drop i line) (drop j line) p.valid q.valid (inr bad) (inr bad') e).1 in
    let same : length line - i ≡ length line - j = sym (length-drop i line) ∙ ap length r ∙ length-drop j line in
    let some : 0 < length line - i = rw (← length-drop i line) (bad-some _ bad) in
    let some' : 0 < length line - j = rw (← length-drop j line) (bad-some _ bad') in
    omega arith

-- a line ends in one way
one-end : (line : List ℕ) (ms ns : List Mark) → Spells line ms → Spells line ns → ends_in_return ms ≡ false → ends_in_return ns ≡ true → ⊥
one-end line ms ns p q open' shut = both_ways _ open' (ap ends_in_return (one-marks line ms ns p q) ∙ shut)

-- the fields of a line
pub one-row : (line : List ℕ) (f g : List Field) → IsTabRow line f → IsTabRow line g → f ≡ g
one-row line f g p q = p.3 ∙ ap fields_of (one-marks line p.0 q.0 p.1 q.1) ∙ sym q.3

-- the one answer
pub one-answer : (line : List ℕ) (a b : Result (List Field) LineFault) → TabAnswers line a → TabAnswers line b → a ≡ b
one-answer line (Ok f) (Ok g) p q = ap (λ (t : List Field). Ok t) (one-row line f g p q)
one-answer line (Ok f) (Err (fault.BadEscape j)) p q = absurd (no-bad line p.0 j q.0 p.1 q.1 q.2)
one-answer line (Ok f) (Err fault.CarriageReturn) p q = absurd (one-end line p.0 q.0 p.1 q.1 p.2 q.2)
one-answer line (Ok f) (Err fault.NotOneRecord) p q = absurd q
one-answer line (Ok f) (Err fault.NoMemory) p q = absurd q
one-answer line (Err (fault.BadEscape i)) (Ok g) p q = absurd (no-bad line q.0 i p.0 q.1 p.1 p.2)
one-answer line (Err (fault.BadEscape i)) (Err (fault.BadEscape j)) p q = ap (λ (k : ℕ). Err (fault.BadEscape k)) (one-place line i j p.0 q.0 p.1 p.2 q.1 q.2)
one-answer line (Err (fault.BadEscape i)) (Err fault.CarriageReturn) p q = absurd (no-bad line q.0 i p.0 q.1 p.1 p.2)
one-answer line (Err (fault.BadEscape i)) (Err fault.NotOneRecord) p q = absurd q
one-answer line (Err (fault.BadEscape i)) (Err fault.NoMemory) p q = absurd q
one-answer line (Err fault.CarriageReturn) (Ok g) p q = absurd (one-end line q.0 p.0 q.1 p.1 q.2 p.2)
one-answer line (Err fault.CarriageReturn) (Err (fault.BadEscape j)) p q = absurd (no-bad line p.0 j q.0 p.1 q.1 q.2)
one-answer line (Err fault.CarriageReturn) (Err fault.CarriageReturn) p q = refl
one-answer line (Err fault.CarriageReturn) (Err fault.NotOneRecord) p q = absurd q
one-answer line (Err fault.CarriageReturn) (Err fault.NoMemory) p q = absurd q
one-answer line (Err fault.NotOneRecord) b p q = absurd p
one-answer line (Err fault.NoMemory) b p q = absurd p

-- so what was answered is any other answer
pub only-answer : (line : List ℕ) (r a : Result (List Field) LineFault) → UnlessNoMemory (Err fault.NoMemory) r (TabAnswers line r)
    → TabAnswers line a → UnlessNoMemory (Err fault.NoMemory) r (r ≡ a)
only-answer line r a p q = λ some. one-answer line r a (p some) q
