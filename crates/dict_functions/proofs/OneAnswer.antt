-- A version gives one answer to a lookup.
use Rattle.std.proofs.Common.{◌≡◌, ◌<◌, ◌≤◌, ◌⊎◌, ◌+◌, ◌∷◌, ◌++◌, ◌∙◌, [], ℕ, zero, suc, List, Bool, true, false, Option, Some, None, Ok, Contains, length, map, refl, sym, ap, subst, inl, inr, arith, slice_get, IsTrue}
use Rattle.std.specs.Prelude.{All, MatchOption, is_some}
use Rattle.std.specs.Option.{ForSome}
use Rattle.std.specs.List.{AllByRecursion, AllPairs, AllZip}
use Rattle.std.specs.List.Sorted.{IsStrictlyIncreasing}
use Rattle.std.proofs.lemmas.Bool.{cases_lt}
use Rattle.std.proofs.lemmas.List.Elements.{recursion_from_All}
use Rattle.std.proofs.lemmas.List.Kept.{AllPairs-from_increasing}
use Rattle.std.proofs.lemmas.Option.{same_Some}
use Rattle.dict_schema.specs.Shapes.{shape_of}
use Rattle.dict_schema.specs.Sound.{IsSound}
use Rattle.dict_schema.specs.declared.definition.Column.{Column}
use Rattle.dict_schema.specs.declared.definition.Definition.{Definition}
use Rattle.dict_schema.specs.declared.definition.ShapeColumn.{ShapeColumn}
use Rattle.dict_value.specs.Values.{reading}
use Rattle.dict_value.specs.declared.value.Field.{Field}
use Rattle.dict_value.specs.declared.value.Value.{Value}
use Rattle.dict_version.specs.Contents.{Contents}
use Rattle.dict_version.specs.Keys.{attribute_place, numbers_of, parents_of}
use Rattle.dict_version.specs.Lookups.{Finds, lookup_by}
use Rattle.dict_version.specs.Printed.{IsPrintedAt}
use Rattle.dict_version.specs.declared.key.Key.{Key}
use Rattle.hier.proofs.Chains.{chain-one}
use Rattle.hier.specs.Hierarchy.{IsChain, IsDescendant, IsIn, IsRisingListOf}
use Rattle.hier.specs.declared.hier.Parent.{Parent}
use Rattle.row_text.specs.Written.{printed}
use Rattle.version_slot.specs.Views.{Entered}
use Rattle.wire_text.specs.declared.reply.Line.{Line}
use Rattle.wire_text.specs.declared.reply.Mark.{Mark}
use Rattle.wire_text.specs.declared.reply.Mark.TheVariants as mark
use Rattle.wire_text.specs.declared.reply.Reply.{Reply}
use Rattle.wire_text.specs.declared.reply.Reply.TheVariants.{One, Many, Refused}
use Rattle.wire_text.specs.declared.reply.ReplyFault.{ReplyFault}
use Rattle.wire_text.specs.declared.reply.ReplyFault.TheVariants as fault
use Rattle.wire_text.specs.declared.request.Asked.{Asked}
use Rattle.wire_text.specs.declared.request.Verb.{Verb}
use Rattle.wire_text.specs.declared.request.Verb.TheVariants as verb
use Rattle.dict_functions.specs.Answers.{Answers, AnswersSeen, IsLoadedLine}
use Rattle.dict_functions.specs.Asking.{asks_hierarchy}
use Rattle.dict_functions.specs.Keys.{IsFirstWithout, ReadsKey}
use Rattle.dict_functions.specs.Refusals.{HasKey, IsFitting, IsRefusal, IsUnfitting}
use Rattle.dict_functions.specs.Replies.{IsReplyOf}
use Rattle.dict_functions.specs.Values.{AnswersVerb, IsAttributeText, IsBelowText, IsCellText, IsChainText, IsHasText, IsHierarchyText, IsInText, IsText, IsTextBy, OfHierarchy, StandsIn, StandsInText, flag, list_text}
use Rattle.dict_functions.proofs.OneKey.{finds-once, key-once, numbers-once}
use Rattle.dict_functions.proofs.SoundColumns.{named-once, named-place, parent-place}

-- ---- attributes

stands-once : (v : Verb) (column : Column) (f : Field) (a b : Value) → StandsIn v column f a → StandsIn v column f b → a ≡ b
stands-once verb.Get column f a b p q = p ∙ sym q
stands-once verb.GetOrDefault column f a b p q = let e : Ok a ≡ Ok b = sym p ∙ q in cc
stands-once verb.GetOrNull column f a b p q = p ∙ sym q
stands-once v column f a b p q = absurd p

cell-once : (c : Contents) (q : Asked) (place : ℕ) (column : Column) (found : Option ℕ) (a b : List ℕ) → IsCellText c q place column found a → IsCellText c q place column found b → a ≡ b
cell-once c q place column (Some row) a b x y =
    let of : x.of_column ≡ y.of_column = same_Some x.of_column y.of_column (sym x.column_is ∙ y.column_is) in
    let value : x.value ≡ y.value = same_Some x.value y.value (sym x.value_is ∙ y.value_is) in
    x.text_is ∙ ap (λ (s : ShapeColumn). printed s.ty.base x.value) of ∙ ap (printed y.of_column.ty.base) value ∙ sym y.text_is
cell-once c q place column None a b (v, stands, is) (w, stood, was) =
    is ∙ ap (printed column.ty.base) (stands-once q.verb column q.fallback v w stands stood) ∙ sym was

module _ (c : Contents) (q : Asked) (fields : List Field) where
  row-once : (k l : Key) (a b : Option ℕ) → ReadsKey c.definition fields k → ReadsKey c.definition fields l
      → Finds c.definition c.rows k a → Finds c.definition c.rows l b → a ≡ b
  row-once k l a b p r x y =
      let same : k ≡ l = key-once (lookup_by c.definition.layout) c.definition fields k l p r in
      finds-once (lookup_by c.definition.layout) c.definition c.rows l a b (subst (λ (z : Key). Finds c.definition c.rows z a) same x) y

  attribute-once : IsSound c.definition → (a b : List ℕ) → IsAttributeText c q fields a → IsAttributeText c q fields b → a ≡ b
  attribute-once sound a b x y =
      let found : x.found ≡ y.found = row-once x.key y.key x.found y.found x.reads y.reads x.finds y.finds in
      let place : x.place ≡ y.place = named-place c.definition sound q.attribute x.place y.place x.column y.column x.named y.named in
      let column : x.column ≡ y.column = named-once c.definition sound q.attribute x.place y.place x.column y.column x.named y.named in
      cell-once c q y.place y.column y.found a b
      (subst (λ (o : Option ℕ). IsCellText c q y.place y.column o a) found
      (subst (λ (k : Column). IsCellText c q y.place k x.found a) column
      (subst (λ (p : ℕ). IsCellText c q p x.column x.found a) place x.is))) y.is

  has-once : (a b : List ℕ) → IsHasText c fields a → IsHasText c fields b → a ≡ b
  has-once a b x y =
      x.is ∙ ap (λ (o : Option ℕ). flag (is_some o)) (row-once x.key y.key x.found y.found x.reads y.reads x.finds y.finds) ∙ sym y.is

-- ---- hierarchies

-- numbers that rise
abbrev Rises : List ℕ → Type 0
Rises xs = AllPairs (λ earlier later. earlier < later) xs

contains-tail : (x : ℕ) (xs : List ℕ) (z : ℕ) → Contains xs z → Contains (x ∷ xs) z
contains-tail x xs z (k, l, e) = (suc k, omega (arith, l), e)

contains-cases : (x : ℕ) (xs : List ℕ) (z : ℕ) → Contains (x ∷ xs) z → (x ≡ z) ⊎ Contains xs z
contains-cases x xs z (zero, l, e) = inl e
contains-cases x xs z (suc k, l, e) = inr (k, omega (arith, l), e)

rises-tail : (x : ℕ) (xs : List ℕ) → Rises (x ∷ xs) → Rises xs
rises-tail x xs r i j d h l = r (suc i) (suc j) d (omega arith) (omega arith)

head-below : (x : ℕ) (xs : List ℕ) (z : ℕ) → Rises (x ∷ xs) → Contains xs z → x < z
head-below x xs z r (k, l, e) = subst (λ (n : ℕ). x < n) e (r 0 (suc k) z (omega arith) (omega arith))

-- two rising lists of the same numbers are one
same-rising : (xs ys : List ℕ) → Rises xs → Rises ys → ((z : ℕ) → Contains xs z → Contains ys z) → ((z : ℕ) → Contains ys z → Contains xs z) → xs ≡ ys
same-rising [] [] r s there back = refl
same-rising [] (y ∷ ys) r s there back = absurd (let c = back y (0, omega arith, refl) in let l : c.0 < 0 = c.1 in omega arith)
same-rising (x ∷ xs) [] r s there back = absurd (let c = there x (0, omega arith, refl) in let l : c.0 < 0 = c.1 in omega arith)
same-rising (x ∷ xs) (y ∷ ys) r s there back =
    let first : x ≡ y = heads (contains-cases y ys x (there x (0, omega arith, refl))) (contains-cases x xs y (back y (0, omega arith, refl))) in
    ap (λ (ns : List ℕ). x ∷ ns) (same-rising xs ys (rises-tail x xs r) (rises-tail y ys s) (down first) (up first)) ∙ ap (λ (n : ℕ). n ∷ ys) first
  where
    heads : (y ≡ x) ⊎ Contains ys x → (x ≡ y) ⊎ Contains xs y → x ≡ y
    heads (inl e) q = sym e
    heads (inr p) (inl e) = e
    heads (inr p) (inr q) = absurd (omega (arith, head-below y ys x s p, head-below x xs y r q))

    down : x ≡ y → (z : ℕ) → Contains xs z → Contains ys z
    down e z c = elim (contains-cases y ys z (there z (contains-tail x xs z c))) [
      | inl same ↦ absurd (omega (arith, head-below x xs z r c, e, same))
      | inr in_tail ↦ in_tail
    ]

    up : x ≡ y → (z : ℕ) → Contains ys z → Contains xs z
    up e z c = elim (contains-cases x xs z (back z (contains-tail y ys z c))) [
      | inl same ↦ absurd (omega (arith, head-below y ys z s c, e, same))
      | inr in_tail ↦ in_tail
    ]

rising-once : (P : ℕ → Type 0) (a b : List ℕ) → IsRisingListOf P a → IsRisingListOf P b → a ≡ b
rising-once P a b p q =
    same-rising a b (AllPairs-from_increasing a p.rises) (AllPairs-from_increasing b q.rises)
    (λ z c. (q.each z).1 ((p.each z).0 c)) (λ z c. (p.each z).1 ((q.each z).0 c))

module _ (keys : List ℕ) (parents : List Parent) where
  chain-once : (numbers a b : List ℕ) → IsChainText keys parents numbers a → IsChainText keys parents numbers b → a ≡ b
  chain-once [] a b p q = absurd p
  chain-once (key ∷ []) a b (chain, is, text) (other, was, written) =
      text ∙ ap list_text (chain-one keys parents key chain other is was) ∙ sym written
  chain-once (key ∷ more ∷ numbers) a b p q = absurd p

  in-once : (numbers a b : List ℕ) → IsInText keys parents numbers a → IsInText keys parents numbers b → a ≡ b
  in-once [] a b p q = absurd p
  in-once (key ∷ []) a b p q = absurd p
  in-once (key ∷ ancestor ∷ more ∷ numbers) a b p q = absurd p
  in-once (key ∷ ancestor ∷ []) a b (inl p) (inl q) = p.1 ∙ sym q.1
  in-once (key ∷ ancestor ∷ []) a b (inl p) (inr q) = absurd (q.0 p.0)
  in-once (key ∷ ancestor ∷ []) a b (inr p) (inl q) = absurd (p.0 q.0)
  in-once (key ∷ ancestor ∷ []) a b (inr p) (inr q) = p.1 ∙ sym q.1

  below-once : (level : ℕ) (numbers a b : List ℕ) → IsBelowText level keys parents numbers a → IsBelowText level keys parents numbers b → a ≡ b
  below-once level [] a b p q = absurd p
  below-once level (key ∷ []) a b (below, is, text) (other, was, written) =
      text ∙ ap list_text (rising-once (IsDescendant keys parents key level) below other is was) ∙ sym written
  below-once level (key ∷ more ∷ numbers) a b p q = absurd p

  verb-once : (v : Verb) (level : ℕ) (numbers a b : List ℕ) → AnswersVerb v level keys parents numbers a → AnswersVerb v level keys parents numbers b → a ≡ b
  verb-once verb.Hierarchy level numbers a b p q = chain-once numbers a b p q
  verb-once verb.IsIn level numbers a b p q = in-once numbers a b p q
  verb-once verb.Children level numbers a b p q = below-once 1 numbers a b p q
  verb-once verb.Descendants level numbers a b p q = below-once level numbers a b p q
  verb-once v level numbers a b p q = absurd p

hierarchy-once : (c : Contents) (q : Asked) (fields : List Field) (a b : List ℕ) → IsSound c.definition → IsHierarchyText c q fields a → IsHierarchyText c q fields b → a ≡ b
hierarchy-once c q fields a b sound x y =
    let column : x.column ≡ y.column = parent-place c.definition sound x.column y.column x.parent y.parent in
    let numbers : x.numbers ≡ y.numbers = numbers-once fields x.numbers y.numbers x.reads y.reads in
    let Of : ℕ → List ℕ → Type 0 = λ k ns. AnswersVerb q.verb q.level (numbers_of c.rows) (parents_of c.definition k c.rows) ns a in
    verb-once (numbers_of c.rows) (parents_of c.definition y.column c.rows) q.verb q.level y.numbers a b
    (subst (λ (ns : List ℕ). Of y.column ns) numbers (subst (λ (k : ℕ). Of k x.numbers) column x.is)) y.is

-- ---- lines

text-by : (v : Verb) (c : Contents) (q : Asked) (fields : List Field) (a b : List ℕ) → IsSound c.definition → IsTextBy v c q fields a → IsTextBy v c q fields b → a ≡ b
text-by verb.Get c q fields a b sound x y = attribute-once c q fields sound a b x y
text-by verb.GetOrDefault c q fields a b sound x y = attribute-once c q fields sound a b x y
text-by verb.GetOrNull c q fields a b sound x y = attribute-once c q fields sound a b x y
text-by verb.Has c q fields a b sound x y = has-once c q fields a b x y
text-by verb.Hierarchy c q fields a b sound x y = hierarchy-once c q fields a b sound x y
text-by verb.IsIn c q fields a b sound x y = hierarchy-once c q fields a b sound x y
text-by verb.Children c q fields a b sound x y = hierarchy-once c q fields a b sound x y
text-by verb.Descendants c q fields a b sound x y = hierarchy-once c q fields a b sound x y
text-by verb.Call c q fields a b sound x y = absurd x

-- a line with a text has a key
text-key : (v : Verb) (c : Contents) (q : Asked) (fields : List Field) (a : List ℕ) → IsTextBy v c q fields a → HasKey c.definition (asks_hierarchy v) fields
text-key verb.Get c q fields a x = (x.key, x.reads)
text-key verb.GetOrDefault c q fields a x = (x.key, x.reads)
text-key verb.GetOrNull c q fields a x = (x.key, x.reads)
text-key verb.Has c q fields a x = (x.key, x.reads)
text-key verb.Hierarchy c q fields a x = (x.numbers, x.reads)
text-key verb.IsIn c q fields a x = (x.numbers, x.reads)
text-key verb.Children c q fields a x = (x.numbers, x.reads)
text-key verb.Descendants c q fields a x = (x.numbers, x.reads)
text-key verb.Call c q fields a x = absurd x

line-of : (x y : Line) → x.moment ≡ y.moment → x.text ≡ y.text → x ≡ y
line-of x y a b = λ i. record { moment = a i; text = b i }

module _ (c : Contents) (q : Asked) where
  lines-once : IsSound c.definition → (asked : List (List Field)) (xs ys : List Line) → AllZip (IsLoadedLine c q) asked xs → AllZip (IsLoadedLine c q) asked ys → xs ≡ ys
  lines-once sound [] [] [] p r = refl
  lines-once sound [] [] (y ∷ ys) p r = absurd r
  lines-once sound [] (x ∷ xs) ys p r = absurd p
  lines-once sound (f ∷ fs) [] ys p r = absurd p
  lines-once sound (f ∷ fs) (x ∷ xs) [] p r = absurd r
  lines-once sound (f ∷ fs) (x ∷ xs) (y ∷ ys) p r =
      let head : x ≡ y = line-of x y (p.0.moment ∙ sym r.0.moment) (text-by q.verb c q f x.text y.text sound p.0.text r.0.text) in
      rw (head, lines-once sound fs xs ys p.1 r.1) refl

  -- no line is without a key
  lines-keyed : (before : List (List Field)) (line : List Field) (after : List (List Field)) (xs : List Line) → AllZip (IsLoadedLine c q) (before ++ line ∷ after) xs → HasKey c.definition (asks_hierarchy q.verb) line
  lines-keyed [] line after [] p = absurd p
  lines-keyed [] line after (x ∷ xs) p = text-key q.verb c q line x.text p.0.text
  lines-keyed (f ∷ before) line after [] p = absurd p
  lines-keyed (f ∷ before) line after (x ∷ xs) p = lines-keyed before line after xs p.1

-- ---- refusals

-- the first line of which something doesn't hold
before-once : {A : Type 0} (P : A → Type 0) (xs ys after rest : List A) (x y : A) → xs ++ x ∷ after ≡ ys ++ y ∷ rest → AllByRecursion P xs → AllByRecursion P ys → ¬ (P x) → ¬ (P y) → length xs ≡ length ys
before-once P [] [] after rest x y e p q lacks fails = refl
before-once P [] (z ∷ ys) after rest x y e p q lacks fails = let same : x ≡ z = cc in absurd (lacks (subst P (sym same) q.0))
before-once P (z ∷ xs) [] after rest x y e p q lacks fails = let same : z ≡ y = cc in absurd (fails (subst P same p.0))
before-once P (z ∷ xs) (w ∷ ys) after rest x y e p q lacks fails =
    let tail : xs ++ x ∷ after ≡ ys ++ y ∷ rest = cc in
    ap suc (before-once P xs ys after rest x y tail p.1 q.1 lacks fails)

without-once : {A : Type 0} (P : A → Type 0) (lines : List A) (n m : ℕ) → IsFirstWithout P lines n → IsFirstWithout P lines m → n ≡ m
without-once P lines n m a b =
    let same = before-once P a.before b.before a.after b.after a.line b.line (sym a.parts ∙ b.parts) (recursion_from_All P a.before a.earlier) (recursion_from_All P b.before b.earlier) a.without b.without in
    omega (arith, a.counted, b.counted, same)

module _ (d : Definition) (q : Asked) where
  unfitting-once : (f g : ReplyFault) → IsUnfitting d q f → IsUnfitting d q g → f ≡ g
  unfitting-once f g (IsUnfitting.hierarchy a) (IsUnfitting.hierarchy b) = refl
  unfitting-once f g (IsUnfitting.hierarchy a) (IsUnfitting.attribute b c) = absurd (b a)
  unfitting-once f g (IsUnfitting.hierarchy a) (IsUnfitting.default b c e) = absurd (b a)
  unfitting-once f g (IsUnfitting.attribute a b) (IsUnfitting.hierarchy c) = absurd (a c)
  unfitting-once f g (IsUnfitting.attribute a b) (IsUnfitting.attribute c e) = refl
  unfitting-once f g (IsUnfitting.attribute a b) (IsUnfitting.default c e h) = absurd (e b)
  unfitting-once f g (IsUnfitting.default a b c) (IsUnfitting.hierarchy e) = absurd (a e)
  unfitting-once f g (IsUnfitting.default a b c) (IsUnfitting.attribute e h) = absurd (b h)
  unfitting-once f g (IsUnfitting.default a b c) (IsUnfitting.default e h i) = refl

  fitting-not : (f : ReplyFault) → IsFitting d q → IsUnfitting d q f → ⊥
  fitting-not f fits (IsUnfitting.hierarchy a) = fits.hierarchy a
  fitting-not f fits (IsUnfitting.attribute a b) = fits.attribute b
  fitting-not f fits (IsUnfitting.default a b c) = fits.default c

  refusal-once : (f g : ReplyFault) → IsRefusal d q f → IsRefusal d q g → f ≡ g
  refusal-once f g (IsRefusal.unfitting a) (IsRefusal.unfitting b) = unfitting-once f g a b
  refusal-once f g (IsRefusal.unfitting a) (IsRefusal.key fits b) = absurd (fitting-not f fits a)
  refusal-once f g (IsRefusal.key fits a) (IsRefusal.unfitting b) = absurd (fitting-not g fits b)
  refusal-once f g (IsRefusal.key {line = n} fits a) (IsRefusal.key {line = m} fit b) =
      ap (λ (k : ℕ). fault.BadKey k) (without-once (HasKey d (asks_hierarchy q.verb)) q.lines n m a b)

-- ---- the answer

reply-once : (block : Bool) (m : Mark) (lines : List Line) (a b : Reply) → IsReplyOf block m lines a → IsReplyOf block m lines b → a ≡ b
reply-once true m lines a b p q = p ∙ sym q
reply-once false m [] a b p q = absurd p
reply-once false m (line ∷ []) a b p q = p ∙ sym q
reply-once false m (line ∷ other ∷ lines) a b p q = absurd p

module _ (c : Contents) (q : Asked) where
  not-refused : (f : ReplyFault) (lines : List Line) → IsFitting c.definition q → AllZip (IsLoadedLine c q) q.lines lines → IsRefusal c.definition q f → ⊥
  not-refused f lines fits each (IsRefusal.unfitting a) = fitting-not c.definition q f fits a
  not-refused f lines fits each (IsRefusal.key fit a) =
      a.without (lines-keyed c q a.before a.line a.after lines (subst (λ (asked : List (List Field)). AllZip (IsLoadedLine c q) asked lines) a.parts each))

  answer-once : (number : ℕ) (a b : Reply) → IsSound c.definition → Answers number c q a → Answers number c q b → a ≡ b
  answer-once number a b sound (Answers.refused f p e) (Answers.refused g r h) =
      e ∙ ap (λ (x : ReplyFault). Refused x) (refusal-once c.definition q f g p r) ∙ sym h
  answer-once number a b sound (Answers.refused f p e) (Answers.answered lines fits each is) = absurd (not-refused f lines fits each p)
  answer-once number a b sound (Answers.answered lines fits each is) (Answers.refused f p e) = absurd (not-refused f lines fits each p)
  answer-once number a b sound (Answers.answered xs fits each is) (Answers.answered ys fit all was) =
      reply-once q.block (mark.Version number) ys a b
      (subst (λ (l : List Line). IsReplyOf q.block (mark.Version number) l a) (lines-once c q sound q.lines xs ys each all) is) was

seen-by : (version : Option Contents) (number : ℕ) (q : Asked) (a b : Reply) → ForSome version (λ (c : Contents). IsSound c.definition)
    → MatchOption version (a ≡ Refused fault.NotLoaded) (λ c. Answers number c q a)
    → MatchOption version (b ≡ Refused fault.NotLoaded) (λ c. Answers number c q b) → a ≡ b
seen-by None number q a b sound p r = p ∙ sym r
seen-by (Some c) number q a b sound p r = answer-once c q number a b (sound c refl) p r

pub seen-once : (seen : Entered Contents) (q : Asked) (a b : Reply) → ForSome seen.version (λ (c : Contents). IsSound c.definition)
    → AnswersSeen seen q a → AnswersSeen seen q b → a ≡ b
seen-once seen q a b sound p r = seen-by seen.version seen.number q a b sound p r
