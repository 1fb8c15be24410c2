-- What a load comes to is one: its rows or its cause, the list behind it and the counts.
use Rattle.std.proofs.Common.{◌≡◌, ◌≢◌, ◌<◌, ◌≤◌, ◌⊎◌, ◌∙◌, ◌∷◌, ◌++◌, [], ℕ, zero, suc, List, Option, Some, None, Result, Ok, Err, length, refl, sym, ap, subst, inl, inr, arith, slice_get}
use Rattle.std.specs.Prelude.{pos, negsuc, All, IsSome}
use Rattle.std.proofs.lemmas.Bool.{cases_lt, false≢true}
use Rattle.std.proofs.lemmas.Option.{none-some, same_Some}
use Rattle.std.specs.List.{AllByRecursion, concat}
use Rattle.std.proofs.lemmas.List.Elements.{recursion_from_All}
use Rattle.child_io.specs.Gathers.{outcome_of}
use Rattle.child_io.specs.declared.child.Outcome.{Outcome}
use Rattle.child_io.specs.declared.child.Outcome.TheVariants as outcome
use Rattle.child_io.specs.declared.pieces.PieceEnd.{PieceEnd}
use Rattle.child_io.specs.declared.pieces.PieceEnd.TheVariants as piece_end
use Rattle.child_io.specs.declared.words.Since.TheVariants.{From}
use Rattle.child_io.specs.Runs.{RunTold}
use Rattle.child_io.specs.declared.child.Script.{Script}
use Rattle.child_io.proofs.OneOutcome.{one-outcome}
use Rattle.dict_schema.specs.Shapes.{shape_of}
use Rattle.dict_schema.specs.declared.definition.Definition.{Definition}
use Rattle.dict_schema.specs.declared.definition.Update.{Update}
use Rattle.dict_schema.specs.declared.definition.Update.TheVariants as update
use Rattle.dict_value.specs.Addresses.{prefix_in}
use Rattle.dict_value.specs.declared.fault.Cause.{Cause}
use Rattle.dict_value.specs.declared.fault.Cause.TheVariants as cause
use Rattle.dict_value.specs.declared.fault.Exit.TheVariants.{Code, Killed}
use Rattle.dict_value.specs.declared.value.TheConstants.{MOST_ROWS}
use Rattle.dict_version.specs.Contents.{Contents}
use Rattle.dict_version.specs.Keys.{numbers_of, key_texts}
use Rattle.dict_version.specs.Lookups.{lookup_by}
use Rattle.dict_version.specs.Rows.{IsRefusedBy, LayoutTakesBy}
use Rattle.dict_version.specs.declared.fault.LayoutFault.{LayoutFault}
use Rattle.dict_version.specs.declared.fault.LayoutFault.TheVariants as layout
use Rattle.dict_version.specs.declared.lookup.LookupBy.{LookupBy}
use Rattle.dict_version.specs.declared.lookup.LookupBy.TheVariants as by
use Rattle.flat_layout.specs.Cells.{IsFirstTooLarge}
use Rattle.ip_trie.specs.FindByAddress.{IsFirstBad}
use Rattle.load_core.specs.declared.dictionary.DictCore.{DictCore}
use Rattle.overlay.specs.Overlays.{Overlay}
use Rattle.overlay.proofs.OneOverlay.{one-overlay}
use Rattle.packed_rows.specs.Columns.{RowList}
use Rattle.row_text.specs.Decoding.{Decoded}
use Rattle.row_text.specs.declared.decode.DecodeFault.TheVariants.{Bad, TooMany}
use Rattle.row_text.proofs.OneDecoding.{one-decoding}
use Rattle.rows_typed.specs.Shapes.{columns_of}
use Rattle.loader.specs.Accepts.{Accepts, DecodesTo, HasTakenRows, IsOversized, IsUndecoded, IsUntaken, Lays, LaysTooLarge, OutputGives, Refuses, most_text, text_size, undecoded, untaken, too_large}
use Rattle.loader.specs.Events.{core_after, load_events}
use Rattle.loader.specs.Loaders.{ComesTo, EndsLoad, HasNewest, IsAfter, IsAt, LoaderState, version_of}
use Rattle.loader.specs.Timing.{after_failure, after_ok, with_lifetime}
use Rattle.loader.specs.Origins.{IsFormer, IsSettled, Loads, newest}
use Rattle.loader.specs.declared.answers.LoadEnd.{LoadEnd}
use Rattle.loader.specs.declared.answers.LoadEnd.TheVariants.{Published, Failed, NoMemory}

-- what holds of each holds of the one at a place
by-place : {X : Type 0} (P : X → Type 0) (xs : List X) (k : ℕ) (x : X) → slice_get xs k ≡ Some x → AllByRecursion P xs → P x
by-place P [] k x here each = absurd (none-some x here)
by-place P (y ∷ xs) zero x here each = subst P (same_Some y x here) each.0
by-place P (y ∷ xs) (suc k) x here each = by-place P xs k x here each.1

All-at : {X : Type 0} (P : X → Type 0) (xs : List X) (k : ℕ) (x : X) → slice_get xs k ≡ Some x → All P xs → P x
All-at P xs k x here each = by-place P xs k x here (recursion_from_All P xs each)

-- ---- why a layout doesn't take rows

first-large-once : (keys : List ℕ) (limit a b : ℕ) → IsFirstTooLarge keys limit a → IsFirstTooLarge keys limit b → a ≡ b
first-large-once keys limit a b p q = elim (cases_lt p.place q.place) [
  | inl low ↦ absurd (let less = q.before p.place a low p.here in omega (arith, less, p.large))
  | inr high ↦ elim (cases_lt q.place p.place) [
    | inl low ↦ absurd (let less = p.before q.place b low q.here in omega (arith, less, q.large))
    | inr not ↦
        let same : p.place ≡ q.place = omega (arith, high, not) in
        same_Some a b (sym p.here ∙ ap (slice_get keys) same ∙ q.here)
  ]
]

some-none : (texts : List (List ℕ)) (text : List ℕ) → prefix_in text ≡ None → IsSome (prefix_in text) → ⊥
some-none texts text bad some = false≢true (subst IsSome bad some)

first-bad-once : (texts : List (List ℕ)) (a b : ℕ) → IsFirstBad texts a → IsFirstBad texts b → a ≡ b
first-bad-once texts a b p q = elim (cases_lt p.place q.place) [
  | inl low ↦ absurd (some-none texts p.text p.bad (q.before p.place p.text low p.here))
  | inr high ↦ elim (cases_lt q.place p.place) [
    | inl low ↦ absurd (some-none texts q.text q.bad (p.before q.place q.text low q.here))
    | inr not ↦ let same : p.place ≡ q.place = omega (arith, high, not) in omega (arith, p.counted, q.counted, same)
  ]
]

refused-once : (looked : LookupBy) (rows : RowList) (f g : LayoutFault) → IsRefusedBy looked rows f → IsRefusedBy looked rows g → f ≡ g
refused-once (by.SmallNumber most) rows (layout.KeyTooLarge n) (layout.KeyTooLarge m) p q =
    ap (λ (k : ℕ). layout.KeyTooLarge k) (first-large-once (numbers_of rows) most n m p q)
refused-once by.Address rows (layout.BadPrefix n) (layout.BadPrefix m) p q =
    ap (λ (k : ℕ). layout.BadPrefix k) (first-bad-once (key_texts rows) n m p q)
refused-once (by.SmallNumber most) rows (layout.KeyTooLarge n) (layout.BadPrefix m) p q = absurd q
refused-once (by.SmallNumber most) rows (layout.KeyTooLarge n) layout.NoMemory p q = absurd q
refused-once (by.SmallNumber most) rows (layout.BadPrefix n) g p q = absurd p
refused-once (by.SmallNumber most) rows layout.NoMemory g p q = absurd p
refused-once by.Address rows (layout.BadPrefix n) (layout.KeyTooLarge m) p q = absurd q
refused-once by.Address rows (layout.BadPrefix n) layout.NoMemory p q = absurd q
refused-once by.Address rows (layout.KeyTooLarge n) g p q = absurd p
refused-once by.Address rows layout.NoMemory g p q = absurd p
refused-once by.Number rows f g p q = absurd p
refused-once by.KeyList rows f g p q = absurd p
refused-once (by.Range strategy) rows f g p q = absurd p
refused-once by.Nothing rows f g p q = absurd p

-- rows that a layout takes aren't refused
taken-not : (looked : LookupBy) (rows : RowList) (f : LayoutFault) → LayoutTakesBy looked rows → IsRefusedBy looked rows f → ⊥
taken-not (by.SmallNumber most) rows (layout.KeyTooLarge n) taken p =
    let small = All-at (λ number. number < most) (numbers_of rows) p.place n p.here taken in omega (arith, small, p.large)
taken-not (by.SmallNumber most) rows (layout.BadPrefix n) taken p = absurd p
taken-not (by.SmallNumber most) rows layout.NoMemory taken p = absurd p
taken-not by.Address rows (layout.BadPrefix n) taken p =
    some-none (key_texts rows) p.text p.bad (All-at (λ text. IsSome (prefix_in text)) (key_texts rows) p.place p.text p.here taken)
taken-not by.Address rows (layout.KeyTooLarge n) taken p = absurd p
taken-not by.Address rows layout.NoMemory taken p = absurd p
taken-not by.Number rows f taken p = absurd p
taken-not by.KeyList rows f taken p = absurd p
taken-not (by.Range strategy) rows f taken p = absurd p
taken-not by.Nothing rows f taken p = absurd p

-- ---- overlays

oversized-once : (rows : RowList) (why other : Cause) → IsOversized rows why → IsOversized rows other → why ≡ other
oversized-once rows cause.Rows cause.Rows p q = refl
oversized-once rows cause.Rows (cause.Longer m) p q = absurd (let few = q.0 in omega (arith, few, p))
oversized-once rows (cause.Longer n) cause.Rows p q = absurd (let few = p.0 in omega (arith, few, q))
oversized-once rows (cause.Longer n) (cause.Longer m) p q = ap (λ (k : ℕ). cause.Longer k) (p.2 ∙ sym q.2)
oversized-once rows cause.Rows other p q = absurd q
oversized-once rows (cause.Longer n) other p q = absurd q
oversized-once rows why other p q = absurd p

not-oversized : (rows : RowList) (why : Cause) → length rows ≤ MOST_ROWS → text_size rows ≤ most_text → IsOversized rows why → ⊥
not-oversized rows cause.Rows few short p = omega (arith, few, p)
not-oversized rows (cause.Longer n) few short p = let long = p.1 in omega (arith, short, long)
not-oversized rows why few short p = absurd p

lays-once : (u : Update) (keys : ℕ) (former fresh rows others : RowList) → Lays u keys former fresh rows → Lays u keys former fresh others → rows ≡ others
lays-once update.None keys former fresh rows others p q = p ∙ sym q
lays-once (update.Field name lag) keys former fresh rows others p q = one-overlay keys former fresh rows others p.laid q.laid

large-once : (u : Update) (keys : ℕ) (former fresh : RowList) (why other : Cause) → LaysTooLarge u keys former fresh why → LaysTooLarge u keys former fresh other → why ≡ other
large-once update.None keys former fresh why other p q = absurd p
large-once (update.Field name lag) keys former fresh why other (rows, laid, p) (others, again, q) =
    let same : rows ≡ others = one-overlay keys former fresh rows others laid again in
    oversized-once others why other (subst (λ (r : RowList). IsOversized r why) same p) q

lays-not : (u : Update) (keys : ℕ) (former fresh rows : RowList) (why : Cause) → Lays u keys former fresh rows → LaysTooLarge u keys former fresh why → ⊥
lays-not update.None keys former fresh rows why p q = absurd q
lays-not (update.Field name lag) keys former fresh rows why p (others, again, q) =
    let same : others ≡ rows = one-overlay keys former fresh others rows again p.laid in
    not-oversized rows why p.few p.short (subst (λ (r : RowList). IsOversized r why) same q)

-- ---- an output

module _ (d : Definition) (output : List ℕ) where
  decoded-once : (a b : Decoded) → DecodesTo d output a → DecodesTo d output b → a ≡ b
  decoded-once a b p q = one-decoding d.source.format (columns_of d.source.format (shape_of d)) output a b p q

  rows-once : (rows others : RowList) → DecodesTo d output (Ok rows) → DecodesTo d output (Ok others) → rows ≡ others
  rows-once rows others p q = cc (decoded-once (Ok rows) (Ok others) p q)

  decoded-not : (rows : RowList) (why : Cause) → DecodesTo d output (Ok rows) → IsUndecoded d output why → ⊥
  decoded-not rows (cause.Row bad) p q = cc (decoded-once (Ok rows) (Err (Bad bad)) p q)
  decoded-not rows cause.Rows p q = cc (decoded-once (Ok rows) (Err TooMany) p q)
  decoded-not rows why p q = absurd q

  undecoded-once : (why other : Cause) → IsUndecoded d output why → IsUndecoded d output other → why ≡ other
  undecoded-once (cause.Row a) (cause.Row b) p q = cc (decoded-once (Err (Bad a)) (Err (Bad b)) p q)
  undecoded-once (cause.Row a) cause.Rows p q = absurd (cc (decoded-once (Err (Bad a)) (Err TooMany) p q))
  undecoded-once cause.Rows (cause.Row b) p q = absurd (cc (decoded-once (Err TooMany) (Err (Bad b)) p q))
  undecoded-once cause.Rows cause.Rows p q = refl
  undecoded-once (cause.Row a) other p q = absurd q
  undecoded-once cause.Rows other p q = absurd q
  undecoded-once why other p q = absurd p

  untaken-once : (rows : RowList) (why other : Cause) → IsUntaken d rows why → IsUntaken d rows other → why ≡ other
  untaken-once rows (cause.Key n) (cause.Key m) p q = cc (refused-once (lookup_by d.layout) rows (layout.KeyTooLarge n) (layout.KeyTooLarge m) p q)
  untaken-once rows (cause.Key n) (cause.Prefix m) p q = absurd (cc (refused-once (lookup_by d.layout) rows (layout.KeyTooLarge n) (layout.BadPrefix m) p q))
  untaken-once rows (cause.Prefix n) (cause.Key m) p q = absurd (cc (refused-once (lookup_by d.layout) rows (layout.BadPrefix n) (layout.KeyTooLarge m) p q))
  untaken-once rows (cause.Prefix n) (cause.Prefix m) p q = cc (refused-once (lookup_by d.layout) rows (layout.BadPrefix n) (layout.BadPrefix m) p q)
  untaken-once rows (cause.Key n) other p q = absurd q
  untaken-once rows (cause.Prefix n) other p q = absurd q
  untaken-once rows why other p q = absurd p

  taken-untaken : (rows : RowList) (why : Cause) → LayoutTakesBy (lookup_by d.layout) rows → IsUntaken d rows why → ⊥
  taken-untaken rows (cause.Key n) taken p = taken-not (lookup_by d.layout) rows (layout.KeyTooLarge n) taken p
  taken-untaken rows (cause.Prefix n) taken p = taken-not (lookup_by d.layout) rows (layout.BadPrefix n) taken p
  taken-untaken rows why taken p = absurd p

  module _ (former : RowList) where
    refuses-once : (why other : Cause) → Refuses d former output why → Refuses d former output other → why ≡ other
    refuses-once why other (undecoded p) (undecoded q) = undecoded-once why other p q
    refuses-once why other (undecoded p) (untaken rows has q) = absurd (decoded-not rows why has p)
    refuses-once why other (undecoded p) (too_large rows has q) = absurd (decoded-not rows why has.decoded p)
    refuses-once why other (untaken rows has p) (undecoded q) = absurd (decoded-not rows other has q)
    refuses-once why other (untaken rows has p) (untaken others had q) =
        untaken-once others why other (subst (λ (r : RowList). IsUntaken d r why) (rows-once rows others has had) p) q
    refuses-once why other (untaken rows has p) (too_large others had q) =
        absurd (taken-untaken others why had.taken (subst (λ (r : RowList). IsUntaken d r why) (rows-once rows others has had.decoded) p))
    refuses-once why other (too_large rows has p) (undecoded q) = absurd (decoded-not rows other has.decoded q)
    refuses-once why other (too_large rows has p) (untaken others had q) =
        absurd (taken-untaken rows other has.taken (subst (λ (r : RowList). IsUntaken d r other) (rows-once others rows had has.decoded) q))
    refuses-once why other (too_large rows has p) (too_large others had q) =
        large-once d.source.update (length d.keys) former others why other
        (subst (λ (r : RowList). LaysTooLarge d.source.update (length d.keys) former r why) (rows-once rows others has.decoded had.decoded) p) q

    gives-not : (rows : RowList) (why : Cause) → OutputGives d former output (Ok rows) → Refuses d former output why → ⊥
    gives-not rows why (fresh, has, laid) (undecoded q) = decoded-not fresh why has.decoded q
    gives-not rows why (fresh, has, laid) (untaken others had q) =
        taken-untaken fresh why has.taken (subst (λ (r : RowList). IsUntaken d r why) (rows-once others fresh had has.decoded) q)
    gives-not rows why (fresh, has, laid) (too_large others had q) =
        lays-not d.source.update (length d.keys) former fresh rows why laid
        (subst (λ (r : RowList). LaysTooLarge d.source.update (length d.keys) former r why) (rows-once others fresh had.decoded has.decoded) q)

    gives-once : (given other : Result RowList Cause) → OutputGives d former output given → OutputGives d former output other → given ≡ other
    gives-once (Ok rows) (Ok others) (fresh, has, laid) (new, had, again) =
        let same : fresh ≡ new = rows-once fresh new has.decoded had.decoded in
        ap (λ (r : RowList). Ok r) (lays-once d.source.update (length d.keys) former new rows others
        (subst (λ (r : RowList). Lays d.source.update (length d.keys) former r rows) same laid) again)
    gives-once (Ok rows) (Err why) p q = absurd (gives-not rows why p q)
    gives-once (Err why) (Ok rows) p q = absurd (gives-not rows why q p)
    gives-once (Err why) (Err other) p q = ap (λ (c : Cause). Err c) (refuses-once why other p q)

-- ---- a load

pub accepts-once : (d : Definition) (former : RowList) (o : Outcome) (given other : Result RowList Cause) → Accepts d former o given → Accepts d former o other → given ≡ other
accepts-once d former outcome.NotStarted given other p q = p ∙ sym q
accepts-once d former outcome.WriteFailed given other p q = absurd p
accepts-once d former (outcome.Cut bytes timed_out) given other p q = p ∙ sym q
accepts-once d former outcome.TooLong given other p q = p ∙ sym q
accepts-once d former (outcome.WaitFailed bytes) given other p q = p ∙ sym q
accepts-once d former (outcome.Ended bytes Killed) given other p q = p ∙ sym q
accepts-once d former (outcome.Ended bytes (Code (pos zero))) given other p q = gives-once d bytes former given other p q
accepts-once d former (outcome.Ended bytes (Code (pos (suc n)))) given other p q = p ∙ sym q
accepts-once d former (outcome.Ended bytes (Code (negsuc n))) given other p q = p ∙ sym q
accepts-once d former outcome.NoMemory given other p q = absurd p

former-once : (n : Option Contents) (d : Definition) (a b : RowList) → IsSettled n d → IsFormer n d a → IsFormer n d b → a ≡ b
former-once None d a b settled p q = p ∙ sym q
former-once (Some e) d a b (inl same) p q = p.0 same ∙ sym (q.0 same)
former-once (Some e) d a b (inr differs) p q = p.1 differs ∙ sym (q.1 differs)

pub loads-once : (d : Definition) (list : List Contents) (o : Outcome) (given other : Result RowList Cause) → IsSettled (newest list) d → Loads d list o given → Loads d list o other → given ≡ other
loads-once d list o given other settled (former, is, p) (again, was, q) =
    accepts-once d again o given other (subst (λ (r : RowList). Accepts d r o given) (former-once (newest list) d former again settled is was) p) q

ends-once : (d : Definition) (now : ℕ) (list after others : List Contents) (o : Outcome) (end other : LoadEnd) → IsSettled (newest list) d → end ≢ NoMemory → other ≢ NoMemory → EndsLoad d now list o end after → EndsLoad d now list o other others
    → (end ≡ other) × (after ≡ others)
ends-once d now list after others o (Published n) (Published m) settled found again (rows, p, is, number) (new, q, was, counted) =
    let same : rows ≡ new = cc (loads-once d list o (Ok rows) (Ok new) settled p q) in
    let lists : after ≡ others = is ∙ ap (λ (r : RowList). list ++ version_of d r now ∷ []) same ∙ sym was in
    (ap (λ (k : ℕ). Published k) (number ∙ ap length lists ∙ sym counted), lists)
ends-once d now list after others o (Published n) (Failed why) settled found again (rows, p, is, number) (q, was) =
    absurd (cc (loads-once d list o (Ok rows) (Err why) settled p q))
ends-once d now list after others o (Failed why) (Published m) settled found again (p, is) (rows, q, was, counted) =
    absurd (cc (loads-once d list o (Ok rows) (Err why) settled q p))
ends-once d now list after others o (Failed why) (Failed another) settled found again (p, is) (q, was) =
    let same : why ≡ another = cc (loads-once d list o (Err why) (Err another) settled p q) in
    (ap (λ (c : Cause). Failed c) same, is ∙ sym was)
ends-once d now list after others o (Published n) NoMemory settled found again p q = absurd (again refl)
ends-once d now list after others o (Failed why) NoMemory settled found again p q = absurd (again refl)
ends-once d now list after others o NoMemory other settled found again p q = absurd (found refl)

pub comes-once : (d : Definition) (now : ℕ) (list after others : List Contents) (old new other : DictCore) (ending : PieceEnd) (pieces : List (List ℕ)) (end ended : LoadEnd) → IsSettled (newest list) d → end ≢ NoMemory → ended ≢ NoMemory
    → ComesTo d now list after old new ending pieces end → ComesTo d now list others old other ending pieces ended → (end ≡ ended) × (after ≡ others) × (new ≡ other)
comes-once d now list after others old new other ending pieces end ended settled found again p q =
    let same = ends-once d now list after others (outcome_of ending (concat pieces)) end ended settled found again p.ends q.ends in
    (same.0, same.1, p.core ∙ ap (λ (e : LoadEnd). core_after old (load_events pieces e)) same.0 ∙ sym q.core)

-- ---- a load of a script

-- memory was found for a child where it was found for its load
ran-found : (d : Definition) (now : ℕ) (list after : List Contents) (old new : DictCore) (ending : PieceEnd) (pieces : List (List ℕ)) (end : LoadEnd) → end ≢ NoMemory → ComesTo d now list after old new ending pieces end → ending ≢ piece_end.NoMemory
ran-found d now list after old new ending pieces end found p e =
    lost end found (subst (λ (x : PieceEnd). EndsLoad d now list (outcome_of x (concat pieces)) end after) e p.ends)
  where
    lost : (ended : LoadEnd) → ended ≢ NoMemory → EndsLoad d now list outcome.NoMemory ended after → ⊥
    lost (Published n) some (rows, q, is, number) = q.2
    lost (Failed why) some (q, rest) = q.2
    lost NoMemory some q = some refl

run-once : (scripts : List Script) (left right : Option (List Script)) (limit : ℕ) (ending other : PieceEnd) (pieces others : List (List ℕ)) → RunTold (Some scripts) left [] limit ending pieces → RunTold (Some scripts) right [] limit other others
    → ending ≢ piece_end.NoMemory → other ≢ piece_end.NoMemory → (left ≡ right) × (ending ≡ other) × (pieces ≡ others)
run-once [] left right limit ending other pieces others p q found again = (p.0 ∙ sym q.0, p.2 ∙ sym q.2, p.1 ∙ sym q.1)
run-once (s ∷ rest) left right limit ending other pieces others p q found again =
    let same = one-outcome s [] limit pieces others ending other (p.1.1 found) (q.1.1 again) in
    (p.0 ∙ sym q.0, same.1, same.0)

pub scripted-once : (d : Definition) (now : ℕ) (list after others : List Contents) (old new other : DictCore) (scripts : List Script) (left right : Option (List Script)) (ending last : PieceEnd) (pieces heard : List (List ℕ)) (end ended : LoadEnd) → IsSettled (newest list) d → end ≢ NoMemory → ended ≢ NoMemory
    → RunTold (Some scripts) left [] d.max_output ending pieces → RunTold (Some scripts) right [] d.max_output last heard
    → ComesTo d now list after old new ending pieces end → ComesTo d now list others old other last heard ended → (end ≡ ended) × (after ≡ others) × (new ≡ other) × (left ≡ right)
scripted-once d now list after others old new other scripts left right ending last pieces heard end ended settled found again a b p q =
    let run = run-once scripts left right d.max_output ending last pieces heard a b (ran-found d now list after old new ending pieces end found p) (ran-found d now list others old other last heard ended again q) in
    let moved = subst (λ (e : PieceEnd). ComesTo d now list after old new e heard end) run.1 (subst (λ (ps : List (List ℕ)). ComesTo d now list after old new ending ps end) run.2 p) in
    let same = comes-once d now list after others old new other last heard end ended settled found again moved q in
    (same.0, same.1, same.2, run.0)

-- ---- what a load leaves of the loader

former-by : (n : Option Contents) (l m : LoaderState) → HasNewest l n → HasNewest m n → l.former ≡ m.former
former-by None l m p q = p.1 ∙ sym q.1
former-by (Some e) l m p q = p.2 ∙ sym q.2

pub left-once : (d : Definition) (now : ℕ) (end : LoadEnd) (old new other : LoaderState) (list : List Contents) → new.core ≡ other.core → IsAfter d now end old new → IsAfter d now end old other → IsAt new list → IsAt other list → new ≡ other
left-once d now (Published n) old new other list core p q at there =
    let former : new.former ≡ other.former = former-by (newest list) new other at.newest there.newest in
    p ∙ (λ i. record old { definition = d; core = core i; timing = after_ok (with_lifetime old.timing d.lifetime) now; since = From now; former = former i }) ∙ sym q
left-once d now (Failed why) old new other list core p q at there =
    p ∙ (λ i. record old { core = core i; timing = after_failure old.timing now }) ∙ sym q
left-once d now NoMemory old new other list core p q at there =
    p ∙ (λ i. record old { core = core i; timing = after_failure old.timing now }) ∙ sym q
