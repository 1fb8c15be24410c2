-- A text that decodes to one answer is one table, or is refused for one cause.
use Rattle.std.proofs.Common.{◌≡◌, ◌<◌, ◌≤◌, ◌∷◌, ◌++◌, ◌∙◌, ◌⊎◌, [], ℕ, List, Option, Some, None, Result, Ok, Err, refl, sym, ap, subst, inl, inr, arith}
use Rattle.std.specs.List.{AllByRecursion}
use Rattle.dict_value.specs.declared.fault.Cause.{Cause}
use Rattle.dict_value.specs.declared.fault.Cause.TheVariants as cause
use Rattle.dict_value.specs.declared.value.Format.TheVariants.{Tab}
use Rattle.dict_value.specs.declared.value.Value.{Value}
use Rattle.dict_value.specs.declared.value.Value.TheVariants as value
use Rattle.std.proofs.lemmas.Bool.{cases_lt}
use Rattle.row_text.proofs.EachText.{some-decoding}
use Rattle.row_text.specs.declared.decode.DecodeFault.{DecodeFault}
use Rattle.row_text.specs.declared.decode.DecodeFault.TheVariants as decode
use Rattle.row_text.specs.Decoding.{Decodes}
use Rattle.row_text.proofs.OneDecoding.{one-decoding}
use Rattle.load_core.specs.FlatRows.{DecodedAs, HasFirstKey, HasSmallKey, IsFirstLarge, HasNoTableFor, IsTable, key_bound}
use Rattle.load_core.specs.WorldRows.{world_columns, row_verdicts}
use Rattle.load_core.specs.WorldSteps.{Candidate}

-- two rows with a large key, each behind rows with small ones, are one
first-same : (before early : List (List Value)) (row other : List Value) (after late : List (List Value)) (key large : ℕ) → before ++ row ∷ after ≡ early ++ other ∷ late
    → AllByRecursion HasSmallKey before → AllByRecursion HasSmallKey early → HasFirstKey row key → key_bound ≤ key → HasFirstKey other large → key_bound ≤ large → key ≡ large
first-same [] [] row other after late key large e small smaller (values, is) above (others, are) beyond =
    let same : row ≡ other = cc in
    cc (sym is ∙ same ∙ are)
first-same [] (b ∷ early) row other after late key large e small smaller (values, is) above has beyond =
    let same : row ≡ b = cc in
    absurd (omega (arith, smaller.0 key (values, sym same ∙ is), above))
first-same (b ∷ before) [] row other after late key large e small smaller has above (values, is) beyond =
    let same : other ≡ b = cc in
    absurd (omega (arith, small.0 large (values, sym same ∙ is), beyond))
first-same (b ∷ before) (c ∷ early) row other after late key large e small smaller has above had beyond =
    first-same before early row other after late key large (cc) small.1 smaller.1 has above had beyond

-- no row of a table has a large key
none-large : (before : List (List Value)) (row : List Value) (after : List (List Value)) (key : ℕ) → AllByRecursion HasSmallKey (before ++ row ∷ after) → HasFirstKey row key → key < key_bound
none-large [] row after key small has = small.0 key has
none-large (b ∷ before) row after key small has = none-large before row after key small.1 has

-- the cause that a fault of decoding is told as
abbrev told : DecodeFault → Cause
told (decode.Bad bad) = cause.Row bad
told decode.TooMany = cause.Rows
told decode.NoMemory = cause.NoMemory

module _ (decodes : DecodedAs) (one : (a b : Result (List (List Value)) DecodeFault) → decodes a → decodes b → a ≡ b) where
  -- a cause is a fault of decoding, or a large key
  abbrev Faulty : Cause → Type 0
  Faulty c = (fault : DecodeFault) × decodes (Err fault) × (c ≡ told fault)

  abbrev TooLarge : Cause → Type 0
  TooLarge c = (rows : List (List Value)) × decodes (Ok rows) × ((key : ℕ) × IsFirstLarge rows key × (c ≡ cause.Key key))

  why : (c : Cause) → HasNoTableFor decodes c → Faulty c ⊎ TooLarge c
  why (cause.Row bad) p = inl (decode.Bad bad, p, refl)
  why cause.Rows p = inl (decode.TooMany, p, refl)
  why (cause.Key key) (rows, d, first) = inr (rows, d, (key, first, refl))
  why cause.Start p = absurd p
  why cause.Read p = absurd p
  why cause.TimedOut p = absurd p
  why (cause.Status n) p = absurd p
  why cause.Killed p = absurd p
  why (cause.Longer n) p = absurd p
  why (cause.Prefix n) p = absurd p
  why cause.Spent p = absurd p
  why cause.NoMemory p = absurd p

  pub one-table : (rows others : List (List Value)) → IsTable decodes rows → IsTable decodes others → rows ≡ others
  one-table rows others p q = cc (one (Ok rows) (Ok others) p.decoded q.decoded)

  refused-so : (rows : List (List Value)) (c : Cause) → IsTable decodes rows → Faulty c ⊎ TooLarge c → ⊥
  refused-so rows c t (inl (fault, d, is)) = cc (one (Ok rows) (Err fault) t.decoded d)
  refused-so rows c t (inr (others, d, (key, first, is))) =
      let same : rows ≡ others = cc (one (Ok rows) (Ok others) t.decoded d) in
      absurd (omega (arith, first.large, none-large first.before first.row first.after key (subst (AllByRecursion HasSmallKey) (same ∙ first.parts) t.keys) first.here))

  pub not-refused : (rows : List (List Value)) (c : Cause) → IsTable decodes rows → HasNoTableFor decodes c → ⊥
  not-refused rows c t p = refused-so rows c t (why c p)

  same-cause : (c d : Cause) → Faulty c ⊎ TooLarge c → Faulty d ⊎ TooLarge d → c ≡ d
  same-cause c d (inl (fault, p, is)) (inl (other, q, are)) =
      let same : fault ≡ other = cc (one (Err fault) (Err other) p q) in
      is ∙ ap told same ∙ sym are
  same-cause c d (inl (fault, p, is)) (inr (rows, q, found)) = absurd (cc (one (Err fault) (Ok rows) p q))
  same-cause c d (inr (rows, p, found)) (inl (fault, q, are)) = absurd (cc (one (Ok rows) (Err fault) p q))
  same-cause c d (inr (rows, p, (key, first, is))) (inr (others, q, (large, second, are))) =
      let same : rows ≡ others = cc (one (Ok rows) (Ok others) p q) in
      let keys = first-same first.before second.before first.row second.row first.after second.after key large (sym first.parts ∙ same ∙ second.parts) first.small second.small first.here first.large second.here second.large in
      is ∙ ap cause.Key keys ∙ sym are

  pub one-cause : (c d : Cause) → HasNoTableFor decodes c → HasNoTableFor decodes d → c ≡ d
  one-cause c d p q = same-cause c d (why c p) (why d q)

-- one verdict on a text
pub one-verdict : (load : Candidate) (verdict other : Option Cause) → row_verdicts load verdict → row_verdicts load other → verdict ≡ other
one-verdict load None None p q = refl
one-verdict load None (Some c) (rows, t) q = absurd (not-refused (Decodes Tab world_columns load.bytes) (one-decoding Tab world_columns load.bytes) rows c t q)
one-verdict load (Some c) None p (rows, t) = absurd (not-refused (Decodes Tab world_columns load.bytes) (one-decoding Tab world_columns load.bytes) rows c t p)
one-verdict load (Some c) (Some d) p q = ap Some (one-cause (Decodes Tab world_columns load.bytes) (one-decoding Tab world_columns load.bytes) c d p q)

-- a row's key is small, or is large
row-key : (row : List Value) → HasSmallKey row ⊎ ((key : ℕ) × HasFirstKey row key × (key_bound ≤ key))
row-key [] = inl (λ key h. absurd (cc (h.1)))
row-key (value.U n ∷ row) = elim (cases_lt n key_bound) [
  | inl lt ↦ inl (λ key h. let same : n ≡ key = cc (h.1) in omega arith)
  | inr ge ↦ inr (n, (row, refl), ge)
]
row-key (value.Null ∷ row) = inl (λ key h. absurd (cc (h.1)))
row-key (value.I z ∷ row) = inl (λ key h. absurd (cc (h.1)))
row-key (value.S text ∷ row) = inl (λ key h. absurd (cc (h.1)))
row-key (value.Day n ∷ row) = inl (λ key h. absurd (cc (h.1)))
row-key (value.Second n ∷ row) = inl (λ key h. absurd (cc (h.1)))
row-key (value.Id n ∷ row) = inl (λ key h. absurd (cc (h.1)))
row-key (value.V4 n ∷ row) = inl (λ key h. absurd (cc (h.1)))
row-key (value.V6 n ∷ row) = inl (λ key h. absurd (cc (h.1)))
row-key (value.Dec z ∷ row) = inl (λ key h. absurd (cc (h.1)))

-- of a list of rows each key is small, or there is a first large one
first-key : (rows : List (List Value)) → AllByRecursion HasSmallKey rows ⊎ ((key : ℕ) × IsFirstLarge rows key)
first-key [] = inl tt
first-key (row ∷ rows) = elim (row-key row) [
  | inr (key, has, large) ↦ inr (key, record { before = []; row = row; after = rows; parts = refl; small = tt; here = has; large = large })
  | inl small ↦ elim (first-key rows) [
    | inl all ↦ inl (small, all)
    | inr (key, f) ↦ inr (key, record { before = row ∷ f.before; row = f.row; after = f.after; parts = ap (λ (z : List (List Value)). row ∷ z) f.parts; small = (small, f.small); here = f.here; large = f.large })
  ]
]

-- each text has a verdict
pub some-verdict : (load : Candidate) → (verdict : Option Cause) × row_verdicts load verdict
some-verdict load = go (some-decoding Tab world_columns load.bytes)
  where
    table : (rows : List (List Value)) → Decodes Tab world_columns load.bytes (Ok rows) → AllByRecursion HasSmallKey rows ⊎ ((key : ℕ) × IsFirstLarge rows key) → (verdict : Option Cause) × row_verdicts load verdict
    table rows d (inl small) = (None, (rows, record { decoded = d; keys = small }))
    table rows d (inr (key, first)) = (Some (cause.Key key), (rows, d, first))

    go : (answer : Result (List (List Value)) DecodeFault) × Decodes Tab world_columns load.bytes answer → (verdict : Option Cause) × row_verdicts load verdict
    go (Ok rows, d) = table rows d (first-key rows)
    go (Err (decode.Bad bad), d) = (Some (cause.Row bad), d)
    go (Err decode.TooMany, d) = (Some cause.Rows, d)
    go (Err decode.NoMemory, d) = absurd d
