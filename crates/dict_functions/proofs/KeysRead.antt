-- Keys that lines write, or don't, by what a layout looks up.
use Rattle.std.proofs.Common.{◌≡◌, ◌<◌, ◌-◌, ◌++◌, ◌∷◌, ◌∙◌, [], ℕ, ℤ, zero, suc, List, get_or, length, length-append, take, refl, sym, ap, subst, arith}
use Rattle.cache_layout.specs.Fetching.{key_types}
use Rattle.dict_schema.specs.declared.definition.Definition.{Definition}
use Rattle.dict_value.specs.declared.value.Field.{Field}
use Rattle.dict_value.specs.declared.value.Value.{Value}
use Rattle.dict_version.specs.declared.key.Key.{Key}
use Rattle.dict_version.specs.declared.key.Key.TheVariants as key
use Rattle.dict_version.specs.declared.lookup.LookupBy.TheVariants as by
use Rattle.dict_schema.specs.declared.definition.Strategy.{Strategy}
use Rattle.dict_functions.specs.Keys.{ReadsAs, ReadsKeyBy, ReadsNumber, ReadsNumbers, ReadsPoint, ReadsRanged}

last-of : (front : List Field) (last d : Field) → get_or (front ++ last ∷ []) (length front) d ≡ last
last-of [] last d = refl
last-of (f ∷ front) last d = last-of front last d

front-of : (front : List Field) (last : Field) → take (length front) (front ++ last ∷ []) ≡ front
front-of [] last = refl
front-of (f ∷ front) last = ap (λ l. f ∷ l) (front-of front last)

cut-last : (fields front : List Field) (last : Field) → fields ≡ front ++ last ∷ [] → length fields - 1 ≡ length front
cut-last fields front last e =
    let long : length fields ≡ length (front ++ last ∷ []) = ap (λ (l : List Field). length l) e in
    omega (arith, long, length-append front (last ∷ []))

-- the point stands last
pub last-point : (d : Definition) (fields : List Field) (values : List Value) (point : ℤ) (field : Field) → ReadsRanged d fields values point
    → field ≡ get_or fields (length fields - 1) field → ReadsPoint d field point
last-point d fields values point field reads at =
    let same : field ≡ reads.last =
    at ∙ ap (λ k. get_or fields k field) (cut-last fields reads.front reads.last reads.parts)
    ∙ ap (λ (l : List Field). get_or l (length reads.front) field) reads.parts ∙ last-of reads.front reads.last field in
    subst (λ f. ReadsPoint d f point) (sym same) reads.ends

-- the values stand before it
pub front-values : (d : Definition) (fields : List Field) (values : List Value) (point : ℤ) → ReadsRanged d fields values point
    → ReadsAs (key_types d) (take (length fields - 1) fields) values
front-values d fields values point reads =
    let same : take (length fields - 1) fields ≡ reads.front =
    ap (λ k. take k fields) (cut-last fields reads.front reads.last reads.parts)
    ∙ ap (take (length reads.front)) reads.parts ∙ front-of reads.front reads.last in
    subst (λ l. ReadsAs (key_types d) l values) (sym same) reads.keys

-- numbers that are read are one for each field
pub number-at : (fields : List Field) (numbers : List ℕ) (k : ℕ) (field : Field) → k < length fields → field ≡ get_or fields k field
    → ReadsNumbers fields numbers → (n : ℕ) × ReadsNumber field n
number-at [] numbers k field low at reads = absurd (omega (arith, low))
number-at (f ∷ fields) [] k field low at reads = absurd reads
number-at (f ∷ fields) (n ∷ numbers) zero field low at reads = (n, subst (λ x. ReadsNumber x n) (sym at) reads.0)
number-at (f ∷ fields) (n ∷ numbers) (suc k) field low at reads = number-at fields numbers k field (omega (arith, low)) at reads.1

pub one-number : (fields : List Field) (n : ℕ) (field : Field) → length fields ≡ 1 → field ≡ get_or fields 0 field → ReadsNumber field n
    → ReadsNumbers fields (n ∷ [])
one-number [] n field long at reads = absurd (omega (arith, long))
one-number (f ∷ []) n field long at reads = (subst (λ x. ReadsNumber x n) at reads, tt)
one-number (f ∷ g ∷ fields) n field long at reads = absurd (omega (arith, long))

pub two-numbers : (fields : List Field) (n m : ℕ) (first second : Field) → length fields ≡ 2 → first ≡ get_or fields 0 first
    → second ≡ get_or fields 1 second → ReadsNumber first n → ReadsNumber second m → ReadsNumbers fields (n ∷ m ∷ [])
two-numbers [] n m first second long at and p q = absurd (omega (arith, long))
two-numbers (f ∷ []) n m first second long at and p q = absurd (omega (arith, long))
two-numbers (f ∷ g ∷ []) n m first second long at and p q =
    (subst (λ x. ReadsNumber x n) at p, (subst (λ x. ReadsNumber x m) and q, tt))
two-numbers (f ∷ g ∷ h ∷ fields) n m first second long at and p q = absurd (omega (arith, long))

module _ (d : Definition) (fields : List Field) where
  pub no-number : ((n : ℕ) → ¬ (ReadsNumbers fields (n ∷ []))) → (k : Key) → ¬ (ReadsKeyBy by.Number d fields k)
  no-number none (key.Simple n) reads = none n reads
  no-number none (key.List values) reads = reads
  no-number none (key.Ranged values point) reads = reads
  no-number none (key.V4 bits) reads = reads
  no-number none (key.V6 bits) reads = reads

  pub no-small-number : (most : ℕ) → ((n : ℕ) → ¬ (ReadsNumbers fields (n ∷ []))) → (k : Key) → ¬ (ReadsKeyBy (by.SmallNumber most) d fields k)
  no-small-number most none (key.Simple n) reads = none n reads
  no-small-number most none (key.List values) reads = reads
  no-small-number most none (key.Ranged values point) reads = reads
  no-small-number most none (key.V4 bits) reads = reads
  no-small-number most none (key.V6 bits) reads = reads

  pub no-list : ((values : List Value) → ¬ (ReadsAs (key_types d) fields values)) → (k : Key) → ¬ (ReadsKeyBy by.KeyList d fields k)
  no-list none (key.Simple n) reads = reads
  no-list none (key.List values) reads = none values reads
  no-list none (key.Ranged values point) reads = reads
  no-list none (key.V4 bits) reads = reads
  no-list none (key.V6 bits) reads = reads

  pub no-ranged : (strategy : Strategy) → ((values : List Value) (point : ℤ) → ¬ (ReadsRanged d fields values point)) → (k : Key)
      → ¬ (ReadsKeyBy (by.Range strategy) d fields k)
  no-ranged strategy none (key.Simple n) reads = reads
  no-ranged strategy none (key.List values) reads = reads
  no-ranged strategy none (key.Ranged values point) reads = none values point reads
  no-ranged strategy none (key.V4 bits) reads = reads
  no-ranged strategy none (key.V6 bits) reads = reads
