-- Lists that are read step by step, and things in any order, each kind at most once.
use Rattle.std.specs.Prelude.{◌≡◌, ◌⊎◌, ◌<◌, ◌==◌, ℕ, zero, suc, Bool, true, false, List, [], ◌∷◌, ◌++◌, length, Option}
use Rattle.std.specs.Prelude.{Some, None, Result, Ok, Err, if◌then◌else◌}
use Rattle.dict_value.specs.Memory.{UnlessNoMemory}
use Rattle.ddl_tokens.specs.declared.fault.SyntaxFault.{SyntaxFault}
use Rattle.ddl_tokens.specs.declared.fault.SyntaxFault.TheVariants.{Twice}
use Rattle.ddl_tokens.specs.declared.fault.ReadFault.{ReadFault}
use Rattle.ddl_tokens.specs.declared.fault.ReadFault.TheVariants as fault
use Rattle.ddl_tokens.specs.declared.letters.LetterCase.TheVariants.{Any}
use Rattle.ddl_tokens.specs.Letters.{same_letters}
use Rattle.ddl_tokens.specs.Tokens.{Token}
use Rattle.ddl_tokens.specs.Reading.{◌>>=◌, Read, is_keyword, passes, is_the_sign, place_ahead, sign_at, unexpected}
use Rattle.ddl_tokens.specs.Laws.{Grammar, Stopping, Then}

-- one more was read, or there is none any more
pub data More (A : Type 0) : Type 0 where
  go : A → List Token → More A
  stop : A → List Token → More A

-- a step, given what was read before
abbrev pub Stepped : Type 0 → Type 0
Stepped A = Result (More A) SyntaxFault

abbrev pub Step : Type 0 → Type 0
Step A = A → List Token → Stepped A

-- at most so many steps
unfoldable pub steps : {A : Type 0} → Step A → ℕ → A → List Token → Read A
steps step zero a ts = unexpected ts
steps step (suc n) a ts = step a ts >>= λ m. elim m [ go b rest ↦ steps step n b rest | stop b rest ↦ Ok (b, rest) ]

-- each step takes a token at least, so there are fewer steps than tokens
unfoldable pub repeat : {A : Type 0} → Step A → A → List Token → Read A
repeat step a ts = steps step (suc (length ts)) a ts

-- what a step has read that answers whether there was one more
abbrev pub HasStepped : {X Y : Type 0} → (X → Y) → Result Bool ReadFault → X → List Token → Stepped Y → Type 0
HasStepped view (Ok true) new rest read = read ≡ Ok (go (view new) rest)
HasStepped view (Ok false) new rest read = read ≡ Ok (stop (view new) rest)
HasStepped view (Err (fault.Syntax f)) new rest read = read ≡ Err f
HasStepped view (Err fault.NoMemory) new rest read = ⊥

abbrev pub GivesStep : {X Y : Type 0} → (X → Y) → Result Bool ReadFault → X → List Token → Stepped Y → Type 0
GivesStep view result new rest read = UnlessNoMemory (Err fault.NoMemory) result (HasStepped view result new rest read)

-- where the steps have come: there are fewer tokens than steps left, and these give what all give
pub record SoFar {A : Type 0} (step : Step A) (initial : A) (all : List Token) (a : A) (ts : List Token) : Type 0 where
  pub left : ℕ
  pub enough : length ts < left
  pub same : steps step left a ts ≡ repeat step initial all

-- from a to b by the things that these tokens are
pub data Many {A : Type 0} (Adds : A → A → List Token → Type 0) : A → A → List Token → Type 0 where
  none : {a b : A} {ts : List Token} → a ≡ b → ts ≡ [] → Many Adds a b ts
  more : {a b c : A} {own rest ts : List Token} → ts ≡ own ++ rest → Adds a b own → Many Adds b c rest
      → Many Adds a c ts

-- ---- a list with a sign between its items

-- the sign and one more item
unfoldable pub next_item : {A : Type 0} → ℕ → (List Token → Read A) → Step (List A)
next_item sign item before ts =
    if passes (is_the_sign sign) ts then sign_at sign ts >>= (λ s. item s.1 >>= λ x. Ok (go (before ++ x.0 ∷ []) x.1))
    else Ok (stop before ts)

unfoldable pub separated_at : {A : Type 0} → ℕ → (List Token → Read A) → List Token → Read (List A)
separated_at sign item ts = item ts >>= λ x. repeat (next_item sign item) (x.0 ∷ []) x.1

-- items, each with the sign before it
pub data Tail {A : Type 0} (sign : ℕ) (Own : Grammar A) : List A → List Token → Type 0 where
  ended : Tail sign Own [] []
  another : {a : A} {t : Token} {others : List A} {own rest ts : List Token} → ts ≡ t ∷ (own ++ rest)
      → is_the_sign sign t ≡ true → Own a own → Tail sign Own others rest → Tail sign Own (a ∷ others) ts

-- one item or more
abbrev pub Separated : {A : Type 0} → ℕ → Grammar A → Grammar (List A)
Separated sign Own = Then Own (λ a items ts. (others : _) × (items ≡ a ∷ others) × Tail sign Own others ts)

-- the list stops where its last item does and no sign follows
abbrev pub LastStops : {A : Type 0} → Stopping A → Stopping (List A)
LastStops Stops [] next = Unit {0}
LastStops Stops (a ∷ []) next = Stops a next
LastStops Stops (a ∷ b ∷ others) next = LastStops Stops (b ∷ others) next

-- ---- in any order, each kind at most once

-- whether one of the items has this number
unfoldable pub has_number : {A : Type 0} → (A → ℕ) → ℕ → List A → Bool
has_number number n [] = false
has_number number n (a ∷ others) = if number a == n then true else has_number number n others

-- whether there is one for each of these numbers
unfoldable pub has_all : {A : Type 0} → (A → ℕ) → List ℕ → List A → Bool
has_all number [] items = true
has_all number (n ∷ wanted) items = if has_number number n items then has_all number wanted items else false

-- which kind of item the token in hand begins: None where it begins none, or a fault, as for an unknown name
abbrev pub Kind : Type 0 → Type 0
Kind K = Result (Option K) SyntaxFault

unfoldable pub kind_at : {K : Type 0} → (Token → Kind K) → List Token → Kind K
kind_at kind_of [] = Ok None
kind_at kind_of (t ∷ ts) = kind_of t

-- the items of a kind: how they are read and numbered, and which numbers must be there in the end
abbrev pub once_of : {K A : Type 0} → (K → List Token → Read A) → (K → ℕ) → (A → ℕ) → List ℕ
    → List A → List Token → Option K → Stepped (List A)
once_of item_at kind_number number wanted before ts None =
    if has_all number wanted before then Ok (stop before ts) else unexpected ts
once_of item_at kind_number number wanted before ts (Some k) =
    if has_number number (kind_number k) before then Err (Twice (place_ahead ts))
    else item_at k ts >>= λ x. Ok (go (before ++ x.0 ∷ []) x.1)

unfoldable pub next_once : {K A : Type 0} → (Token → Kind K) → (K → List Token → Read A) → (K → ℕ) → (A → ℕ) → List ℕ
    → Step (List A)
next_once kind_of item_at kind_number number wanted before ts =
    kind_at kind_of ts >>= λ o. once_of item_at kind_number number wanted before ts o

-- one more item, of a kind that wasn't there
pub record AddsOnce {K A : Type 0} (kind_number : K → ℕ) (number : A → ℕ) (Own : K → Grammar A) (a b : List A)
    (own : List Token) : Type 0 where
  pub kind : K
  pub item : A
  pub new : b ≡ a ++ item ∷ []
  pub once : has_number number (kind_number kind) a ≡ false
  pub fits : Own kind item own

-- items in any order, each kind at most once, and each wanted kind once
abbrev pub InAnyOrder : {K A : Type 0} → (K → ℕ) → (A → ℕ) → (K → Grammar A) → List ℕ → Grammar (List A)
InAnyOrder kind_number number Own wanted items ts =
    Many (AddsOnce kind_number number Own) [] items ts × (has_all number wanted items ≡ true)

-- ---- a choice by keywords

-- the first of these kinds whose keyword the token is
unfoldable pub chosen : {K : Type 0} → (K → List ℕ) → List K → Token → Option K
chosen keyword [] t = None
chosen keyword (k ∷ kinds) t = if is_keyword (keyword k) t then Some k else chosen keyword kinds t

abbrev pub kind_by : {K : Type 0} → (K → List ℕ) → List K → Token → Kind K
kind_by keyword kinds t = Ok (chosen keyword kinds t)

-- the same of the token in hand
unfoldable pub chosen_ahead : {K : Type 0} → (K → List ℕ) → List K → List Token → Option K
chosen_ahead keyword [] ts = None
chosen_ahead keyword (k ∷ kinds) ts =
    if passes (is_keyword (keyword k)) ts then Some k else chosen_ahead keyword kinds ts

-- the kind stands in the list, and the keyword of none before it is its own
abbrev pub StandsApart : {K : Type 0} → (K → List ℕ) → K → List K → Type 0
StandsApart keyword k [] = ⊥
StandsApart keyword k (other ∷ kinds) = (other ≡ k)
    ⊎ ((same_letters Any (keyword k) (keyword other) ≡ false) × StandsApart keyword k kinds)

-- they stop where a token begins none of them
abbrev pub BeginsNone : {K A : Type 0} → (Token → Kind K) → Stopping (List A)
BeginsNone kind_of items None = Unit {0}
BeginsNone kind_of items (Some t) = kind_of t ≡ Ok None
