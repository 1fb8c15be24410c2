-- Readings whose value is judged: it may fall for a fault whose place lies before the end of what was read.
use Rattle.std.specs.Prelude.{◌≡◌, ◌⊎◌, ℕ, true, List, ◌∷◌, ◌++◌, Option, Result, Ok, Err}
use Rattle.ddl_tokens.specs.declared.fault.SyntaxFault.{SyntaxFault}
use Rattle.ddl_tokens.specs.declared.fault.ReadFault.{ReadFault}
use Rattle.ddl_tokens.specs.declared.fault.ReadFault.TheVariants as fault
use Rattle.ddl_tokens.specs.Tokens.{Token}
use Rattle.ddl_tokens.specs.Reading.{◌>>=◌, Read, is_the_sign}
use Rattle.ddl_tokens.specs.Laws.{Grammar, Stopping, IsNothing, Then, Made, Starts, IsLeast, Lawful}
use Rattle.ddl_tokens.specs.Lists.{Separated}

-- a value that stands, or the fault for which one falls
pub data Verdict (A : Type 0) : Type 0 where
  stands : A → Verdict A
  falls : SyntaxFault → Verdict A

-- what a judged value is read as
abbrev pub told : {A : Type 0} → Verdict A → List Token → Read A
told (stands a) rest = Ok (a, rest)
told (falls e) rest = Err e

-- what a call answers
abbrev pub answer : {A : Type 0} → Verdict A → Result A ReadFault
answer (stands a) = Ok a
answer (falls e) = Err (fault.Syntax e)

-- what is made of a value that stands
abbrev pub verdict_map : {A B : Type 0} → (A → B) → Verdict A → Verdict B
verdict_map make (stands a) = stands (make a)
verdict_map make (falls e) = falls e

-- ---- the words of a grammar

-- what never falls
abbrev pub Standing : {A : Type 0} → Grammar A → Grammar (Verdict A)
Standing Own (stands a) tokens = Own a tokens
Standing Own (falls e) tokens = ⊥

-- what follows a value that stands; nothing is read behind one that falls
abbrev pub Onward : {A B : Type 0} → (A → Grammar (Verdict B)) → Verdict A → Grammar (Verdict B)
Onward Next (stands a) b tokens = Next a b tokens
Onward Next (falls e) b tokens = IsNothing (falls e) b tokens

-- one thing and, where it stands, another behind it
abbrev pub ThenVerdict : {A B : Type 0} → Grammar (Verdict A) → (A → Grammar (Verdict B)) → Grammar (Verdict B)
ThenVerdict Own Next = Then Own (Onward Next)

-- what is made of something
abbrev pub MadeVerdict : {A B : Type 0} → (A → B) → Grammar (Verdict A) → Grammar (Verdict B)
MadeVerdict make Own = Made (verdict_map make) Own

-- items that stand, a sign, and one that falls
pub record LastFalls {A : Type 0} (sign : ℕ) (Own : Grammar (Verdict A)) (e : SyntaxFault) (tokens : List Token)
    : Type 0 where
  pub items : List A
  pub front : List Token
  pub token : Token
  pub own : List Token
  pub parts : tokens ≡ front ++ (token ∷ own)
  pub before : Separated sign (λ a. Own (stands a)) items front
  pub is_sign : is_the_sign sign token ≡ true
  pub fits : Own (falls e) own

-- one item or more, each with the sign before it but the first; one that falls is the last
abbrev pub SeparatedVerdict : {A : Type 0} → ℕ → Grammar (Verdict A) → Grammar (Verdict (List A))
SeparatedVerdict sign Own (stands items) tokens = Separated sign (λ a. Own (stands a)) items tokens
SeparatedVerdict sign Own (falls e) tokens = Own (falls e) tokens ⊎ LastFalls sign Own e tokens

-- what falls stops anyhow
abbrev pub VerdictStops : {A : Type 0} → Stopping A → Stopping (Verdict A)
VerdictStops Stops (stands a) next = Stops a next
VerdictStops Stops (falls e) next = Unit {0}

-- ---- what a reading of a judged grammar is

-- The fault is the first: it has the least place where a token can't stand, or what was read falls for it.
abbrev pub IsLeastOrFalls : {A : Type 0} → Grammar (Verdict A) → Stopping A → List Token → SyntaxFault → Type 0
IsLeastOrFalls Own Stops tokens e =
    IsLeast Own (VerdictStops Stops) tokens e ⊎ Starts Own (VerdictStops Stops) tokens (falls e)

-- The reading tells what a lawful one of judged values has read.
pub record LawfulVerdict {A : Type 0} (Before : Option Token → Type 0) (read : List Token → Read A)
    (Own : Grammar (Verdict A)) (Stops : Stopping A) : Type 0 where
  pub judged : List Token → Read (Verdict A)
  pub tells : (tokens : List Token) → read tokens ≡ (judged tokens >>= λ x. told x.0 x.1)
  pub law : Lawful Before judged Own (VerdictStops Stops)
