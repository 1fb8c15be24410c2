-- What makes a reading the reading of a grammar.
use Rattle.std.specs.Prelude.{◌≡◌, ◌⊎◌, ℕ, Bool, false, if◌then◌else◌, List, [], ◌∷◌, ◌++◌, Option, Some, None, Result}
use Rattle.std.specs.Prelude.{Ok, Err}
use Rattle.ddl_tokens.specs.declared.token.TokenKind.{TokenKind}
use Rattle.ddl_tokens.specs.declared.fault.SyntaxFault.{SyntaxFault}
use Rattle.ddl_tokens.specs.declared.fault.SyntaxFault.TheVariants.{Unexpected, UnknownSetting, Twice, Unsupported}
use Rattle.ddl_tokens.specs.declared.fault.ReadFault.{ReadFault}
use Rattle.ddl_tokens.specs.declared.fault.ReadFault.TheVariants as fault
use Rattle.ddl_tokens.specs.Tokens.{Token}
use Rattle.ddl_tokens.specs.Reading.{Read, place_ahead, is_keyword, is_the_sign}

abbrev pub first : List Token → Option Token
first [] = None
first (t ∷ ts) = Some t

abbrev pub place_of : SyntaxFault → ℕ
place_of (Unexpected place) = place
place_of (UnknownSetting place) = place
place_of (Twice place) = place
place_of (Unsupported place) = place

-- A grammar says which tokens are an a, `Own a tokens`, and before which token an a stops, `Stops a next`: with
-- another token behind its own it goes on, or is something else.

abbrev pub Grammar : Type 0 → Type 1
Grammar A = A → List Token → Type 0

abbrev pub Stopping : Type 0 → Type 1
Stopping A = A → Option Token → Type 0

-- whether there is such a token and it passes a test
abbrev pub passes_first : (Token → Bool) → Option Token → Bool
passes_first test None = false
passes_first test (Some t) = test t

-- no token follows that passes a test
abbrev pub NotBefore : {A : Type 0} → (Token → Bool) → Stopping A
NotBefore test a next = passes_first test next ≡ false

-- whatever follows
abbrev pub Anyhow : {A : Type 0} → A → Option Token → Type 0
Anyhow a next = Unit {0}

-- the tokens begin with those of an a, and it stops there
pub record Begins {A : Type 0} (Own : Grammar A) (Stops : Stopping A) (tokens : List Token) (a : A)
    (rest : List Token) : Type 0 where
  pub own : List Token
  pub parts : tokens ≡ own ++ rest
  pub fits : Own a own
  pub stops : Stops a (first rest)

-- the tokens begin with those of an a
abbrev pub Starts : {A : Type 0} → Grammar A → Stopping A → List Token → A → Type 0
Starts Own Stops tokens a = (rest : List Token) × Begins Own Stops tokens a rest

-- The fault has the least place: the tokens before it can go on to an a, and no tokens that are the same up to it,
-- itself included, begin with those of an a.
pub record IsLeast {A : Type 0} (Own : Grammar A) (Stops : Stopping A) (tokens : List Token) (e : SyntaxFault)
    : Type 0 where
  pub before : List Token
  pub rest : List Token
  pub parts : tokens ≡ before ++ rest
  pub place : place_ahead rest ≡ place_of e
  pub value : A
  pub more : List Token
  pub can_go_on : Own value (before ++ more)
  pub stuck : (a : A) (others own tail : List Token) → first others ≡ first rest → before ++ others ≡ own ++ tail
      → Own a own → Stops a (first tail) → ⊥

-- a fault, and that the reading tells it whatever follows the token at its place
pub record Faults {A : Type 0} (read : List Token → Read A) (Own : Grammar A) (tokens : List Token) (e : SyntaxFault)
    : Type 0 where
  pub before : List Token
  pub rest : List Token
  pub parts : tokens ≡ before ++ rest
  pub place : place_ahead rest ≡ place_of e
  pub value : A
  pub more : List Token
  pub can_go_on : Own value (before ++ more)
  pub again : (others : List Token) → first others ≡ first rest → read (before ++ others) ≡ Err e

-- The reading is that of the grammar, given what is known of the token in hand: what is read is its own; its own is
-- read; a fault has the least place; and there is something to read.
pub record Lawful {A : Type 0} (Before : Option Token → Type 0) (read : List Token → Read A) (Own : Grammar A)
    (Stops : Stopping A) : Type 0 where
  pub found : (tokens : List Token) (a : A) (rest : List Token) → Before (first tokens) → read tokens ≡ Ok (a, rest)
      → Begins Own Stops tokens a rest
  pub only : (a : A) (own rest : List Token) → Own a own → Stops a (first rest) → read (own ++ rest) ≡ Ok (a, rest)
  pub least : (tokens : List Token) (e : SyntaxFault) → Before (first tokens) → read tokens ≡ Err e
      → Faults read Own tokens e
  pub some : (a : A) × (own : List Token) × Own a own

-- ---- the words of a grammar

-- one token, which a judge takes for this value
pub record IsOne {A : Type 0} (judge : Token → Result A SyntaxFault) (a : A) (tokens : List Token) : Type 0 where
  pub token : Token
  pub parts : tokens ≡ token ∷ []
  pub fine : judge token ≡ Ok a

-- the judge who takes what passes a test
abbrev pub judged : {A : Type 0} → (Token → Bool) → (Token → A) → Token → Result A SyntaxFault
judged test value t = if test t then Ok (value t) else Err (Unexpected t.place)

abbrev pub IsKeyword : List ℕ → Unit {0} → List Token → Type 0
IsKeyword word = IsOne (judged (is_keyword word) (λ _. tt {0}))

abbrev pub IsSign : ℕ → Unit {0} → List Token → Type 0
IsSign sign = IsOne (judged (is_the_sign sign) (λ _. tt {0}))

-- a token of this kind, and the bytes that it stands for
abbrev pub IsBytes : (TokenKind → Bool) → Grammar (List ℕ)
IsBytes test = IsOne (judged (λ t. test t.kind) (λ t. t.bytes))

-- no token, and this value
abbrev pub IsNothing : {A : Type 0} → A → A → List Token → Type 0
IsNothing value a tokens = (a ≡ value) × (tokens ≡ [])

-- one thing, and another behind it, which depends on it
pub record Then {A B : Type 0} (Own : Grammar A) (Next : A → Grammar B) (b : B) (tokens : List Token) : Type 0 where
  pub value : A
  pub front : List Token
  pub back : List Token
  pub parts : tokens ≡ front ++ back
  pub before : Own value front
  pub behind : Next value b back

-- one or the other
abbrev pub Either : {A : Type 0} → Grammar A → Grammar A → Grammar A
Either Own Other a tokens = Own a tokens ⊎ Other a tokens

-- what is made of something
pub record Made {A B : Type 0} (make : A → B) (Own : Grammar A) (b : B) (tokens : List Token) : Type 0 where
  pub from : A
  pub is : b ≡ make from
  pub fits : Own from tokens

-- something or nothing
abbrev pub Optional : {A : Type 0} → Grammar A → Grammar (Option A)
Optional Own None tokens = tokens ≡ []
Optional Own (Some a) tokens = Own a tokens

-- nothing is there where the next token begins none
abbrev pub OptionalStops : {A : Type 0} → (Token → Bool) → Stopping A → Stopping (Option A)
OptionalStops test Stops None None = Unit {0}
OptionalStops test Stops None (Some t) = test t ≡ false
OptionalStops test Stops (Some a) next = Stops a next

-- ---- what a call answers

-- this holds of the fault that was told, if one was
abbrev pub IfSyntax : {X : Type 0} → Result X ReadFault → (SyntaxFault → Type 0) → Type 0
IfSyntax (Ok x) P = Unit {0}
IfSyntax (Err fault.NoMemory) P = Unit {0}
IfSyntax (Err (fault.Syntax e)) P = P e
