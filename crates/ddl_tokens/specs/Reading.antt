-- Reading tokens from left to right, up to the first fault.
use Rattle.std.specs.Prelude.{◌≡◌, ℕ, Bool, true, false, List, [], ◌∷◌, drop, Result, Ok, Err, if◌then◌else◌}
use Rattle.dict_value.specs.Memory.{UnlessNoMemory}
use Rattle.ddl_tokens.specs.declared.token.TokenKind.{TokenKind}
use Rattle.ddl_tokens.specs.declared.token.TokenKind.TheVariants.{Word, QuotedWord, Number, String, Sign, Broken, End}
use Rattle.ddl_tokens.specs.declared.letters.LetterCase.TheVariants.{Any, AsWritten}
use Rattle.ddl_tokens.specs.declared.fault.SyntaxFault.{SyntaxFault}
use Rattle.ddl_tokens.specs.declared.fault.SyntaxFault.TheVariants.{Unexpected}
use Rattle.ddl_tokens.specs.declared.fault.ReadFault.{ReadFault}
use Rattle.ddl_tokens.specs.declared.fault.ReadFault.TheVariants as fault
use Rattle.ddl_tokens.specs.Letters.{same_letters}
use Rattle.ddl_tokens.specs.Tokens.{Token}

-- ---- what a token is

abbrev pub is_word : TokenKind → Bool
is_word Word = true
is_word _ = false

abbrev pub is_name : TokenKind → Bool
is_name Word = true
is_name QuotedWord = true
is_name _ = false

abbrev pub is_string : TokenKind → Bool
is_string String = true
is_string _ = false

abbrev pub is_number : TokenKind → Bool
is_number Number = true
is_number _ = false

abbrev pub is_signed : TokenKind → Bool
is_signed Sign = true
is_signed _ = false

-- whether a token is followed by others
abbrev pub goes_on : TokenKind → Bool
goes_on Broken = false
goes_on End = false
goes_on _ = true

-- whether a token is this word without quotes, in any letter case
unfoldable pub is_keyword : List ℕ → Token → Bool
is_keyword word t = if is_word t.kind then same_letters Any t.bytes word else false

unfoldable pub is_the_sign : ℕ → Token → Bool
is_the_sign sign t = if is_signed t.kind then same_letters AsWritten t.bytes (sign ∷ []) else false

-- ---- the token in hand

-- whether there is a token in hand that passes a test
unfoldable pub passes : (Token → Bool) → List Token → Bool
passes test [] = false
passes test (t ∷ ts) = test t

abbrev pub of_kind : (TokenKind → Bool) → Token → Bool
of_kind test t = test t.kind

unfoldable pub bytes_ahead : List Token → List ℕ
bytes_ahead [] = []
bytes_ahead (t ∷ ts) = t.bytes

abbrev pub place_ahead : List Token → ℕ
place_ahead [] = 0
place_ahead (t ∷ ts) = t.place

unfoldable pub kind_ahead : List Token → TokenKind
kind_ahead [] = End
kind_ahead (t ∷ ts) = t.kind

-- ---- readings

-- a value and the tokens behind it, or the fault
abbrev pub Read : Type 0 → Type 0
Read A = Result (A × List Token) SyntaxFault

infixl 10 ◌>>=◌
abbrev pub ◌>>=◌ : {A B : Type 0} → Result A SyntaxFault → (A → Result B SyntaxFault) → Result B SyntaxFault
(Ok x) >>= f = f x
(Err e) >>= f = Err e

abbrev pub unexpected : {A : Type 0} → List Token → Result A SyntaxFault
unexpected ts = Err (Unexpected (place_ahead ts))

unfoldable pub keyword_at : List ℕ → List Token → Read (Unit {0})
keyword_at word ts = if passes (is_keyword word) ts then Ok (tt, drop 1 ts) else unexpected ts

unfoldable pub sign_at : ℕ → List Token → Read (Unit {0})
sign_at sign ts = if passes (is_the_sign sign) ts then Ok (tt, drop 1 ts) else unexpected ts

unfoldable pub bytes_at : (TokenKind → Bool) → List Token → Read (List ℕ)
bytes_at test ts = if passes (of_kind test) ts then Ok (bytes_ahead ts, drop 1 ts) else unexpected ts

-- what a call that answers this and leaves these tokens has read
abbrev pub HasRead : {X Y : Type 0} → (X → Y) → Result X ReadFault → List Token → Read Y → Type 0
HasRead view (Ok x) rest read = read ≡ Ok (view x, rest)
HasRead view (Err (fault.Syntax f)) rest read = read ≡ Err f
HasRead view (Err fault.NoMemory) rest read = ⊥

abbrev pub Gives : {X Y : Type 0} → (X → Y) → Result X ReadFault → List Token → Read Y → Type 0
Gives view result rest read = UnlessNoMemory (Err fault.NoMemory) result (HasRead view result rest read)
