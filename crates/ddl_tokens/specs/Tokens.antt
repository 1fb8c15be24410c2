-- Which tokens a text has.
use Rattle.std.specs.Prelude.{◌≡◌, ◌≢◌, ◌⊎◌, ℕ, ◌+◌, Bool, true, false, ◌||◌, ◌&&◌, ◌==◌, List, [], ◌∷◌, ◌++◌, length}
use Rattle.std.specs.Prelude.{codes, Some}
use Rattle.std.specs.List.{AllByRecursion}
use Rattle.dict_value.specs.Split.{Lacks}
use Rattle.ddl_tokens.specs.declared.token.TokenKind.{TokenKind}
use Rattle.ddl_tokens.specs.declared.token.TokenKind.TheVariants.{Word, Number, Sign, Broken, End}
use Rattle.ddl_tokens.specs.Letters.{is_space, is_digit, is_word_start, is_word_byte, is_sign, is_number_sign}
use Rattle.ddl_tokens.specs.Letters.{quoted_kind, is_quote, begins_with}
use Rattle.ddl_tokens.specs.Quoted.{StandsFor, HasEnd, LacksDigits}

-- A token: the place of its first byte, counted from the text's start, and the bytes that it stands for.
pub record Token : Type 0 where
  pub place : ℕ
  pub kind : TokenKind
  pub bytes : List ℕ

-- ---- blanks and comments

abbrev pub Has : List ℕ → List ℕ → Type 0
Has part text = (before : List ℕ) × (after : List ℕ) × (text ≡ before ++ (part ++ after))

-- a comment up to its line feed (10), and one in signs, which its first `*/` ends
pub data IsComment : List ℕ → Type 0 where
  line : {own : List ℕ} (text : List ℕ) → own ≡ codes "--" ++ (text ++ 10 ∷ []) → Lacks 10 text → IsComment own
  block : {own : List ℕ} (text : List ℕ) → own ≡ codes "/*" ++ (text ++ codes "*/")
      → ¬ Has (codes "*/") (text ++ codes "*") → IsComment own

-- blanks and comments, which may stand before a token
pub data IsGap : List ℕ → Type 0 where
  empty : IsGap []
  blank : {b : ℕ} {rest : List ℕ} → is_space b ≡ true → IsGap rest → IsGap (b ∷ rest)
  comment : {own rest gap : List ℕ} → gap ≡ own ++ rest → IsComment own → IsGap rest → IsGap gap

-- the same behind the last token, where the text may end a comment
abbrev pub IsLastGap : List ℕ → Type 0
IsLastGap text = IsGap text
    ⊎ ((gap : List ℕ) × (rest : List ℕ) × (text ≡ gap ++ (codes "--" ++ rest)) × IsGap gap × Lacks 10 rest)

-- ---- tokens

abbrev pub AreDigits : List ℕ → Type 0
AreDigits text = (text ≢ []) × AllByRecursion (λ b. is_digit b ≡ true) text

-- one sign or none
abbrev pub IsNumberSign : List ℕ → Type 0
IsNumberSign text = (text ≡ []) ⊎ ((b : ℕ) × (text ≡ b ∷ []) × (is_number_sign b ≡ true))

-- whether a point (46) and a digit come first
abbrev pub begins_with_fraction : List ℕ → Bool
begins_with_fraction [] = false
begins_with_fraction (b ∷ bytes) = b == 46 && begins_with is_digit bytes

-- The bytes of a token, and what follows it: each is as long as it can be.
pub data IsToken : TokenKind → List ℕ → List ℕ → List ℕ → Type 0 where
  word : {b : ℕ} {own rest : List ℕ} → is_word_start b ≡ true → AllByRecursion (λ c. is_word_byte c ≡ true) own
      → begins_with is_word_byte rest ≡ false → IsToken Word (b ∷ own) (b ∷ own) rest
  whole : {own rest : List ℕ} (sign digits : List ℕ) → own ≡ sign ++ digits → IsNumberSign sign → AreDigits digits
      → begins_with is_digit rest ≡ false → begins_with_fraction rest ≡ false → IsToken Number own own rest
  fraction : {own rest : List ℕ} (sign digits places : List ℕ) → own ≡ sign ++ (digits ++ 46 ∷ places)
      → IsNumberSign sign → AreDigits digits → AreDigits places → begins_with is_digit rest ≡ false
      → IsToken Number own own rest
  sign : {b : ℕ} {rest : List ℕ} → is_sign b ≡ true → IsToken Sign (b ∷ []) (b ∷ []) rest
  quoted : {q : ℕ} {kind : TokenKind} {inside bytes own rest : List ℕ} → quoted_kind q ≡ Some kind
      → own ≡ q ∷ (inside ++ q ∷ []) → StandsFor q inside bytes → begins_with (λ b. b == q) rest ≡ false
      → IsToken kind bytes own rest

-- ---- what is no token

-- whether a token, a blank or a comment can begin with the first byte
abbrev pub can_begin : List ℕ → Bool
can_begin [] = false
can_begin (b ∷ rest) = is_space b || is_word_start b || is_quote b || is_sign b || is_digit b
    || (is_number_sign b && begins_with is_digit rest) || (b == 45 && begins_with (λ c. c == 45) rest)
    || (b == 47 && begins_with (λ c. c == 42) rest)

-- No token can be read, and the fault is so many bytes behind the first.
pub data IsBroken : List ℕ → ℕ → Type 0 where
  strange : {b : ℕ} {rest : List ℕ} → can_begin (b ∷ rest) ≡ false → IsBroken (b ∷ rest) 0
  open_comment : {text rest : List ℕ} → text ≡ codes "/*" ++ rest → ¬ Has (codes "*/") rest → IsBroken text 0
  open_quote : {q : ℕ} {rest : List ℕ} → is_quote q ≡ true → ¬ HasEnd q rest → IsBroken (q ∷ rest) 0
  bad_escape : {q before : ℕ} {rest : List ℕ} → is_quote q ≡ true → HasEnd q rest → LacksDigits q rest before
      → IsBroken (q ∷ rest) (1 + before)

-- ---- the tokens of a text

-- These are the tokens of a text whose first byte has this place. The last is the text's end, or broken where no
-- token can be read.
pub data TokensFrom : ℕ → List ℕ → List Token → Type 0 where
  ends : {place : ℕ} {text : List ℕ} → IsLastGap text
      → TokensFrom place text (record { place = place + length text; kind = End; bytes = [] } ∷ [])
  breaks : {place behind : ℕ} {text gap rest : List ℕ} → text ≡ gap ++ rest → IsGap gap → IsBroken rest behind
      → TokensFrom place text (record { place = place + length gap + behind; kind = Broken; bytes = [] } ∷ [])
  next : {place : ℕ} {kind : TokenKind} {text gap own bytes rest : List ℕ} {tokens : List Token}
      → text ≡ gap ++ (own ++ rest) → IsGap gap → IsToken kind bytes own rest
      → TokensFrom (place + length gap + length own) rest tokens
      → TokensFrom place text (record { place = place + length gap; kind = kind; bytes = bytes } ∷ tokens)

abbrev pub AreTokens : List ℕ → List Token → Type 0
AreTokens text tokens = TokensFrom 0 text tokens
