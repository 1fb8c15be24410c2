-- The bytes that a definition text is made of.
use Rattle.std.specs.Prelude.{ℕ, ◌-◌, Bool, true, false, ◌||◌, ◌&&◌, ◌==◌, nat_le, if◌then◌else◌, List, [], ◌∷◌, Option}
use Rattle.std.specs.Prelude.{Some, None, is_some}
use Rattle.ddl_tokens.specs.declared.token.TokenKind.{TokenKind}
use Rattle.ddl_tokens.specs.declared.token.TokenKind.TheVariants.{QuotedWord, String}
use Rattle.ddl_tokens.specs.declared.letters.LetterCase.{LetterCase}
use Rattle.ddl_tokens.specs.declared.letters.LetterCase.TheVariants.{Any, AsWritten}

-- a space, a tab, a carriage return, a line feed
abbrev pub is_space : ℕ → Bool
is_space b = b == 32 || b == 9 || b == 13 || b == 10

abbrev pub is_digit : ℕ → Bool
is_digit b = nat_le 48 b && nat_le b 57

-- a letter or _
abbrev pub is_word_start : ℕ → Bool
is_word_start b = (nat_le 97 b && nat_le b 122) || (nat_le 65 b && nat_le b 90) || b == 95

abbrev pub is_word_byte : ℕ → Bool
is_word_byte b = is_word_start b || is_digit b

-- ( ) , ; . =
abbrev pub is_sign : ℕ → Bool
is_sign b = b == 40 || b == 41 || b == 44 || b == 59 || b == 46 || b == 61

-- + -
abbrev pub is_number_sign : ℕ → Bool
is_number_sign b = b == 43 || b == 45

-- a backquote and a double quote sign begin a word, a single quote sign a string
abbrev pub quoted_kind : ℕ → Option TokenKind
quoted_kind q = if q == 96 || q == 34 then Some QuotedWord else if q == 39 then Some String else None

abbrev pub is_quote : ℕ → Bool
is_quote b = is_some (quoted_kind b)

-- whether there is a first byte, and it is of this kind
abbrev pub begins_with : (ℕ → Bool) → List ℕ → Bool
begins_with p [] = false
begins_with p (b ∷ bytes) = p b

-- the byte in the other letter case, where it is a small letter
abbrev pub capital : ℕ → ℕ
capital b = if nat_le 97 b && nat_le b 122 then b - 32 else b

-- a byte as it is compared
abbrev pub folded : LetterCase → ℕ → ℕ
folded Any b = capital b
folded AsWritten b = b

-- whether two texts are the same, byte by byte as they are compared
unfoldable pub same_letters : LetterCase → List ℕ → List ℕ → Bool
same_letters case [] [] = true
same_letters case [] (k ∷ word) = false
same_letters case (b ∷ text) [] = false
same_letters case (b ∷ text) (k ∷ word) = if folded case b == folded case k then same_letters case text word else false
