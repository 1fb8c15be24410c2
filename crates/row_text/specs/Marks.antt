-- How one byte of a field stands in TabSeparated text.
use Rattle.std.specs.Prelude.{◌≡◌, ◌≢◌, ◌⊎◌, ◌+◌, ◌*◌, false, ℕ, List, [], ◌∷◌, IsSome, unwrap_or}
use Rattle.std.specs.List.{AllByRecursion, flat_map}
use Rattle.dict_value.specs.Escapes.{begins_with_digits, hex_digit, unescaped}
use Rattle.dict_value.specs.declared.letters.TheConstants.{BACKSLASH, LETTER_X}

-- by itself, behind a backslash, or as \x and two hexadecimal digits
pub data Mark : Type 0 where
  bare : ℕ → Mark
  escaped : ℕ → Mark
  hex : ℕ → ℕ → Mark

-- the bytes of a mark
abbrev pub spelled : Mark → List ℕ
spelled (bare b) = b ∷ []
spelled (escaped b) = BACKSLASH ∷ b ∷ []
spelled (hex high low) = BACKSLASH ∷ LETTER_X ∷ high ∷ low ∷ []

abbrev pub IsMark : Mark → Type 0
IsMark (bare b) = b ≢ BACKSLASH
IsMark (escaped b) = b ≢ LETTER_X
IsMark (hex high low) = IsSome (hex_digit high) × IsSome (hex_digit low)

-- the byte that a mark stands for
abbrev pub meant_byte : Mark → ℕ
meant_byte (bare b) = b
meant_byte (escaped b) = unescaped b
meant_byte (hex high low) = 16 * unwrap_or (hex_digit high) 0 + unwrap_or (hex_digit low) 0

-- the text is these marks, one after another
pub record Spells (text : List ℕ) (marks : List Mark) : Type 0 where
  pub valid : AllByRecursion IsMark marks
  pub joined : text ≡ flat_map spelled marks

-- the text begins with \x that lacks its digits
abbrev pub LacksHexDigits : List ℕ → Type 0
LacksHexDigits text = (rest : List ℕ) × (text ≡ BACKSLASH ∷ LETTER_X ∷ rest) × (begins_with_digits rest ≡ false)

-- the text begins with a backslash that is no mark: it stands last, or its \x lacks the digits
abbrev pub IsBadEscape : List ℕ → Type 0
IsBadEscape text = (text ≡ BACKSLASH ∷ []) ⊎ LacksHexDigits text
