-- What the first line of a request tells by itself.
use Rattle.std.specs.Prelude.{◌≡◌, ◌+◌, ◌*◌, ◌==◌, if◌then◌else◌, Bool, true, false, ℕ, List, [], ◌∷◌, Option}
use Rattle.std.specs.Prelude.{Some, None}
use Rattle.std.specs.Prelude.{codes, option_and_then}
use Rattle.dict_value.specs.Escapes.{hex_digit, unescaped}
use Rattle.dict_value.specs.declared.letters.TheConstants.{BACKSLASH, LETTER_X}
use Rattle.dict_value.specs.declared.value.Field.{Field}
use Rattle.dict_value.specs.declared.value.Field.TheVariants.{Text}
use Rattle.wire_text.specs.Requests.{IsVerbHead}
use Rattle.wire_text.specs.declared.request.Verb.{Verb}

-- the fields are the word of a block, a number, and a lookup without its keys
pub record IsHeadOfBlock (fields : List Field) : Type 0 where
  pub count : Field
  pub head : List Field
  pub verb : Verb
  pub name : List ℕ
  pub attribute : List ℕ
  pub fallback : Field
  pub whole : fields ≡ Text (codes "many") ∷ count ∷ head
  pub lookup : IsVerbHead head verb name attribute fallback

-- the byte that two hexadecimal digits give, and what stands behind them
abbrev pub hex_byte : Option ℕ → Option ℕ → List ℕ → Option (ℕ × List ℕ)
hex_byte high low rest = option_and_then (λ (h : ℕ). option_and_then (λ (l : ℕ). Some (16 * h + l, rest)) low) high

abbrev pub hex_meant : List ℕ → Option (ℕ × List ℕ)
hex_meant (high ∷ low ∷ rest) = hex_byte (hex_digit high) (hex_digit low) rest
hex_meant _ = None

-- the byte that an escape stands for, behind its backslash
abbrev pub escape_meant : List ℕ → Option (ℕ × List ℕ)
escape_meant [] = None
escape_meant (b ∷ rest) = if b == LETTER_X then hex_meant rest else Some (unescaped b, rest)

-- the byte that stands first, by itself or in an escape, and what stands behind it
abbrev pub first_meant : List ℕ → Option (ℕ × List ℕ)
first_meant [] = None
first_meant (b ∷ rest) = if b == BACKSLASH then escape_meant rest else Some (b, rest)

abbrev pub is_none_left : List ℕ → Bool
is_none_left [] = true
is_none_left (b ∷ rest) = false

-- the byte that was found is this one, and the rest passes
abbrev pub goes_on_behind : (List ℕ → Bool) → ℕ → Option (ℕ × List ℕ) → Bool
goes_on_behind passes b None = false
goes_on_behind passes b (Some found) = if found.0 == b then passes found.1 else false

-- the bytes that stand in the text, one after another, are those of the word
abbrev pub means : List ℕ → List ℕ → Bool
means text [] = is_none_left text
means text (b ∷ word) = goes_on_behind (λ rest. means rest word) b (first_meant text)
