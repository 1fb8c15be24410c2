-- What stands between two quote signs.
use Rattle.std.specs.Prelude.{◌≡◌, ◌≢◌, ℕ, ◌+◌, ◌*◌, false, ◌==◌, List, [], ◌∷◌, ◌++◌, Some, length}
use Rattle.dict_value.specs.Escapes.{begins_with_digits, hex_digit, unescaped}
use Rattle.ddl_tokens.specs.Letters.{begins_with}

-- The bytes between two quote signs q, a backslash being 92 and `x` 120, and the bytes that they stand for.
pub data StandsFor (q : ℕ) : List ℕ → List ℕ → Type 0 where
  nothing : StandsFor q [] []
  itself : {b : ℕ} {own bytes : List ℕ} → b ≢ q → b ≢ 92 → StandsFor q own bytes → StandsFor q (b ∷ own) (b ∷ bytes)
  doubled : {own bytes : List ℕ} → StandsFor q own bytes → StandsFor q (q ∷ q ∷ own) (q ∷ bytes)
  escaped : {c : ℕ} {own bytes : List ℕ} → c ≢ 120 → StandsFor q own bytes
      → StandsFor q (92 ∷ c ∷ own) (unescaped c ∷ bytes)
  hexadecimal : {high low a b : ℕ} {own bytes : List ℕ} → hex_digit high ≡ Some a → hex_digit low ≡ Some b
      → StandsFor q own bytes → StandsFor q (92 ∷ 120 ∷ high ∷ low ∷ own) ((16 * a + b) ∷ bytes)

-- Bytes that end no text in quote signs q: a sign stands doubled, or a backslash takes it.
pub data IsInside (q : ℕ) : List ℕ → Type 0 where
  empty : IsInside q []
  plain : {b : ℕ} {own : List ℕ} → b ≢ q → b ≢ 92 → IsInside q own → IsInside q (b ∷ own)
  pair : {own : List ℕ} → IsInside q own → IsInside q (q ∷ q ∷ own)
  taken : {c : ℕ} {own : List ℕ} → IsInside q own → IsInside q (92 ∷ c ∷ own)

-- the text, which follows a quote sign q, has another that ends what is quoted
abbrev pub HasEnd : ℕ → List ℕ → Type 0
HasEnd q text = (inside : List ℕ) × (rest : List ℕ) × (text ≡ inside ++ q ∷ rest) × IsInside q inside
    × (begins_with (λ b. b == q) rest ≡ false)

-- the first backslash whose `x` lacks two digits has so many bytes before it
abbrev pub LacksDigits : ℕ → List ℕ → ℕ → Type 0
LacksDigits q text before = (own : List ℕ) × (bytes : List ℕ) × (rest : List ℕ) × (text ≡ own ++ 92 ∷ 120 ∷ rest)
    × StandsFor q own bytes × (begins_with_digits rest ≡ false) × (before ≡ length own)
