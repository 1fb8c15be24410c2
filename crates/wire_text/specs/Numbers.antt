-- Decimal numbers as a request writes them: `0`, or digits that don't begin with `0`.
use Rattle.std.specs.Prelude.{◌≡◌, ℕ, List, [], ◌∷◌, Bool, false, ◌==◌}
use Rattle.std.specs.Str.Parse.{digits_value}
use Rattle.dict_value.specs.Digits.{IsDigits}
use Rattle.dict_value.specs.declared.letters.TheConstants.{DIGIT_0}

-- whether digits stand behind a zero
abbrev pub begins_with_zero : List ℕ → Bool
begins_with_zero [] = false
begins_with_zero (b ∷ []) = false
begins_with_zero (b ∷ digit ∷ digits) = b == DIGIT_0

-- the text writes this number, which has 64 bits
pub record IsDecimalText (text : List ℕ) (number : ℕ) : Type 0 where
  pub digits : IsDigits text
  pub plain : begins_with_zero text ≡ false
  pub value : number ≡ digits_value 10 text
