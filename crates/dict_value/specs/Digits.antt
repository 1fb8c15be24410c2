-- Numbers that decimal digits write.
use Rattle.std.specs.Prelude.{ℕ, ◌<◌, ◌≤◌, ◌^◌, List, length}
use Rattle.std.specs.Str.Parse.{AllDigits, digits_value}
use Rattle.dict_value.specs.declared.digit_text.TheConstants.{U64_DIGITS}

-- one to twenty decimal digits, whose number has 64 bits
pub record IsDigits (text : List ℕ) : Type 0 where
  pub some : 0 < length text
  pub few : length text ≤ U64_DIGITS
  pub each : AllDigits 10 text
  pub fits : digits_value 10 text < 2 ^ 64
