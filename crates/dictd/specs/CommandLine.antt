-- The words of the command line.
use Rattle.std.specs.Prelude.{◌≡◌, ◌<◌, ◌≤◌, ℕ, List, [], ◌∷◌, codes}
use Rattle.std.specs.Str.Parse.{digits_value}
use Rattle.dict_value.specs.Digits.{IsDigits}
use Rattle.dictd.specs.declared.words.TheConstants.{MOST_DEMO_ROWS}

-- `once DEFS SEED`, with the name of the definitions file and the seed
pub record IsOnce (words : List (List ℕ)) (name : List ℕ) (seed : ℕ) : Type 0 where
  pub digits : List ℕ
  pub spelled : words ≡ codes "once" ∷ name ∷ digits ∷ []
  pub number : IsDigits digits
  pub seed_is : seed ≡ digits_value 10 digits

-- `demo N SEED`, with the number of rows and the seed
pub record IsDemo (words : List (List ℕ)) (rows seed : ℕ) : Type 0 where
  pub row_digits : List ℕ
  pub seed_digits : List ℕ
  pub spelled : words ≡ codes "demo" ∷ row_digits ∷ seed_digits ∷ []
  pub row_number : IsDigits row_digits
  pub rows_are : rows ≡ digits_value 10 row_digits
  pub some : 0 < rows
  pub few : rows ≤ MOST_DEMO_ROWS
  pub seed_number : IsDigits seed_digits
  pub seed_is : seed ≡ digits_value 10 seed_digits
