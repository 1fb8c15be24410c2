-- Identifiers: the ClickHouse documentation's UUID, in this profile.
use Rattle.std.specs.Prelude.{ℕ, List, Result, Ok}
use Rattle.std.specs.Int.{w128, to_be_bytes, from_be_bytes}
use Rattle.uuid.specs.Text.{parsed, hyphenated_text, lower}
use Rattle.dict_value.specs.declared.value.BadValue.{BadValue}
use Rattle.dict_value.specs.declared.value.BadValue.TheVariants.{BadUuid}
use Rattle.dict_value.specs.Numbers.{given}

-- the number of an identifier in one of the forms that `uuid` parses
abbrev pub id_of : List ℕ → Result ℕ BadValue
id_of text = given (parsed text) BadUuid (λ bytes. Ok (from_be_bytes w128 bytes))

-- the hyphenated form in lower case
abbrev pub id_text : ℕ → List ℕ
id_text n = hyphenated_text lower (to_be_bytes w128 n)
