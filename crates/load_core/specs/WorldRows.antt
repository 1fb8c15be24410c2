-- The rows of the dictionary that `World::run` loads: a key of type UInt64 and a String with the default ''.
use Rattle.std.specs.Prelude.{List, [], ◌∷◌, false, Some, None, Ok}
use Rattle.dict_value.specs.declared.value.AttrType.{AttrType}
use Rattle.dict_value.specs.declared.value.ColType.TheVariants.{Str, UInt64}
use Rattle.dict_value.specs.declared.value.Field.TheVariants as field
use Rattle.dict_value.specs.declared.value.Format.TheVariants.{Tab}
use Rattle.dict_value.specs.declared.value.Value.{Value}
use Rattle.dict_value.specs.declared.value.Value.TheVariants.{S}
use Rattle.dict_value.specs.Values.{reading}
use Rattle.row_text.specs.Decoding.{Decodes, Reader}
use Rattle.load_core.specs.FlatRows.{HasNoTableFor, IsTable}
use Rattle.load_core.specs.WorldSteps.{Verdicts}

abbrev pub key_column : Reader
key_column seen = reading (record { base = UInt64; nullable = false }) seen

-- NULL gives the default
abbrev pub text_column : Reader
text_column field.Null = Ok (S [])
text_column (field.Text text) = Ok (S text)

abbrev pub world_columns : List Reader
world_columns = key_column ∷ text_column ∷ []

abbrev pub world_types : List AttrType
world_types = record { base = UInt64; nullable = false } ∷ record { base = Str; nullable = false } ∷ []

-- what the judge says: it looks at the text alone
abbrev pub row_verdicts : Verdicts
row_verdicts load None = (rows : List (List Value)) × IsTable (Decodes Tab world_columns load.bytes) rows
row_verdicts load (Some cause) = HasNoTableFor (Decodes Tab world_columns load.bytes) cause
