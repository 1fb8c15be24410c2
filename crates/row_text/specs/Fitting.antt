-- What columns read fits their types.
use Rattle.std.specs.Prelude.{◌≡◌, List, Ok}
use Rattle.std.specs.List.{AllZip}
use Rattle.dict_value.specs.declared.value.AttrType.{AttrType}
use Rattle.dict_value.specs.declared.value.Field.{Field}
use Rattle.dict_value.specs.declared.value.Value.{Value}
use Rattle.dict_value.specs.Values.{FitsColumn}
use Rattle.row_text.specs.Decoding.{Reader}

-- each value of the column is one of the type
abbrev pub ReadsFitting : Reader → AttrType → Type 0
ReadsFitting column t = (field : Field) (v : Value) → column field ≡ Ok v → FitsColumn t v

-- each value of a column is one of its type
abbrev pub AllFit : List Reader → List AttrType → Type 0
AllFit columns types = AllZip ReadsFitting columns types
