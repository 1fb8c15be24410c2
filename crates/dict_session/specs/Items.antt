-- The items of a desk, by their places and by their names.
use Rattle.std.specs.Prelude.{◌≡◌, ℕ, List, Bool, true, false, Some, slice_get}
use Rattle.std.specs.Str.{bytes_eq}
use Rattle.dict_schema.specs.Parts.{is_keyed_layout}
use Rattle.dict_schema.specs.declared.definition.Definition.{Definition}
use Rattle.dict_schema.specs.declared.definition.FunctionDef.{FunctionDef}
use Rattle.dict_schema.specs.declared.definition.Item.{Item}
use Rattle.dict_schema.specs.declared.definition.Item.TheVariants.{Dictionary, Function}

-- the item at this place is a dictionary that is fully loaded
abbrev pub IsLoadedItem : List Item → ℕ → Type 0
IsLoadedItem items place =
    (d : Definition) × (slice_get items place ≡ Some (Dictionary d)) × (is_keyed_layout d.layout ≡ false)

-- the item at this place is this dictionary, whose rows are fetched by key
abbrev pub IsKeyedItem : List Item → ℕ → Definition → Type 0
IsKeyedItem items place d = (slice_get items place ≡ Some (Dictionary d)) × (is_keyed_layout d.layout ≡ true)

-- the item at this place is this function
abbrev pub IsFunctionItem : List Item → ℕ → FunctionDef → Type 0
IsFunctionItem items place f = slice_get items place ≡ Some (Function f)

-- whether an item is a dictionary, or a function, of this name
abbrev pub is_dictionary_named : List ℕ → Item → Bool
is_dictionary_named name (Dictionary d) = bytes_eq d.name name
is_dictionary_named name (Function f) = false

abbrev pub is_function_named : List ℕ → Item → Bool
is_function_named name (Dictionary d) = false
is_function_named name (Function f) = bytes_eq f.name name
