-- What the fields of a line are: a key, or numbers of a hierarchy.
use Rattle.std.specs.Prelude.{◌≡◌, ◌+◌, ◌∷◌, ◌++◌, [], ℕ, ℤ, List, All, Option, Some, None, Ok, length, slice_get, ⊤}
use Rattle.std.specs.Option.{option_map}
use Rattle.std.specs.List.{AllZip}
use Rattle.cache_layout.specs.Fetching.{key_types}
use Rattle.dict_schema.specs.declared.definition.Definition.{Definition}
use Rattle.dict_schema.specs.declared.definition.RangeOf.{RangeOf}
use Rattle.dict_schema.specs.declared.definition.RangeOf.TheVariants as range
use Rattle.dict_value.specs.Addresses.{address_in}
use Rattle.dict_value.specs.Values.{reading, text_reading}
use Rattle.dict_value.specs.declared.value.Address.TheVariants as address
use Rattle.dict_value.specs.declared.value.AttrType.{AttrType}
use Rattle.dict_value.specs.declared.value.ColType.{ColType}
use Rattle.dict_value.specs.declared.value.ColType.TheVariants.{UInt64}
use Rattle.dict_value.specs.declared.value.Field.{Field}
use Rattle.dict_value.specs.declared.value.Field.TheVariants.{Text}
use Rattle.dict_value.specs.declared.value.Value.{Value}
use Rattle.dict_value.specs.declared.value.Value.TheVariants.{U}
use Rattle.dict_version.specs.Keys.{range_end}
use Rattle.dict_version.specs.Lookups.{lookup_by}
use Rattle.dict_version.specs.declared.key.Key.{Key}
use Rattle.dict_version.specs.declared.key.Key.TheVariants as key
use Rattle.dict_version.specs.declared.lookup.LookupBy.{LookupBy}
use Rattle.dict_version.specs.declared.lookup.LookupBy.TheVariants as by
use Rattle.range_layout.specs.declared.ends.End.TheVariants.{At}

-- the fields write these values, one of each type
abbrev pub ReadsAs : List AttrType → List Field → List Value → Type 0
ReadsAs [] [] [] = ⊤
ReadsAs (t ∷ types) (field ∷ fields) (v ∷ values) = (reading t field ≡ Ok v) × ReadsAs types fields values
ReadsAs _ _ _ = ⊥

-- the field writes a number of 64 bits
abbrev pub ReadsNumber : Field → ℕ → Type 0
ReadsNumber field n = (text : List ℕ) × (field ≡ Text text) × (text_reading UInt64 text ≡ Ok (U n))

-- the fields write these numbers
abbrev pub ReadsNumbers : List Field → List ℕ → Type 0
ReadsNumbers fields numbers = AllZip ReadsNumber fields numbers

-- the type of the ends of the range, NULL aside
abbrev pub point_type : Definition → RangeOf → Option ColType
point_type d range.None = None
point_type d (range.Columns start end) = option_map (λ column. column.ty.base) (slice_get d.columns start)

-- the field writes a point of the range: a number, a day or a second
pub record ReadsPoint (d : Definition) (field : Field) (point : ℤ) : Type 0 where
  pub text : List ℕ
  pub base : ColType
  pub value : Value
  pub is_text : field ≡ Text text
  pub typed : point_type d d.range ≡ Some base
  pub read : text_reading base text ≡ Ok value
  pub number : range_end (Some value) ≡ At point

-- the values of a key, and a point behind them
pub record ReadsRanged (d : Definition) (fields : List Field) (values : List Value) (point : ℤ) : Type 0 where
  pub front : List Field
  pub last : Field
  pub parts : fields ≡ front ++ last ∷ []
  pub keys : ReadsAs (key_types d) front values
  pub ends : ReadsPoint d last point

-- the line is one text, which writes this address
abbrev pub ReadsAddress : List Field → Key → Type 0
ReadsAddress (Text text ∷ []) (key.V4 bits) = address_in text ≡ Some (address.V4 bits)
ReadsAddress (Text text ∷ []) (key.V6 bits) = address_in text ≡ Some (address.V6 bits)
ReadsAddress _ _ = ⊥

-- the fields of a line write this key, by what a layout looks up
abbrev pub ReadsKeyBy : LookupBy → Definition → List Field → Key → Type 0
ReadsKeyBy (by.SmallNumber most) d fields (key.Simple n) = ReadsNumbers fields (n ∷ [])
ReadsKeyBy by.Number d fields (key.Simple n) = ReadsNumbers fields (n ∷ [])
ReadsKeyBy by.KeyList d fields (key.List values) = ReadsAs (key_types d) fields values
ReadsKeyBy (by.Range strategy) d fields (key.Ranged values point) = ReadsRanged d fields values point
ReadsKeyBy by.Address d fields key = ReadsAddress fields key
ReadsKeyBy _ _ _ _ = ⊥

abbrev pub ReadsKey : Definition → List Field → Key → Type 0
ReadsKey d fields key = ReadsKeyBy (lookup_by d.layout) d fields key

-- the first line, from 1, of which this doesn't hold
pub record IsFirstWithout {A : Type 0} (P : A → Type 0) (lines : List A) (number : ℕ) : Type 0 where
  pub before : List A
  pub line : A
  pub after : List A
  pub parts : lines ≡ before ++ line ∷ after
  pub counted : number ≡ length before + 1
  pub earlier : All P before
  pub without : ¬ (P line)
