-- Why a lookup is refused: the first reason in this order.
use Rattle.std.specs.Prelude.{◌≡◌, ◌≢◌, ℕ, List, Bool, true, false, Ok, IsTrue}
use Rattle.dict_schema.specs.declared.definition.Column.{Column}
use Rattle.dict_schema.specs.declared.definition.Definition.{Definition}
use Rattle.dict_value.specs.Values.{reading}
use Rattle.dict_value.specs.declared.value.Field.{Field}
use Rattle.dict_value.specs.declared.value.Value.{Value}
use Rattle.dict_version.specs.Keys.{NamesParent}
use Rattle.dict_version.specs.declared.key.Key.{Key}
use Rattle.wire_text.specs.declared.reply.ReplyFault.{ReplyFault}
use Rattle.wire_text.specs.declared.reply.ReplyFault.TheVariants as fault
use Rattle.wire_text.specs.declared.request.Asked.{Asked}
use Rattle.wire_text.specs.declared.request.Verb.TheVariants as verb
use Rattle.dict_functions.specs.Asking.{IsAttributeNamed, asks_attribute, asks_hierarchy}
use Rattle.dict_functions.specs.Keys.{IsFirstWithout, ReadsKey, ReadsNumbers}

-- a hierarchy is asked for, and there is none
abbrev pub LacksHierarchy : Definition → Asked → Type 0
LacksHierarchy d q = IsTrue (asks_hierarchy q.verb) × ((place : ℕ) → ¬ (NamesParent d place))

-- an attribute is asked for, and the name is none's
abbrev pub LacksAttribute : Definition → Asked → Type 0
LacksAttribute d q =
    IsTrue (asks_attribute q.verb)
    × ((place : ℕ) (column : Column) → ¬ (IsAttributeNamed d q.attribute place column))

-- a default is given that is no value of the attribute
abbrev pub HasBadDefault : Definition → Asked → Type 0
HasBadDefault d q =
    (q.verb ≡ verb.GetOrDefault)
    × ((place : ℕ) × (column : Column) × IsAttributeNamed d q.attribute place column
    × ((v : Value) → reading column.ty q.fallback ≢ Ok v))

-- the verb, the attribute and the default fit the definition
pub record IsFitting (d : Definition) (q : Asked) : Type 0 where
  pub hierarchy : ¬ (LacksHierarchy d q)
  pub attribute : ¬ (LacksAttribute d q)
  pub default : ¬ (HasBadDefault d q)

-- the same is refused: no hierarchy, then no attribute, then a bad default
pub data IsUnfitting (d : Definition) (q : Asked) : ReplyFault → Type 0 where
  hierarchy : LacksHierarchy d q → IsUnfitting d q fault.WrongLayout
  attribute : ¬ (LacksHierarchy d q) → LacksAttribute d q → IsUnfitting d q fault.UnknownAttribute
  default : ¬ (LacksHierarchy d q) → ¬ (LacksAttribute d q) → HasBadDefault d q
      → IsUnfitting d q (fault.BadArgument 0)

-- the fields of a line write what the verb asks by: numbers for a hierarchy, else a key
abbrev pub HasKey : Definition → Bool → List Field → Type 0
HasKey d true fields = (numbers : List ℕ) × ReadsNumbers fields numbers
HasKey d false fields = (key : Key) × ReadsKey d fields key

-- why a lookup in a version is refused: it doesn't fit, or else a line has no key
pub data IsRefusal (d : Definition) (q : Asked) : ReplyFault → Type 0 where
  unfitting : {f : ReplyFault} → IsUnfitting d q f → IsRefusal d q f
  key : {line : ℕ} → IsFitting d q → IsFirstWithout (HasKey d (asks_hierarchy q.verb)) q.lines line
      → IsRefusal d q (fault.BadKey line)
