-- What a lookup asks for, and of which attribute.
use Rattle.std.specs.Prelude.{◌≡◌, ◌≢◌, ◌≤◌, ℕ, List, Bool, true, false, Some, IsTrue, length, slice_get}
use Rattle.dict_schema.specs.Parts.{is_attribute}
use Rattle.dict_schema.specs.declared.definition.Column.{Column}
use Rattle.dict_schema.specs.declared.definition.Definition.{Definition}
use Rattle.wire_text.specs.Requests.{IsRequest}
use Rattle.wire_text.specs.declared.lines.TheConstants.{MOST_BLOCK_LINES}
use Rattle.wire_text.specs.declared.request.Asked.{Asked}
use Rattle.wire_text.specs.declared.request.Request.TheVariants as request
use Rattle.wire_text.specs.declared.request.Verb.{Verb}
use Rattle.wire_text.specs.declared.request.Verb.TheVariants as verb

-- some lines ask this, at most as many as a block may have
pub record IsAsked (q : Asked) : Type 0 where
  pub first : List ℕ
  pub more : List (List ℕ)
  pub reads : IsRequest first more (request.Asked q)
  pub few : length more ≤ MOST_BLOCK_LINES

-- a lookup in a dictionary; a call asks a function
abbrev pub IsLookup : Asked → Type 0
IsLookup q = IsAsked q × (q.verb ≢ verb.Call)

-- whether a verb asks for a hierarchy
abbrev pub asks_hierarchy : Verb → Bool
asks_hierarchy verb.Hierarchy = true
asks_hierarchy verb.IsIn = true
asks_hierarchy verb.Children = true
asks_hierarchy verb.Descendants = true
asks_hierarchy _ = false

-- whether a verb asks for an attribute
abbrev pub asks_attribute : Verb → Bool
asks_attribute verb.Get = true
asks_attribute verb.GetOrDefault = true
asks_attribute verb.GetOrNull = true
asks_attribute _ = false

-- the column at this place of the definition is the attribute of a name; key and range columns are none
pub record IsAttributeNamed (d : Definition) (name : List ℕ) (place : ℕ) (column : Column) : Type 0 where
  pub here : slice_get d.columns place ≡ Some column
  pub named : column.name ≡ name
  pub attribute : IsTrue (is_attribute d place)
