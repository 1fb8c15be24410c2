-- What a lookup that fits asks for, and why another is refused.
use Rattle.std.proofs.Common.{◌≡◌, ◌≢◌, ◌⊎◌, ◌∙◌, ℕ, List, Some, Ok, Err, Result, Bool, true, false, if◌then◌else◌, inl, inr, refl, sym, ap, subst, slice_get, IsTrue}
use Rattle.std.proofs.lemmas.Option.{same_Some}
use Rattle.dict_schema.specs.Sound.{IsSound}
use Rattle.dict_schema.specs.declared.definition.Column.{Column}
use Rattle.dict_schema.specs.declared.definition.Definition.{Definition}
use Rattle.dict_value.proofs.ReadTypes.{read-typed}
use Rattle.dict_value.specs.Values.{FitsColumn, HasType, reading}
use Rattle.dict_value.specs.declared.value.AttrType.{AttrType}
use Rattle.dict_value.specs.declared.value.BadValue.{BadValue}
use Rattle.dict_value.specs.declared.value.BadValue.TheVariants.{NullNotAllowed}
use Rattle.dict_value.specs.declared.value.Field.{Field}
use Rattle.dict_value.specs.declared.value.Field.TheVariants as field
use Rattle.dict_value.specs.declared.value.Value.{Value}
use Rattle.dict_value.specs.declared.value.Value.TheVariants.{U, I, S, Day, Second, Id, V4, V6, Dec, Null}
use Rattle.dict_version.specs.Keys.{NamesParent}
use Rattle.wire_text.specs.declared.reply.ReplyFault.TheVariants as fault
use Rattle.wire_text.specs.declared.request.Asked.{Asked}
use Rattle.wire_text.specs.declared.request.Verb.{Verb}
use Rattle.wire_text.specs.declared.request.Verb.TheVariants as verb
use Rattle.dict_functions.specs.Asking.{IsAttributeNamed, asks_attribute, asks_hierarchy}
use Rattle.dict_functions.specs.Keys.{IsFirstWithout}
use Rattle.dict_functions.specs.Refusals.{HasBadDefault, HasKey, IsFitting, IsRefusal, IsUnfitting}
use Rattle.dict_functions.specs.Values.{StandsIn}
use Rattle.dict_functions.specs.declared.lines.LineFault.{LineFault}
use Rattle.dict_functions.specs.declared.lines.LineFault.TheVariants as one
use Rattle.dict_functions.specs.declared.lines.LinesFault.{LinesFault}
use Rattle.dict_functions.specs.declared.lines.LinesFault.TheVariants as several
use Rattle.dict_functions.specs.steps.Lines.{default_fault, key_fault}
use Rattle.dict_functions.proofs.SoundColumns.{default-fits, named-once}

-- a verb asks for one of the two
pub not-both : (v : Verb) → IsTrue (asks_attribute v) → IsTrue (asks_hierarchy v) → ⊥
not-both verb.Get a h = cc
not-both verb.GetOrDefault a h = cc
not-both verb.GetOrNull a h = cc
not-both verb.Has a h = cc
not-both verb.Call a h = cc
not-both verb.Hierarchy a h = cc
not-both verb.IsIn a h = cc
not-both verb.Children a h = cc
not-both verb.Descendants a h = cc

-- so one that asks for an attribute asks for no hierarchy
pub no-hierarchy-asked : (v : Verb) → IsTrue (asks_attribute v) → asks_hierarchy v ≡ false
no-hierarchy-asked verb.Get a = refl
no-hierarchy-asked verb.GetOrDefault a = refl
no-hierarchy-asked verb.GetOrNull a = refl
no-hierarchy-asked verb.Has a = refl
no-hierarchy-asked verb.Call a = refl
no-hierarchy-asked verb.Hierarchy a = absurd (cc)
no-hierarchy-asked verb.IsIn a = absurd (cc)
no-hierarchy-asked verb.Children a = absurd (cc)
no-hierarchy-asked verb.Descendants a = absurd (cc)

-- a value of a type fits its column
typed-fits : (t : AttrType) (v : Value) → HasType t.base v → (v ≡ Null) ⊎ FitsColumn t v
typed-fits t Null has = inl refl
typed-fits t (U n) has = inr has
typed-fits t (I n) has = inr has
typed-fits t (S n) has = inr has
typed-fits t (Day n) has = inr has
typed-fits t (Second n) has = inr has
typed-fits t (Id n) has = inr has
typed-fits t (V4 n) has = inr has
typed-fits t (V6 n) has = inr has
typed-fits t (Dec n) has = inr has

null-fits : (t : AttrType) (b : Bool) (v : Value) → ◌≡◌ {A = Result Value BadValue} (if b then Ok Null else Err NullNotAllowed) (Ok v)
    → (v ≡ Null) ⊎ FitsColumn t v
null-fits t true v read = let same : v ≡ Null = cc in inl same
null-fits t false v read = absurd (cc)

pub read-fits : (t : AttrType) (f : Field) (v : Value) → reading t f ≡ Ok v → (v ≡ Null) ⊎ FitsColumn t v
read-fits t (field.Text text) v read = typed-fits t v (read-typed t.base text v read)
read-fits t field.Null v read = null-fits t t.nullable v read

-- what stands in for an attribute can be printed
pub stand-in-fits : (d : Definition) → IsSound d → (v : Verb) (place : ℕ) (column : Column) (fallback : Field) (value : Value)
    → slice_get d.columns place ≡ Some column → StandsIn v column fallback value → (value ≡ Null) ⊎ FitsColumn column.ty value
stand-in-fits d sound verb.Get place column fallback value here is =
    inr (subst (FitsColumn column.ty) (sym is) (default-fits d sound place column here))
stand-in-fits d sound verb.GetOrDefault place column fallback value here is = read-fits column.ty fallback value is
stand-in-fits d sound verb.GetOrNull place column fallback value here is = inl is
stand-in-fits d sound verb.Has place column fallback value here is = absurd is
stand-in-fits d sound verb.Call place column fallback value here is = absurd is
stand-in-fits d sound verb.Hierarchy place column fallback value here is = absurd is
stand-in-fits d sound verb.IsIn place column fallback value here is = absurd is
stand-in-fits d sound verb.Children place column fallback value here is = absurd is
stand-in-fits d sound verb.Descendants place column fallback value here is = absurd is

-- the column of a name at a place
pub named-at : (d : Definition) (name : List ℕ) (place : ℕ) (other column : Column) → IsAttributeNamed d name place other
    → slice_get d.columns place ≡ Some column → IsAttributeNamed d name place column
named-at d name place other column named here =
    subst (λ c. IsAttributeNamed d name place c) (same_Some other column (sym named.here ∙ here)) named

module _ (d : Definition) (q : Asked) where
  -- an attribute is asked for, and there is none of the name
  pub unknown-attribute : IsTrue (asks_attribute q.verb) → ((place : ℕ) (column : Column) → ¬ (IsAttributeNamed d q.attribute place column))
      → IsUnfitting d q fault.UnknownAttribute
  unknown-attribute asks none = IsUnfitting.attribute (λ lacks. not-both q.verb asks lacks.0) (asks, none)

  -- there is one, and the default is none of its values
  pub bad-default : (place : ℕ) (column : Column) (f : LineFault) → IsTrue (asks_attribute q.verb)
      → IsAttributeNamed d q.attribute place column
      → (f ≡ one.Unread → (q.verb ≡ verb.GetOrDefault) × ((v : Value) → reading column.ty q.fallback ≢ Ok v))
      → default_fault f ≢ fault.NoMemory → IsUnfitting d q (default_fault f)
  bad-default place column one.Unread asks named none other =
      let bad = none refl in
      IsUnfitting.default (λ lacks. not-both q.verb asks lacks.0) (λ lacks. lacks.1 place column named) (bad.0, (place, column, named, bad.1))
  bad-default place column one.NoMemory asks named none other = absurd (other refl)

  -- a hierarchy is asked for, and there is one
  pub hierarchy-fits : IsTrue (asks_hierarchy q.verb) → (column : ℕ) → NamesParent d column → IsFitting d q
  hierarchy-fits asks column names = record {
    hierarchy = λ lacks. lacks.1 column names;
    attribute = λ lacks. not-both q.verb lacks.0 asks;
    default = λ bad. not-both q.verb (ap asks_attribute bad.0) asks;
  }

  read-default : IsSound d → (place : ℕ) (column : Column) (value : Value) → IsAttributeNamed d q.attribute place column
      → StandsIn q.verb column q.fallback value → HasBadDefault d q → ⊥
  read-default sound place column value named stands (is, (j, other, known, none)) =
      let given : StandsIn verb.GetOrDefault column q.fallback value = subst (λ v. StandsIn v column q.fallback value) is stands in
      let same : column ≡ other = named-once d sound q.attribute place j column other named known in
      none value (subst (λ (x : Column). reading x.ty q.fallback ≡ Ok value) same given)

  -- an attribute is asked for that is there, with what stands in for it
  pub attribute-fits : IsSound d → IsTrue (asks_attribute q.verb) → (place : ℕ) (column : Column) (value : Value)
      → IsAttributeNamed d q.attribute place column → StandsIn q.verb column q.fallback value → IsFitting d q
  attribute-fits sound asks place column value named stands = record {
    hierarchy = λ lacks. not-both q.verb asks lacks.0;
    attribute = λ lacks. lacks.1 place column named;
    default = λ bad. read-default sound place column value named stands bad;
  }

  -- what isn't an attribute and no hierarchy always fits
  pub has-fits : q.verb ≡ verb.Has → IsFitting d q
  has-fits is = record {
    hierarchy = λ lacks. let no : false ≡ true = sym (ap asks_hierarchy is) ∙ lacks.0 in cc;
    attribute = λ lacks. let no : false ≡ true = sym (ap asks_attribute is) ∙ lacks.0 in cc;
    default = λ bad. let no : verb.Has ≡ verb.GetOrDefault = sym is ∙ bad.0 in cc;
  }

  -- a line has no key
  pub key-refused : (f : LinesFault) → IsFitting d q
      → ((n : ℕ) → f ≡ several.Unread n → IsFirstWithout (HasKey d (asks_hierarchy q.verb)) q.lines n)
      → key_fault f ≢ fault.NoMemory → IsRefusal d q (key_fault f)
  key-refused (several.Unread n) fitting first other = IsRefusal.key fitting (first n refl)
  key-refused several.NoMemory fitting first other = absurd (other refl)
