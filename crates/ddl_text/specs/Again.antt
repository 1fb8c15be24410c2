-- Which items are read again from their canonical text, and what a text is read as.
use Rattle.std.specs.Prelude.{◌≡◌, ◌≤◌, ℕ, false, true, List, Some, slice_get, ⊤}
use Rattle.dict_value.specs.Values.{default_of_column}
use Rattle.dict_schema.specs.declared.definition.CacheSet.{CacheSet}
use Rattle.dict_schema.specs.declared.definition.Column.{Column}
use Rattle.dict_schema.specs.declared.definition.Definition.{Definition}
use Rattle.dict_schema.specs.declared.definition.FunctionDef.{FunctionDef}
use Rattle.dict_schema.specs.declared.definition.Item.{Item}
use Rattle.dict_schema.specs.declared.definition.Item.TheVariants as item
use Rattle.dict_schema.specs.declared.definition.Kind.{Kind}
use Rattle.dict_schema.specs.declared.definition.Kind.TheVariants.{Executable, Pool}
use Rattle.dict_schema.specs.declared.definition.Layout.{Layout}
use Rattle.dict_schema.specs.declared.definition.Layout.TheVariants as layout
use Rattle.dict_schema.specs.declared.definition.Lifetime.{Lifetime}
use Rattle.dict_schema.specs.declared.definition.SourceOf.{SourceOf}
use Rattle.dict_schema.specs.declared.definition.Update.{Update}
use Rattle.dict_schema.specs.declared.definition.Update.TheVariants as update
use Rattle.dict_schema.specs.Parts.{is_attribute}
use Rattle.ddl_tokens.specs.Tokens.{Token, AreTokens}
use Rattle.ddl_clauses.specs.Choices.{has_bare_form, most_short, most_whole}
use Rattle.ddl_text.specs.Files.{IsDefined}

-- ---- items whose text has all that they say

-- The text of a pool alone has a size and a time; reading gives other sources 16 and 10.
abbrev pub TextHasPool : Kind → SourceOf → Type 0
TextHasPool Executable s = (s.pool_size ≡ 16) × (s.execution_s ≡ 10)
TextHasPool Pool s = ⊤

-- The name of an update field is a bare word.
abbrev pub TextHasUpdate : Update → Type 0
TextHasUpdate update.None = ⊤
TextHasUpdate (update.Field name lag) = has_bare_form name ≡ true

pub record TextHasSource (s : SourceOf) : Type 0 where
  pub pool : TextHasPool s.kind s
  pub update : TextHasUpdate s.update

-- No cache answers expired rows, since that isn't read.
abbrev pub TextHasLayout : Layout → Type 0
TextHasLayout (layout.Cache cache) = cache.expired ≡ false
TextHasLayout (layout.ComplexCache cache) = cache.expired ≡ false
TextHasLayout _ = ⊤

-- Keys and the ends of the range have the defaults of their types.
pub record TextHasDefinition (d : Definition) : Type 0 where
  pub defaults : (place : ℕ) (column : Column) → slice_get d.columns place ≡ Some column
      → is_attribute d place ≡ false → column.default ≡ default_of_column column.ty
  pub source : TextHasSource d.source
  pub layout : TextHasLayout d.layout

-- A function has no implicit key.
pub record TextHasFunction (f : FunctionDef) : Type 0 where
  pub source : TextHasSource f.source
  pub implicit : f.source.implicit ≡ false

abbrev pub TextHas : Item → Type 0
TextHas (item.Dictionary d) = TextHasDefinition d
TextHas (item.Function f) = TextHasFunction f

-- ---- items whose numbers are those of their types, of 32 bits or of 64

abbrev pub LagFits : Update → Type 0
LagFits update.None = ⊤
LagFits (update.Field name lag) = lag ≤ most_short

pub record SourceFits (s : SourceOf) : Type 0 where
  pub read : s.read_ms ≤ most_short
  pub write : s.write_ms ≤ most_short
  pub end : s.end_s ≤ most_short
  pub execution : s.execution_s ≤ most_short
  pub lag : LagFits s.update

pub record CacheFits (cache : CacheSet) : Type 0 where
  pub cells : cache.cells ≤ most_whole
  pub queue : cache.queue ≤ most_short

abbrev pub LayoutFits : Layout → Type 0
LayoutFits (layout.Flat initial most) = initial ≤ most_short
LayoutFits (layout.Cache cache) = CacheFits cache
LayoutFits (layout.ComplexCache cache) = CacheFits cache
LayoutFits _ = ⊤

pub record LifetimeFits (l : Lifetime) : Type 0 where
  pub min : l.min ≤ most_short
  pub max : l.max ≤ most_short

pub record DefinitionFits (d : Definition) : Type 0 where
  pub source : SourceFits d.source
  pub layout : LayoutFits d.layout
  pub lifetime : LifetimeFits d.lifetime

abbrev pub NumbersFit : Item → Type 0
NumbersFit (item.Dictionary d) = DefinitionFits d
NumbersFit (item.Function f) = SourceFits f.source

-- ---- texts

-- The text has a reading by the grammar, whose statements stand and make these items.
abbrev pub Defines : List ℕ → List Item → Type 0
Defines text items = (tokens : List Token) × AreTokens text tokens × IsDefined tokens items
