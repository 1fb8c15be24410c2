-- What written clauses say of a definition.
use Rattle.std.specs.Prelude.{ℕ, ◌==◌, min, Bool, true, false, List, [], ◌∷◌, Option, Some, None, if◌then◌else◌}
use Rattle.dict_value.specs.declared.value.Format.{Format}
use Rattle.dict_value.specs.declared.value.Format.TheVariants.{Tab}
use Rattle.dict_schema.specs.declared.definition.CacheSet.{CacheSet}
use Rattle.dict_schema.specs.declared.definition.Kind.TheVariants.{Executable}
use Rattle.dict_schema.specs.declared.definition.Layout.{Layout}
use Rattle.dict_schema.specs.declared.definition.Layout.TheVariants as layout
use Rattle.dict_schema.specs.declared.definition.Lifetime.{Lifetime}
use Rattle.dict_schema.specs.declared.definition.SourceOf.{SourceOf}
use Rattle.dict_schema.specs.declared.definition.Strategy.{Strategy}
use Rattle.dict_schema.specs.declared.definition.Strategy.TheVariants.{Min}
use Rattle.dict_schema.specs.declared.definition.Update.{Update}
use Rattle.dict_schema.specs.declared.definition.Update.TheVariants as update
use Rattle.ddl_clauses.specs.declared.clause.Clause.{Clause}
use Rattle.ddl_clauses.specs.declared.clause.Clause.TheVariants as clause
use Rattle.ddl_clauses.specs.declared.clause.ClauseKind.{ClauseKind}
use Rattle.ddl_clauses.specs.declared.clause.ClauseKind.TheVariants as kind
use Rattle.ddl_clauses.specs.declared.clause.RangeNames.{RangeNames}
use Rattle.ddl_clauses.specs.declared.clause.WrittenLayout.{WrittenLayout}
use Rattle.ddl_clauses.specs.declared.clause.WrittenSource.{WrittenSource}
use Rattle.ddl_clauses.specs.declared.layouts.LayoutName.{LayoutName}
use Rattle.ddl_clauses.specs.declared.layouts.LayoutName.TheVariants as layout_name
use Rattle.ddl_clauses.specs.declared.parts.DictionaryParts.{DictionaryParts}
use Rattle.ddl_clauses.specs.declared.parts.FunctionParts.{FunctionParts}
use Rattle.ddl_clauses.specs.declared.parts.Sizes.{Sizes}
use Rattle.ddl_clauses.specs.declared.settings.Owner.{Owner}
use Rattle.ddl_clauses.specs.declared.settings.Owner.TheVariants.{Dictionary, Function}
use Rattle.ddl_clauses.specs.declared.settings.Setting.{Setting}
use Rattle.ddl_clauses.specs.declared.settings.SettingName.{SettingName}
use Rattle.ddl_clauses.specs.declared.settings.SettingName.TheVariants as name
use Rattle.ddl_clauses.specs.declared.settings.SettingValue.{SettingValue}
use Rattle.ddl_clauses.specs.declared.settings.SettingValue.TheVariants as value
use Rattle.ddl_clauses.specs.Settings.{setting_number}
use Rattle.ddl_clauses.specs.Choices.{most_short}
use Rattle.ddl_clauses.specs.Clauses.{WrittenFunction, lifetime, source, layout as written_layout, clause_number}
use Rattle.ddl_clauses.specs.Clauses.{number_of_clause}

-- ---- the value of a setting, or its default

unfoldable pub value_of_setting : SettingName → List Setting → Option SettingValue
value_of_setting name [] = None
value_of_setting name (setting ∷ others) =
    if setting_number setting.name == setting_number name then Some setting.value else value_of_setting name others

abbrev pub text_or_none : Option SettingValue → List ℕ
text_or_none (Some (value.Text text)) = text
text_or_none _ = []

abbrev pub format_or_tab : Option SettingValue → Format
format_or_tab (Some (value.Format format)) = format
format_or_tab _ = Tab

abbrev pub flag_or : Bool → Option SettingValue → Bool
flag_or default (Some (value.Flag flag)) = flag
flag_or default _ = default

abbrev pub whole_or : ℕ → Option SettingValue → ℕ
whole_or default (Some (value.Whole n)) = n
whole_or default _ = default

abbrev pub short_or : ℕ → Option SettingValue → ℕ
short_or default (Some (value.Short n)) = n
short_or default _ = default

abbrev pub strategy_or_min : Option SettingValue → Strategy
strategy_or_min (Some (value.Strategy strategy)) = strategy
strategy_or_min _ = Min

abbrev pub update_with_lag : ℕ → Option SettingValue → Update
update_with_lag lag (Some (value.Text name)) = update.Field name lag
update_with_lag lag _ = update.None

-- a number of which 32 bits are kept: a greater one is kept as the greatest
abbrev pub kept_short : ℕ → ℕ
kept_short n = min n most_short

-- ---- sources

-- the settings of a pool, of a source of one child for each run too
abbrev pub pool_size_in : List Setting → ℕ
pool_size_in settings = whole_or 16 (value_of_setting name.PoolSize settings)

-- what a function's source has, and a dictionary's hasn't
abbrev pub is_run_directly : Owner → Bool
is_run_directly Dictionary = false
is_run_directly Function = true

-- a source with its defaults; the command and the format are always there
abbrev pub source_with : Owner → WrittenSource → SourceOf
source_with owner written =
    let settings = written.settings in
    record {
      kind = written.kind;
      command = text_or_none (value_of_setting name.Command settings);
      format = format_or_tab (value_of_setting name.Format settings);
      direct = flag_or (is_run_directly owner) (value_of_setting name.ExecuteDirect settings);
      implicit = flag_or false (value_of_setting name.ImplicitKey settings);
      header = flag_or false (value_of_setting name.SendChunkHeader settings);
      read_ms = short_or 10000 (value_of_setting name.ReadTimeout settings);
      write_ms = short_or 10000 (value_of_setting name.WriteTimeout settings);
      end_s = short_or 10 (value_of_setting name.TerminationTimeout settings);
      pool_size = kept_short (pool_size_in settings);
      execution_s = short_or 10 (value_of_setting name.ExecutionTime settings);
      update =
          update_with_lag (short_or 1 (value_of_setting name.UpdateLag settings))
          (value_of_setting name.UpdateField settings);
    }

-- ---- layouts

abbrev pub array_size_in : List Setting → ℕ
array_size_in settings = whole_or 500000 (value_of_setting name.MaxArraySize settings)

abbrev pub cache_with : List Setting → CacheSet
cache_with settings = record {
  cells = whole_or 0 (value_of_setting name.SizeInCells settings);
  expired = flag_or false (value_of_setting name.ReadExpired settings);
  queue = short_or 100000 (value_of_setting name.UpdateQueue settings);
}

-- a layout with its defaults; the cells of a cache are always there
abbrev pub layout_with : LayoutName → List Setting → Layout
layout_with layout_name.Flat settings =
    layout.Flat (short_or 1024 (value_of_setting name.InitialArraySize settings)) (kept_short (array_size_in settings))
layout_with layout_name.Hashed settings = layout.Hashed
layout_with layout_name.SparseHashed settings = layout.SparseHashed
layout_with layout_name.HashedArray settings = layout.HashedArray
layout_with layout_name.ComplexHashed settings = layout.ComplexHashed
layout_with layout_name.ComplexSparseHashed settings = layout.ComplexSparseHashed
layout_with layout_name.ComplexHashedArray settings = layout.ComplexHashedArray
layout_with layout_name.RangeHashed settings =
    layout.RangeHashed (strategy_or_min (value_of_setting name.RangeStrategy settings))
layout_with layout_name.ComplexRangeHashed settings =
    layout.ComplexRangeHashed (strategy_or_min (value_of_setting name.RangeStrategy settings))
layout_with layout_name.IpTrie settings = layout.IpTrie
layout_with layout_name.Cache settings = layout.Cache (cache_with settings)
layout_with layout_name.ComplexCache settings = layout.ComplexCache (cache_with settings)
layout_with layout_name.Direct settings = layout.Direct
layout_with layout_name.ComplexDirect settings = layout.ComplexDirect

-- ---- a dictionary's clauses

-- the clause of a kind
unfoldable pub clause_of_kind : ClauseKind → List Clause → Option Clause
clause_of_kind k [] = None
clause_of_kind k (clause ∷ others) =
    if number_of_clause clause == clause_number k then Some clause else clause_of_kind k others

-- SOURCE and LAYOUT are always there
abbrev pub written_source_in : Option Clause → WrittenSource
written_source_in (Some (clause.Source written)) = written
written_source_in _ = source Executable []

abbrev pub written_layout_in : Option Clause → WrittenLayout
written_layout_in (Some (clause.Layout written)) = written
written_layout_in _ = written_layout layout_name.Flat []

abbrev pub lifetime_in : Option Clause → Lifetime
lifetime_in (Some (clause.Lifetime lifetime)) = lifetime
lifetime_in _ = lifetime 0 0

abbrev pub range_names_in : Option Clause → Option RangeNames
range_names_in (Some (clause.Range names)) = Some names
range_names_in _ = None

-- the greatest number of bytes of one output: 64 MiB
abbrev pub default_output : ℕ
default_output = 67108864

abbrev pub output_in : Option Clause → ℕ
output_in (Some (clause.Settings output)) = output
output_in _ = default_output

abbrev pub comment_in : Option Clause → List ℕ
comment_in (Some (clause.Comment comment)) = comment
comment_in _ = []

abbrev pub sizes : ℕ → ℕ → ℕ → Sizes
sizes output array_size pool_size = record { output = output; array_size = array_size; pool_size = pool_size }

-- what the clauses of a dictionary say
abbrev pub dictionary_parts : List Clause → DictionaryParts
dictionary_parts clauses =
    let written = written_source_in (clause_of_kind kind.Source clauses) in
    let layout = written_layout_in (clause_of_kind kind.Layout clauses) in
    let output = output_in (clause_of_kind kind.Settings clauses) in
    record {
      source = source_with Dictionary written;
      layout = layout_with layout.name layout.settings;
      lifetime = lifetime_in (clause_of_kind kind.Lifetime clauses);
      range = range_names_in (clause_of_kind kind.Range clauses);
      max_output = kept_short output;
      comment = comment_in (clause_of_kind kind.Comment clauses);
      sizes = sizes output (array_size_in layout.settings) (pool_size_in written.settings);
    }

-- ---- a function's source and settings

abbrev pub output_or_default : Option ℕ → ℕ
output_or_default None = default_output
output_or_default (Some output) = output

-- what they say; a function has no array
abbrev pub function_parts : WrittenFunction → FunctionParts
function_parts written =
    let output = output_or_default written.output in
    record {
      source = source_with Function written.source;
      max_output = kept_short output;
      sizes = sizes output (array_size_in []) (pool_size_in written.source.settings);
    }
