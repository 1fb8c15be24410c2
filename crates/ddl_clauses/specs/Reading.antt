-- The clauses, as they are read.
use Rattle.std.specs.Prelude.{ℕ, List, [], codes, Option, Some, None, Ok, if◌then◌else◌}
use Rattle.dict_schema.specs.declared.definition.Lifetime.{Lifetime}
use Rattle.ddl_tokens.specs.declared.fault.SyntaxFault.TheVariants.{UnknownSetting, Unsupported}
use Rattle.ddl_tokens.specs.Tokens.{Token}
use Rattle.ddl_tokens.specs.Reading.{◌>>=◌, Read, passes, of_kind, is_keyword, is_name, is_number, is_string}
use Rattle.ddl_tokens.specs.Reading.{is_the_sign}
use Rattle.ddl_tokens.specs.Reading.{keyword_at, sign_at, bytes_at}
use Rattle.ddl_tokens.specs.Lists.{Step, once_of, repeat}
use Rattle.ddl_clauses.specs.declared.clause.Clause.{Clause}
use Rattle.ddl_clauses.specs.declared.clause.Clause.TheVariants as clause
use Rattle.ddl_clauses.specs.declared.clause.ClauseKind.{ClauseKind}
use Rattle.ddl_clauses.specs.declared.clause.ClauseKind.TheVariants as kind
use Rattle.ddl_clauses.specs.declared.clause.RangeNames.{RangeNames}
use Rattle.ddl_clauses.specs.declared.clause.WrittenLayout.{WrittenLayout}
use Rattle.ddl_clauses.specs.declared.clause.WrittenSource.{WrittenSource}
use Rattle.ddl_clauses.specs.declared.parts.DictionaryParts.{DictionaryParts}
use Rattle.ddl_clauses.specs.declared.parts.FunctionParts.{FunctionParts}
use Rattle.ddl_clauses.specs.declared.settings.Owner.{Owner}
use Rattle.ddl_clauses.specs.declared.settings.Owner.TheVariants.{Dictionary, Function}
use Rattle.ddl_clauses.specs.declared.settings.Section.{Section}
use Rattle.ddl_clauses.specs.declared.settings.Setting.{Setting}
use Rattle.ddl_clauses.specs.Settings.{source_section, wanted_settings}
use Rattle.ddl_clauses.specs.Choices.{chosen_at, meant_by, source_kind_in, whole_up_to_at, most_whole, most_short, word_in}
use Rattle.ddl_clauses.specs.Layouts.{all_layouts, layout_named, layout_section}
use Rattle.ddl_clauses.specs.SettingLists.{settings_in_brackets_at}
use Rattle.ddl_clauses.specs.Clauses.{source, layout, lifetime, range, clause_number, number_of_clause}
use Rattle.ddl_clauses.specs.Clauses.{wanted_clauses, or_empty, has_some, WrittenFunction, written_function}
use Rattle.ddl_clauses.specs.Parts.{dictionary_parts, function_parts}

unfoldable pub short_at : List Token → Read ℕ
short_at ts = whole_up_to_at most_short ts

-- SOURCE ( kind ( settings ) )
unfoldable pub source_at : Owner → List Token → Read WrittenSource
source_at owner ts = do
  word ← keyword_at (codes "SOURCE") ts
  begin ← sign_at 40 word.1
  kind ← chosen_at is_name (meant_by Unsupported source_kind_in) begin.1
  settings ← settings_in_brackets_at (source_section owner kind.0) kind.1
  end ← sign_at 41 settings.1
  Ok (source kind.0 settings.0, end.1)

-- settings in brackets, which may be left out where none is wanted
unfoldable pub layout_settings_at : Section → List Token → Read (Option (List Setting))
layout_settings_at section ts =
    if has_some (wanted_settings section) then settings_in_brackets_at section ts >>= (λ x. Ok (Some x.0, x.1))
    else if passes (is_the_sign 40) ts then settings_in_brackets_at section ts >>= (λ x. Ok (Some x.0, x.1))
    else Ok (None, ts)

-- LAYOUT ( name [ ( settings ) ] )
unfoldable pub layout_at : List Token → Read WrittenLayout
layout_at ts = do
  word ← keyword_at (codes "LAYOUT") ts
  begin ← sign_at 40 word.1
  name ← chosen_at is_name (meant_by Unsupported (layout_named all_layouts)) begin.1
  settings ← layout_settings_at (layout_section name.0) name.1
  end ← sign_at 41 settings.1
  Ok (layout name.0 (or_empty settings.0), end.1)

-- MIN number MAX number
unfoldable pub min_max_at : List Token → Read Lifetime
min_max_at ts = do
  word ← keyword_at (codes "MIN") ts
  least ← short_at word.1
  other ← keyword_at (codes "MAX") least.1
  most ← short_at other.1
  Ok (lifetime least.0 most.0, most.1)

-- MAX number MIN number
unfoldable pub max_min_at : List Token → Read Lifetime
max_min_at ts = do
  word ← keyword_at (codes "MAX") ts
  most ← short_at word.1
  other ← keyword_at (codes "MIN") most.1
  least ← short_at other.1
  Ok (lifetime least.0 most.0, least.1)

-- one number, or both in either order
unfoldable pub bounds_at : List Token → Read Lifetime
bounds_at ts =
    if passes (of_kind is_number) ts then short_at ts >>= (λ n. Ok (lifetime n.0 n.0, n.1))
    else if passes (is_keyword (codes "MIN")) ts then min_max_at ts
    else max_min_at ts

-- LIFETIME ( bounds )
unfoldable pub lifetime_at : List Token → Read Lifetime
lifetime_at ts = do
  word ← keyword_at (codes "LIFETIME") ts
  begin ← sign_at 40 word.1
  bounds ← bounds_at begin.1
  end ← sign_at 41 bounds.1
  Ok (bounds.0, end.1)

-- RANGE ( MIN name MAX name )
unfoldable pub range_at : List Token → Read RangeNames
range_at ts = do
  word ← keyword_at (codes "RANGE") ts
  begin ← sign_at 40 word.1
  min ← keyword_at (codes "MIN") begin.1
  start ← bytes_at is_name min.1
  max ← keyword_at (codes "MAX") start.1
  last ← bytes_at is_name max.1
  end ← sign_at 41 last.1
  Ok (range start.0 last.0, end.1)

-- SETTINGS ( max_output_bytes = number )
unfoldable pub output_settings_at : List Token → Read ℕ
output_settings_at ts = do
  word ← keyword_at (codes "SETTINGS") ts
  begin ← sign_at 40 word.1
  name ← chosen_at is_name (meant_by UnknownSetting (word_in (codes "max_output_bytes"))) begin.1
  equal ← sign_at 61 name.1
  output ← whole_up_to_at most_whole equal.1
  end ← sign_at 41 output.1
  Ok (output.0, end.1)

-- COMMENT string
unfoldable pub comment_clause_at : List Token → Read (List ℕ)
comment_clause_at ts = do
  word ← keyword_at (codes "COMMENT") ts
  comment ← bytes_at is_string word.1
  Ok (comment.0, comment.1)

-- a clause of a dictionary, by its kind
unfoldable pub dictionary_clause_at : ClauseKind → List Token → Read Clause
dictionary_clause_at kind.Source ts = source_at Dictionary ts >>= λ x. Ok (clause.Source x.0, x.1)
dictionary_clause_at kind.Layout ts = layout_at ts >>= λ x. Ok (clause.Layout x.0, x.1)
dictionary_clause_at kind.Lifetime ts = lifetime_at ts >>= λ x. Ok (clause.Lifetime x.0, x.1)
dictionary_clause_at kind.Range ts = range_at ts >>= λ x. Ok (clause.Range x.0, x.1)
dictionary_clause_at kind.Settings ts = output_settings_at ts >>= λ x. Ok (clause.Settings x.0, x.1)
dictionary_clause_at kind.Comment ts = comment_clause_at ts >>= λ x. Ok (clause.Comment x.0, x.1)

-- the kind of the clause that the token in hand begins
unfoldable pub clause_kind_ahead : List Token → Option ClauseKind
clause_kind_ahead ts =
    if passes (is_keyword (codes "SOURCE")) ts then Some kind.Source
    else if passes (is_keyword (codes "LAYOUT")) ts then Some kind.Layout
    else if passes (is_keyword (codes "LIFETIME")) ts then Some kind.Lifetime
    else if passes (is_keyword (codes "RANGE")) ts then Some kind.Range
    else if passes (is_keyword (codes "SETTINGS")) ts then Some kind.Settings
    else if passes (is_keyword (codes "COMMENT")) ts then Some kind.Comment
    else None

unfoldable pub next_dictionary_clause : Step (List Clause)
next_dictionary_clause before ts =
    once_of dictionary_clause_at clause_number number_of_clause wanted_clauses before ts (clause_kind_ahead ts)

-- the clauses of a dictionary, and what they say
unfoldable pub dictionary_clauses_at : List Token → Read DictionaryParts
dictionary_clauses_at ts = repeat next_dictionary_clause [] ts >>= λ clauses. Ok (dictionary_parts clauses.0, clauses.1)

-- SETTINGS, where it stands there
unfoldable pub output_if_there_at : List Token → Read (Option ℕ)
output_if_there_at ts =
    if passes (is_keyword (codes "SETTINGS")) ts then output_settings_at ts >>= (λ output. Ok (Some output.0, output.1))
    else Ok (None, ts)

unfoldable pub written_function_at : List Token → Read WrittenFunction
written_function_at ts = do
  source ← source_at Function ts
  output ← output_if_there_at source.1
  Ok (written_function source.0 output.0, output.1)

-- the source of a function and its settings, and what they say
unfoldable pub function_clauses_at : List Token → Read FunctionParts
function_clauses_at ts = written_function_at ts >>= λ written. Ok (function_parts written.0, written.1)
