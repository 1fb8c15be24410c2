-- The clauses, as they are written.
use Rattle.std.specs.Prelude.{ℕ, Bool, true, false, List, [], ◌∷◌, codes, map, Option, Some, None, if◌then◌else◌}
use Rattle.dict_schema.specs.declared.definition.Kind.{Kind}
use Rattle.dict_schema.specs.declared.definition.Lifetime.{Lifetime}
use Rattle.ddl_tokens.specs.Tokens.{Token}
use Rattle.ddl_tokens.specs.Reading.{is_keyword}
use Rattle.ddl_clauses.specs.declared.clause.Clause.{Clause}
use Rattle.ddl_clauses.specs.declared.clause.Clause.TheVariants as clause
use Rattle.ddl_clauses.specs.declared.clause.ClauseKind.{ClauseKind}
use Rattle.ddl_clauses.specs.declared.clause.ClauseKind.TheVariants as kind
use Rattle.ddl_clauses.specs.declared.clause.RangeNames.{RangeNames}
use Rattle.ddl_clauses.specs.declared.clause.WrittenLayout.{WrittenLayout}
use Rattle.ddl_clauses.specs.declared.clause.WrittenSource.{WrittenSource}
use Rattle.ddl_clauses.specs.declared.layouts.LayoutName.{LayoutName}
use Rattle.ddl_clauses.specs.declared.settings.Setting.{Setting}

abbrev pub source : Kind → List Setting → WrittenSource
source kind settings = record { kind = kind; settings = settings }

abbrev pub layout : LayoutName → List Setting → WrittenLayout
layout name settings = record { name = name; settings = settings }

abbrev pub lifetime : ℕ → ℕ → Lifetime
lifetime least most = record { min = least; max = most }

abbrev pub range : List ℕ → List ℕ → RangeNames
range start end = record { start = start; end = end }

-- the settings that stand there, or none
abbrev pub or_empty : Option (List Setting) → List Setting
or_empty None = []
or_empty (Some settings) = settings

abbrev pub has_some : {A : Type 0} → List A → Bool
has_some [] = false
has_some (a ∷ others) = true

abbrev pub clause_number : ClauseKind → ℕ
clause_number kind.Source = 0
clause_number kind.Layout = 1
clause_number kind.Lifetime = 2
clause_number kind.Range = 3
clause_number kind.Settings = 4
clause_number kind.Comment = 5

abbrev pub number_of_clause : Clause → ℕ
number_of_clause (clause.Source x) = 0
number_of_clause (clause.Layout x) = 1
number_of_clause (clause.Lifetime x) = 2
number_of_clause (clause.Range x) = 3
number_of_clause (clause.Settings x) = 4
number_of_clause (clause.Comment x) = 5

-- SOURCE and LAYOUT must be there
abbrev pub wanted_clauses : List ℕ
wanted_clauses = map clause_number (kind.Source ∷ kind.Layout ∷ [])

-- the kind of the clause that a token begins
abbrev pub begun_clause : Token → Option ClauseKind
begun_clause t =
    if is_keyword (codes "SOURCE") t then Some kind.Source
    else if is_keyword (codes "LAYOUT") t then Some kind.Layout
    else if is_keyword (codes "LIFETIME") t then Some kind.Lifetime
    else if is_keyword (codes "RANGE") t then Some kind.Range
    else if is_keyword (codes "SETTINGS") t then Some kind.Settings
    else if is_keyword (codes "COMMENT") t then Some kind.Comment
    else None

-- the source of a function, and the bound on its output, where it stands there
pub record WrittenFunction : Type 0 where
  pub source : WrittenSource
  pub output : Option ℕ

abbrev pub written_function : WrittenSource → Option ℕ → WrittenFunction
written_function source output = record { source = source; output = output }
