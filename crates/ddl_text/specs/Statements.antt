-- Statements, put together from their parts.
use Rattle.std.specs.Prelude.{ℕ, Bool, List, Option}
use Rattle.dict_value.specs.declared.value.AttrType.{AttrType}
use Rattle.dict_schema.specs.declared.definition.Arg.{Arg}
use Rattle.dict_schema.specs.declared.definition.Column.{Column}
use Rattle.ddl_clauses.specs.declared.parts.DictionaryParts.{DictionaryParts}
use Rattle.ddl_clauses.specs.declared.parts.FunctionParts.{FunctionParts}
use Rattle.ddl_text.specs.declared.statement.Statement.{Statement}
use Rattle.ddl_text.specs.declared.statement.Written.TheVariants as written
use Rattle.ddl_text.specs.declared.statement.WrittenName.{WrittenName}

-- a name, with the word behind its point where there is one
abbrev pub pointed : List ℕ → Option (List ℕ) → WrittenName
pointed first second = record { first = first; second = second }

-- whether a semicolon stands behind it comes last
abbrev pub dictionary : ℕ → WrittenName → List Column → List (List ℕ) → DictionaryParts → Bool → Statement
dictionary place name columns keys parts ended = record {
  place = place;
  written = written.Dictionary (record { name = name; columns = columns; keys = keys; parts = parts });
  ended = ended;
}

abbrev pub function : ℕ → List ℕ → List Arg → AttrType → FunctionParts → Bool → Statement
function place name arguments returns parts ended = record {
  place = place;
  written = written.Function (record { name = name; arguments = arguments; returns = returns; parts = parts });
  ended = ended;
}
