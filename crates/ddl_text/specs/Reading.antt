-- How a statement is read, up to the first fault.
use Rattle.std.specs.Prelude.{ℕ, Bool, true, false, List, codes, drop, Option, Some, None, Ok, if◌then◌else◌}
use Rattle.dict_schema.specs.declared.definition.Column.{Column}
use Rattle.ddl_tokens.specs.Tokens.{Token}
use Rattle.ddl_tokens.specs.Reading.{◌>>=◌, Read, bytes_ahead, bytes_at, is_keyword, is_name, is_the_sign, keyword_at}
use Rattle.ddl_tokens.specs.Reading.{kind_ahead, of_kind, passes, place_ahead, sign_at, unexpected}
use Rattle.ddl_columns.specs.Reading.{arguments_at, column_list_at, key_at, type_at}
use Rattle.ddl_clauses.specs.Reading.{dictionary_clauses_at, function_clauses_at}
use Rattle.ddl_text.specs.declared.statement.Statement.{Statement}
use Rattle.ddl_text.specs.declared.statement.WrittenName.{WrittenName}
use Rattle.ddl_text.specs.Grammar.{is_last_token}
use Rattle.ddl_text.specs.Statements.{dictionary, function, pointed}

-- ---- names

unfoldable pub behind_point_at : List Token → Read (Option (List ℕ))
behind_point_at ts =
    if passes (is_the_sign 46) ts
    then (sign_at 46 ts >>= λ s. bytes_at is_name s.1) >>= (λ word. Ok (Some word.0, word.1))
    else Ok (None, ts)

unfoldable pub name_behind_at : List ℕ → List Token → Read WrittenName
name_behind_at first ts = behind_point_at ts >>= λ second. Ok (pointed first second.0, second.1)

unfoldable pub name_at : List Token → Read WrittenName
name_at ts = bytes_at is_name ts >>= λ first. name_behind_at first.0 first.1

unfoldable pub not_exists_at : List Token → Read WrittenName
not_exists_at ts = do
  not ← keyword_at (codes "NOT") ts
  exists ← keyword_at (codes "EXISTS") not.1
  name_at exists.1

-- a word, and whether it is IF without quotes
unfoldable pub first_word_at : List Token → Read (Bool × List ℕ)
first_word_at ts =
    if passes (of_kind is_name) ts then Ok ((passes (is_keyword (codes "IF")) ts, bytes_ahead ts), drop 1 ts)
    else unexpected ts

-- what stands behind it
unfoldable pub behind_word_at : Bool → List ℕ → List Token → Read WrittenName
behind_word_at is_if word ts =
    if is_if then (if passes (is_keyword (codes "NOT")) ts then not_exists_at ts else name_behind_at word ts)
    else name_behind_at word ts

-- the bracket of the columns follows
unfoldable pub bracket_ahead_at : List Token → Read (Unit {0})
bracket_ahead_at ts = if passes (is_the_sign 40) ts then Ok (tt, ts) else unexpected ts

unfoldable pub written_name_at : List Token → Read WrittenName
written_name_at ts = do
  word ← first_word_at ts
  name ← behind_word_at word.0.0 word.0.1 word.1
  bracket ← bracket_ahead_at name.1
  Ok (name.0, bracket.1)

-- ---- statements

-- a keyword, and its place
unfoldable pub begin_at : List ℕ → List Token → Read ℕ
begin_at word ts = if passes (is_keyword word) ts then Ok (place_ahead ts, drop 1 ts) else unexpected ts

unfoldable pub or_replace_at : List Token → Read (Option (Unit {0}))
or_replace_at ts =
    if passes (is_keyword (codes "OR")) ts
    then (keyword_at (codes "OR") ts >>= λ k. keyword_at (codes "REPLACE") k.1)
    >>= (λ found. Ok (Some found.0, found.1))
    else Ok (None, ts)

-- the text ends
unfoldable pub text_end_at : List Token → Read (Unit {0})
text_end_at ts = if is_last_token (kind_ahead ts) then Ok (tt, ts) else unexpected ts

-- whether a semicolon ends the statement, or else the text's end does
unfoldable pub ending_at : List Token → Read Bool
ending_at ts =
    if passes (is_the_sign 59) ts then sign_at 59 ts >>= (λ s. Ok (true, s.1))
    else text_end_at ts >>= (λ e. Ok (false, e.1))

-- what stands behind the columns of a dictionary
unfoldable pub behind_columns_at : ℕ → WrittenName → List Column → List Token → Read Statement
behind_columns_at place name columns ts = do
  keys ← key_at ts
  parts ← dictionary_clauses_at keys.1
  ended ← ending_at parts.1
  Ok (dictionary place name columns keys.0 parts.0 ended.0, ended.1)

unfoldable pub dictionary_at : List Token → Read Statement
dictionary_at ts = do
  place ← begin_at (codes "CREATE") ts
  replace ← or_replace_at place.1
  word ← keyword_at (codes "DICTIONARY") replace.1
  name ← written_name_at word.1
  columns ← column_list_at name.1
  behind_columns_at place.0 name.0 columns.0 columns.1

unfoldable pub function_at : List Token → Read Statement
function_at ts = do
  place ← begin_at (codes "EXECUTABLE") ts
  word ← keyword_at (codes "FUNCTION") place.1
  name ← bytes_at is_name word.1
  arguments ← arguments_at name.1
  returns ← keyword_at (codes "RETURNS") arguments.1
  type ← type_at returns.1
  parts ← function_clauses_at type.1
  ended ← ending_at parts.1
  Ok (function place.0 name.0 arguments.0 type.0 parts.0 ended.0, ended.1)

unfoldable pub statement_at : List Token → Read Statement
statement_at ts = if passes (is_keyword (codes "CREATE")) ts then dictionary_at ts else function_at ts
