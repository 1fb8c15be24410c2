-- How the parts are read, up to the first fault; a Decimal out of range is one where its bracket closes.
use Rattle.std.specs.Prelude.{ℕ, List, [], codes, drop, Option, Some, None, Result, Ok, Err, if◌then◌else◌}
use Rattle.ddl_tokens.specs.declared.fault.SyntaxFault.{SyntaxFault}
use Rattle.ddl_tokens.specs.declared.fault.SyntaxFault.TheVariants.{Unexpected, Unsupported}
use Rattle.ddl_tokens.specs.declared.fault.ReadFault.{ReadFault}
use Rattle.ddl_tokens.specs.declared.fault.ReadFault.TheVariants as fault
use Rattle.dict_value.specs.declared.value.AttrType.{AttrType}
use Rattle.dict_value.specs.declared.value.ColType.{ColType}
use Rattle.dict_value.specs.declared.value.ColType.TheVariants as type
use Rattle.dict_value.specs.declared.value.Field.{Field}
use Rattle.dict_value.specs.declared.value.Field.TheVariants as field
use Rattle.dict_value.specs.Numbers.{unsigned_of}
use Rattle.dict_schema.specs.declared.definition.Arg.{Arg}
use Rattle.dict_schema.specs.declared.definition.Column.{Column}
use Rattle.ddl_tokens.specs.Tokens.{Token}
use Rattle.ddl_tokens.specs.Reading.{◌>>=◌, Read, passes, is_keyword, is_name}
use Rattle.ddl_tokens.specs.Reading.{is_the_sign, bytes_at, keyword_at, sign_at}
use Rattle.ddl_tokens.specs.Reading.{bytes_ahead, is_number, is_string, of_kind, place_ahead, unexpected}
use Rattle.ddl_tokens.specs.Lists.{Kind, Step, next_once, repeat, separated_at}
use Rattle.ddl_tokens.specs.Verdicts.{told}
use Rattle.ddl_columns.specs.declared.marks.Mark.{Mark}
use Rattle.ddl_columns.specs.declared.marks.Mark.TheVariants as mark
use Rattle.ddl_columns.specs.declared.types.BaseName.{BaseName}
use Rattle.ddl_columns.specs.declared.types.BaseName.TheVariants as base
use Rattle.ddl_columns.specs.declared.types.TypeName.{TypeName}
use Rattle.ddl_columns.specs.declared.types.TypeName.TheVariants as name
use Rattle.ddl_columns.specs.Types.{decimal, listed, not_null, not_nullable, nullable}
use Rattle.ddl_columns.specs.Types.{or_none, reads, type_named, whole_of}
use Rattle.ddl_columns.specs.Marks.{mark_number, mark_of, wanted_marks, word_of}
use Rattle.ddl_columns.specs.Grammar.{argument, column}

-- ---- one token

-- a whole number
unfoldable pub whole_at : List Token → Read ℕ
whole_at ts = do
  text ← bytes_at is_number ts
  number ← whole_of (place_ahead ts) (unsigned_of 64 text.0)
  Ok (number, text.1)

-- the name of a type, and its place
unfoldable pub named_at : List Token → Read (TypeName × ℕ)
named_at ts =
    if passes (of_kind is_name) ts
    then listed (place_ahead ts) (type_named (bytes_ahead ts)) >>= (λ n. Ok (n, drop 1 ts))
    else unexpected ts

-- the same, but for Nullable
unfoldable pub base_named_at : List Token → Read (BaseName × ℕ)
base_named_at ts = do
  named ← named_at ts
  base ← not_nullable named.0
  Ok (base, named.1)

-- the string 'UTC'
unfoldable pub zone_at : List Token → Read (Unit {0})
zone_at ts =
    if passes (of_kind is_string) ts
    then (if reads (codes "UTC") (bytes_ahead ts) then Ok (tt, drop 1 ts) else Err (Unsupported (place_ahead ts)))
    else if passes (of_kind is_name) ts then Err (Unsupported (place_ahead ts))
    else if passes (of_kind is_number) ts then Err (Unsupported (place_ahead ts))
    else unexpected ts

-- the literal of a DEFAULT
unfoldable pub literal_at : List Token → Read Field
literal_at ts =
    if passes (of_kind is_string) ts then bytes_at is_string ts >>= (λ x. Ok (field.Text x.0, x.1))
    else if passes (is_keyword (codes "NULL")) ts then keyword_at (codes "NULL") ts >>= (λ x. Ok (field.Null, x.1))
    else bytes_at is_number ts >>= (λ x. Ok (field.Text x.0, x.1))

-- what a call answers that reads no further
abbrev pub as_answer : {A : Type 0} → Result A SyntaxFault → Result A ReadFault
as_answer (Ok a) = Ok a
as_answer (Err e) = Err (fault.Syntax e)

-- ---- types

-- no bracket follows
unfoldable pub ended_at : List Token → Read (Unit {0})
ended_at ts = if passes (is_the_sign 40) ts then unexpected ts else Ok (tt, ts)

unfoldable pub zone_in_brackets_at : List Token → Read (Option (Unit {0}))
zone_in_brackets_at ts =
    if passes (is_the_sign 40) ts
    then (sign_at 40 ts >>= λ b. zone_at b.1 >>= λ z. sign_at 41 z.1) >>= (λ x. Ok (Some x.0, x.1))
    else Ok (None, ts)

unfoldable pub date_time_at : List Token → Read ColType
date_time_at ts = do
  zone ← zone_in_brackets_at ts
  end ← ended_at zone.1
  Ok (type.DateTime, end.1)

unfoldable pub scale_at : List Token → Read (Option ℕ)
scale_at ts =
    if passes (is_the_sign 44) ts
    then (sign_at 44 ts >>= λ s. whole_at s.1) >>= (λ n. Ok (Some n.0, n.1))
    else Ok (None, ts)

unfoldable pub decimal_at : ℕ → List Token → Read ColType
decimal_at place ts = do
  begin ← sign_at 40 ts
  digits ← whole_at begin.1
  scale ← scale_at digits.1
  close ← sign_at 41 scale.1
  told (decimal place digits.0 (or_none scale.0)) close.1

unfoldable pub digits_at : ℕ → ℕ → List Token → Read ColType
digits_at place digits ts = do
  begin ← sign_at 40 ts
  scale ← whole_at begin.1
  close ← sign_at 41 scale.1
  told (decimal place digits scale.0) close.1

unfoldable pub base_behind : BaseName → ℕ → List Token → Read ColType
base_behind (base.Plain t) place ts = ended_at ts >>= λ e. Ok (t, e.1)
base_behind base.DateTime place ts = date_time_at ts
base_behind base.Decimal place ts = decimal_at place ts >>= λ t. ended_at t.1 >>= λ e. Ok (t.0, e.1)
base_behind (base.Digits digits) place ts = digits_at place digits ts >>= λ t. ended_at t.1 >>= λ e. Ok (t.0, e.1)

unfoldable pub base_at : List Token → Read ColType
base_at ts = base_named_at ts >>= λ n. base_behind n.0.0 n.0.1 n.1

unfoldable pub nullable_at : List Token → Read AttrType
nullable_at ts = do
  begin ← sign_at 40 ts
  base ← base_at begin.1
  close ← sign_at 41 base.1
  end ← ended_at close.1
  Ok (nullable base.0, end.1)

unfoldable pub type_behind : TypeName → ℕ → List Token → Read AttrType
type_behind name.Nullable place ts = nullable_at ts
type_behind (name.Base b) place ts = base_behind b place ts >>= λ t. Ok (not_null t.0, t.1)

unfoldable pub type_at : List Token → Read AttrType
type_at ts = named_at ts >>= λ n. type_behind n.0.0 n.0.1 n.1

-- ---- columns

unfoldable pub default_at : List Token → Read (Option Field)
default_at ts =
    if passes (is_keyword (codes "DEFAULT")) ts
    then (keyword_at (codes "DEFAULT") ts >>= λ k. literal_at k.1) >>= (λ x. Ok (Some x.0, x.1))
    else Ok (None, ts)

unfoldable pub mark_at : Mark → List Token → Read Mark
mark_at mark ts = keyword_at (word_of mark) ts >>= λ k. Ok (mark, k.1)

-- the mark that the token in hand begins
unfoldable pub mark_ahead : List Token → Kind Mark
mark_ahead ts =
    if passes (is_keyword (codes "HIERARCHICAL")) ts then Ok (Some mark.Hierarchical)
    else if passes (is_keyword (codes "IS_OBJECT_ID")) ts then Ok (Some mark.ObjectId)
    else if passes (is_keyword (codes "INJECTIVE")) ts then Ok (Some mark.Injective)
    else if passes (is_keyword (codes "EXPRESSION")) ts then Err (Unsupported (place_ahead ts))
    else if passes (is_keyword (codes "DEFAULT")) ts then Err (Unexpected (place_ahead ts))
    else if passes (is_the_sign 40) ts then Err (Unexpected (place_ahead ts))
    else Ok None

unfoldable pub next_mark : Step (List Mark)
next_mark before ts = next_once mark_of mark_at mark_number mark_number wanted_marks before ts

unfoldable pub column_at : List Token → Read Column
column_at ts = do
  name ← bytes_at is_name ts
  type ← type_at name.1
  default ← default_at type.1
  marks ← repeat next_mark [] default.1
  Ok (column name.0 type.0 default.0 marks.0, marks.1)

unfoldable pub column_list_at : List Token → Read (List Column)
column_list_at ts = do
  begin ← sign_at 40 ts
  columns ← separated_at 44 column_at begin.1
  close ← sign_at 41 columns.1
  Ok (columns.0, close.1)

-- ---- keys

unfoldable pub names_at : List Token → Read (List (List ℕ))
names_at ts = separated_at 44 (bytes_at is_name) ts

-- no other name follows
unfoldable pub last_at : List Token → Read (Unit {0})
last_at ts = if passes (is_the_sign 44) ts then unexpected ts else Ok (tt, ts)

unfoldable pub in_brackets_at : List Token → Read (List (List ℕ))
in_brackets_at ts = do
  begin ← sign_at 40 ts
  names ← names_at begin.1
  close ← sign_at 41 names.1
  last ← last_at close.1
  Ok (names.0, last.1)

unfoldable pub key_names_at : List Token → Read (List (List ℕ))
key_names_at ts = if passes (is_the_sign 40) ts then in_brackets_at ts else names_at ts

unfoldable pub key_at : List Token → Read (List (List ℕ))
key_at ts = do
  primary ← keyword_at (codes "PRIMARY") ts
  key ← keyword_at (codes "KEY") primary.1
  key_names_at key.1

-- ---- arguments

unfoldable pub argument_at : List Token → Read Arg
argument_at ts = do
  name ← bytes_at is_name ts
  type ← type_at name.1
  Ok (argument name.0 type.0, type.1)

unfoldable pub some_arguments_at : List Token → Read (List Arg)
some_arguments_at ts = do
  arguments ← separated_at 44 argument_at ts
  close ← sign_at 41 arguments.1
  Ok (arguments.0, close.1)

unfoldable pub closed_arguments_at : List Token → Read (List Arg)
closed_arguments_at ts =
    if passes (is_the_sign 41) ts then sign_at 41 ts >>= (λ c. Ok ([], c.1)) else some_arguments_at ts

unfoldable pub arguments_at : List Token → Read (List Arg)
arguments_at ts = sign_at 40 ts >>= λ b. closed_arguments_at b.1
