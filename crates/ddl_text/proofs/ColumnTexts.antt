-- Columns, keys and arguments are written by their grammar.
use Rattle.std.proofs.Common.{◌≡◌, ◌<◌, ◌+◌, ℕ, suc, Bool, true, false, List, [], ◌∷◌, ◌++◌, length, map, Option, Some, None, refl, sym, ap, subst, ◌∙◌, inl, inr, arith, append_assoc}
use Rattle.std.specs.Prelude.{codes, nat_lt, slice_get}
use Rattle.std.specs.List.{AllByRecursion, flat_map, range_with_len}
use Rattle.std.proofs.lemmas.Bool.{cond-true, lt-ltb}
use Rattle.dict_value.specs.declared.value.Field.{Field}
use Rattle.dict_value.specs.Values.{FitsColumn, default_of_column}
use Rattle.dict_schema.specs.declared.definition.Arg.{Arg}
use Rattle.dict_schema.specs.declared.definition.Column.{Column}
use Rattle.dict_schema.specs.declared.definition.Definition.{Definition}
use Rattle.dict_schema.specs.Parts.{is_attribute}
use Rattle.dict_schema.specs.Sound.{IsSoundType}
use Rattle.ddl_tokens.specs.declared.letters.LetterCase.TheVariants.{Any}
use Rattle.ddl_tokens.specs.Tokens.{Token}
use Rattle.ddl_tokens.specs.Reading.{is_name}
use Rattle.ddl_tokens.specs.Laws.{IsBytes, judged}
use Rattle.ddl_tokens.specs.Lists.{AddsOnce, Many, Tail, has_all, has_number}
use Rattle.ddl_tokens.specs.Verdicts.{stands, verdict_map}
use Rattle.ddl_tokens.proofs.Laws.{same_itself}
use Rattle.ddl_columns.specs.declared.marks.Mark.{Mark}
use Rattle.ddl_columns.specs.declared.marks.Mark.TheVariants as mark
use Rattle.ddl_columns.specs.Defaults.{default_given}
use Rattle.ddl_columns.specs.Grammar.{AreArguments, AreColumns, AreMarks, IsArgument, IsColumn, IsColumnMark, IsKey, argument, column}
use Rattle.ddl_columns.specs.Marks.{mark_number, word_of}
use Rattle.ddl_writing.specs.Canonical.{and_then, arguments_text, column_at_text, column_name_text, column_text, default_text, keys_text, listed_column, literal_text, column_mark, marks_text, other_arguments_text, other_keys_text, type_text, typed_text}
use Rattle.ddl_writing.specs.Quoted.{name_text}
use Rattle.ddl_text.proofs.Spelt.{Apart, Writes, apart_blank, apart_close, apart_comma, at_text, blank_first, fit, is_bare, keyword_written, last_of, made_written, no_more, nothing_written, once_more, one_more, separated_written, sign_written, then_written}
use Rattle.ddl_text.proofs.Quoting.{name_at}
use Rattle.ddl_text.proofs.TypeTexts.{literal_of, type_written}

-- ---- names

pub name_written : (name rest : List ℕ) → Apart rest → Writes (name_text name ++ rest) (IsBytes is_name name) rest
name_written name rest apart place = name_at place name rest (judged (λ (t : Token). is_name t.kind) (λ (t : Token). t.bytes)) name apart refl

-- ---- marks

abbrev Marks : List Mark → List Mark → List Token → Type 0
Marks = Many (AddsOnce mark_number mark_number IsColumnMark)

mark_first : {a c : List Mark} {rest : List ℕ} (kind : Mark) (mid : List ℕ) → is_bare (word_of kind) ≡ true → has_number mark_number (mark_number kind) a ≡ false → Apart mid → Writes mid (Marks (a ++ kind ∷ []) c) rest
    → Writes (32 ∷ (word_of kind ++ mid)) (Marks a c) rest
mark_first kind mid bare once apart h =
    once_more kind kind once (made_written (λ _. kind) kind tt refl (blank_first (keyword_written (word_of kind) mid (word_of kind) bare (same_itself Any (word_of kind)) apart))) h

-- the marks that a column has, in their order
abbrev pub marks_of : Bool → Bool → Bool → List Mark
marks_of true true true = mark.Hierarchical ∷ mark.ObjectId ∷ mark.Injective ∷ []
marks_of true true false = mark.Hierarchical ∷ mark.ObjectId ∷ []
marks_of true false true = mark.Hierarchical ∷ mark.Injective ∷ []
marks_of true false false = mark.Hierarchical ∷ []
marks_of false true true = mark.ObjectId ∷ mark.Injective ∷ []
marks_of false true false = mark.ObjectId ∷ []
marks_of false false true = mark.Injective ∷ []
marks_of false false false = []

marks_listed : (h o i : Bool) (rest : List ℕ) → Apart rest → Writes ((column_mark h (codes " HIERARCHICAL") ++ (column_mark o (codes " IS_OBJECT_ID") ++ column_mark i (codes " INJECTIVE"))) ++ rest) (Marks [] (marks_of h o i)) rest
unfolding has_number
marks_listed true true true rest apart = mark_first mark.Hierarchical (codes " IS_OBJECT_ID" ++ (codes " INJECTIVE" ++ rest)) refl refl (apart_blank _) (mark_first mark.ObjectId (codes " INJECTIVE" ++ rest) refl refl (apart_blank _) (mark_first mark.Injective rest refl refl apart (last_of _ rest)))
marks_listed true true false rest apart = mark_first mark.Hierarchical (codes " IS_OBJECT_ID" ++ rest) refl refl (apart_blank _) (mark_first mark.ObjectId rest refl refl apart (last_of _ rest))
marks_listed true false true rest apart = mark_first mark.Hierarchical (codes " INJECTIVE" ++ rest) refl refl (apart_blank _) (mark_first mark.Injective rest refl refl apart (last_of _ rest))
marks_listed true false false rest apart = mark_first mark.Hierarchical rest refl refl apart (last_of _ rest)
marks_listed false true true rest apart = mark_first mark.ObjectId (codes " INJECTIVE" ++ rest) refl refl (apart_blank _) (mark_first mark.Injective rest refl refl apart (last_of _ rest))
marks_listed false true false rest apart = mark_first mark.ObjectId rest refl refl apart (last_of _ rest)
marks_listed false false true rest apart = mark_first mark.Injective rest refl refl apart (last_of _ rest)
marks_listed false false false rest apart = last_of _ rest

marks_apart : (h o i : Bool) (rest : List ℕ) → Apart rest → Apart ((column_mark h (codes " HIERARCHICAL") ++ (column_mark o (codes " IS_OBJECT_ID") ++ column_mark i (codes " INJECTIVE"))) ++ rest)
marks_apart true true true rest apart = apart_blank _
marks_apart true true false rest apart = apart_blank _
marks_apart true false true rest apart = apart_blank _
marks_apart true false false rest apart = apart_blank _
marks_apart false true true rest apart = apart_blank _
marks_apart false true false rest apart = apart_blank _
marks_apart false false true rest apart = apart_blank _
marks_apart false false false rest apart = apart

marks_written : (h o i : Bool) (rest : List ℕ) → Apart rest → Writes ((column_mark h (codes " HIERARCHICAL") ++ (column_mark o (codes " IS_OBJECT_ID") ++ column_mark i (codes " INJECTIVE"))) ++ rest) (AreMarks (marks_of h o i)) rest
unfolding has_all
marks_written h o i rest apart = fit (λ own f. (f, refl)) (marks_listed h o i rest apart)

-- the column that its marks give
of_marks : (h o i : Bool) → (has_number mark_number 0 (marks_of h o i) ≡ h) × (has_number mark_number 1 (marks_of h o i) ≡ o) × (has_number mark_number 2 (marks_of h o i) ≡ i)
unfolding has_number
of_marks true true true = (refl, refl, refl)
of_marks true true false = (refl, refl, refl)
of_marks true false true = (refl, refl, refl)
of_marks true false false = (refl, refl, refl)
of_marks false true true = (refl, refl, refl)
of_marks false true false = (refl, refl, refl)
of_marks false false true = (refl, refl, refl)
of_marks false false false = (refl, refl, refl)

column_is : (c : Column) (seen : Option Field) → c.default ≡ default_given c.ty seen → c ≡ column c.name c.ty seen (marks_of c.hierarchical c.object_id c.injective)
column_is c seen e =
    let m = of_marks c.hierarchical c.object_id c.injective in
    λ i. record { name = c.name; ty = c.ty; default = e i; hierarchical = sym m.0 i; object_id = sym m.1 i; injective = sym m.2 i }

-- ---- columns

column_spelled : (n t d m rest : List ℕ) → ((n ++ (32 ∷ t)) ++ (d ++ m)) ++ rest ≡ n ++ (32 ∷ (t ++ (d ++ (m ++ rest))))
column_spelled n t d m rest =
    append_assoc (n ++ (32 ∷ t)) (d ++ m) rest ∙ append_assoc n (32 ∷ t) ((d ++ m) ++ rest) ∙ ap (λ (u : List ℕ). n ++ (32 ∷ (t ++ u))) (append_assoc d m rest)

-- what a column has to be for its text to be read as it again
abbrev pub IsWritten : Bool → Column → Type 0
IsWritten true c = IsSoundType c.ty × FitsColumn c.ty c.default
IsWritten false c = IsSoundType c.ty × (c.default ≡ default_of_column c.ty)

pub column_written : (b : Bool) (c : Column) (rest : List ℕ) → IsWritten b c → Apart rest → Writes ((typed_text c.name c.ty ++ (default_text b c ++ marks_text c)) ++ rest) (IsColumn (stands c)) rest
column_written false c rest h apart =
    let marks = marks_text c ++ rest in
    at_text (column_spelled (name_text c.name) (type_text c.ty) [] (marks_text c) rest)
    (then_written c.name (name_written c.name (32 ∷ (type_text c.ty ++ marks)) (apart_blank (type_text c.ty ++ marks)))
    (then_written (stands c.ty) (blank_first (type_written c.ty marks h.0 (marks_apart c.hierarchical c.object_id c.injective rest apart)))
    (then_written None (nothing_written marks _ refl)
    (made_written (column c.name c.ty None) c (marks_of c.hierarchical c.object_id c.injective) (column_is c None h.1) (marks_written c.hierarchical c.object_id c.injective rest apart)))))
column_written true c rest h apart =
    let marks = marks_text c ++ rest in
    let seen = literal_of c.ty c.default marks h.1 (marks_apart c.hierarchical c.object_id c.injective rest apart) in
    let literal = literal_text c.ty.base c.default ++ marks in
    let behind = codes " DEFAULT " ++ literal in
    at_text (column_spelled (name_text c.name) (type_text c.ty) (codes " DEFAULT " ++ literal_text c.ty.base c.default) (marks_text c) rest)
    (then_written c.name (name_written c.name (32 ∷ (type_text c.ty ++ behind)) (apart_blank (type_text c.ty ++ behind)))
    (then_written (stands c.ty) (blank_first (type_written c.ty behind h.0 (apart_blank _)))
    (then_written (Some seen.seen) (blank_first (then_written tt (keyword_written (codes "DEFAULT") (32 ∷ literal) (codes "DEFAULT") refl (same_itself Any (codes "DEFAULT")) (apart_blank literal)) (blank_first seen.written)))
    (made_written (column c.name c.ty (Some seen.seen)) c (marks_of c.hierarchical c.object_id c.injective) (column_is c (Some seen.seen) seen.gives) (marks_written c.hierarchical c.object_id c.injective rest apart)))))

-- ---- lists of columns

-- the columns from a place on are these
abbrev pub AreFrom : Definition → ℕ → List Column → Type 0
AreFrom d place columns = (j : ℕ) → slice_get d.columns (place + j) ≡ slice_get columns j

pub others_from : (d : Definition) (place : ℕ) (c : Column) (columns : List Column) → AreFrom d place (c ∷ columns) → AreFrom d (place + 1) columns
others_from d place c columns h j = ap (slice_get d.columns) (let e : place + 1 + j ≡ place + suc j = omega arith in e) ∙ h (suc j)

pub first_from : (d : Definition) (place : ℕ) (c : Column) (columns : List Column) → AreFrom d place (c ∷ columns) → slice_get d.columns place ≡ Some c
first_from d place c columns h = ap (slice_get d.columns) (let e : place ≡ place + 0 = omega arith in e) ∙ h 0

abbrev pub AreWritten : Definition → Type 0
AreWritten d = (place : ℕ) (c : Column) → slice_get d.columns place ≡ Some c → IsWritten (is_attribute d place) c

text_here : (d : Definition) (place : ℕ) (c : Column) → slice_get d.columns place ≡ Some c → column_at_text d place ≡ column_text d place c
text_here d place c e = ap (λ (o : Option Column). elim o as (λ _. List ℕ) [ None ↦ [] | Some column ↦ column_text d place column ]) e

listed_here : (d : Definition) (place : ℕ) (c : Column) → 0 < place → slice_get d.columns place ≡ Some c → listed_column d place ≡ 44 ∷ 32 ∷ column_text d place c
listed_here d place c later e = cond-true (nat_lt 0 place) (and_then (column_at_text d place)) (column_at_text d place) (lt-ltb 0 place later) ∙ ap (λ (u : List ℕ). 44 ∷ 32 ∷ u) (text_here d place c e)

abbrev Listed : Definition → ℕ → List Column → List ℕ → List ℕ
Listed d place columns rest = flat_map (listed_column d) (range_with_len place (length columns)) ++ rest

listed_spelled : (d : Definition) (place : ℕ) (c : Column) (columns : List Column) (rest : List ℕ) → 0 < place → slice_get d.columns place ≡ Some c
    → Listed d place (c ∷ columns) rest ≡ 44 ∷ 32 ∷ (column_text d place c ++ Listed d (place + 1) columns rest)
listed_spelled d place c columns rest later e =
    let behind = flat_map (listed_column d) (range_with_len (place + 1) (length columns)) in
    ap (λ (u : List ℕ). (u ++ behind) ++ rest) (listed_here d place c later e) ∙ ap (λ (u : List ℕ). 44 ∷ 32 ∷ u) (append_assoc (column_text d place c) behind rest)

columns_apart : (d : Definition) (place : ℕ) (columns : List Column) (rest : List ℕ) → 0 < place → AreFrom d place columns → Apart rest → Apart (Listed d place columns rest)
columns_apart d place [] rest later h apart = apart
columns_apart d place (c ∷ columns) rest later h apart =
    subst (λ (u : List ℕ). Apart u) (sym (listed_spelled d place c columns rest later (first_from d place c columns h))) (apart_comma _)

columns_behind : (d : Definition) (place : ℕ) (columns : List Column) (rest : List ℕ) → AreWritten d → 0 < place → AreFrom d place columns → Apart rest
    → Writes (Listed d place columns rest) (Tail 44 (λ c. IsColumn (stands c)) columns) rest
columns_behind d place [] rest each later h apart = no_more rest
columns_behind d place (c ∷ columns) rest each later h apart =
    let here = first_from d place c columns h in
    let others = others_from d place c columns h in
    at_text (listed_spelled d place c columns rest later here)
    (one_more (column_written (is_attribute d place) c (Listed d (place + 1) columns rest) (each place c here) (columns_apart d (place + 1) columns rest (omega (arith, later)) others apart))
    (columns_behind d (place + 1) columns rest each (omega (arith, later)) others apart))

-- the columns in their brackets
pub columns_written : (d : Definition) (c : Column) (columns : List Column) (rest : List ℕ) → AreWritten d → AreFrom d 0 (c ∷ columns)
    → Writes (40 ∷ (flat_map (listed_column d) (range_with_len 0 (length (c ∷ columns))) ++ (41 ∷ rest))) (AreColumns (stands (c ∷ columns))) rest
columns_written d c columns rest each h =
    let here = first_from d 0 c columns h in
    let others = others_from d 0 c columns h in
    let close = 41 ∷ rest in
    let behind = flat_map (listed_column d) (range_with_len 1 (length columns)) in
    let same : flat_map (listed_column d) (range_with_len 0 (length (c ∷ columns))) ++ close ≡ column_text d 0 c ++ (behind ++ close) =
    ap (λ (u : List ℕ). (u ++ behind) ++ close) (text_here d 0 c here) ∙ append_assoc (column_text d 0 c) behind close in
    then_written tt (sign_written 40 (flat_map (listed_column d) (range_with_len 0 (length (c ∷ columns))) ++ close) refl)
    (then_written (stands (c ∷ columns))
    (at_text same
    (separated_written c columns (column_written (is_attribute d 0) c (behind ++ close) (each 0 c here) (columns_apart d 1 columns close (omega arith) others (apart_close rest)))
    (columns_behind d 1 columns close each (omega arith) others (apart_close rest))))
    (made_written (λ _. c ∷ columns) (c ∷ columns) tt refl (sign_written 41 rest refl)))

-- ---- keys

-- the name of the column at a place
abbrev pub name_of_place : Definition → ℕ → List ℕ
name_of_place d place = elim (slice_get d.columns place) [ None ↦ [] | Some c ↦ c.name ]

abbrev pub HasColumn : Definition → ℕ → Type 0
HasColumn d place = (c : Column) × (slice_get d.columns place ≡ Some c)

name_here : (d : Definition) (place : ℕ) → HasColumn d place → column_name_text d place ≡ name_text (name_of_place d place)
name_here d place h =
    ap (λ (o : Option Column). elim o as (λ _. List ℕ) [ None ↦ [] | Some c ↦ name_text c.name ]) h.1
    ∙ ap (λ (o : Option Column). name_text (elim o as (λ _. List ℕ) [ None ↦ [] | Some c ↦ c.name ])) (sym h.1)

pub place_name_written : (d : Definition) (place : ℕ) (rest : List ℕ) → HasColumn d place → Apart rest → Writes (column_name_text d place ++ rest) (IsBytes is_name (name_of_place d place)) rest
place_name_written d place rest h apart = at_text (ap (λ (u : List ℕ). u ++ rest) (name_here d place h)) (name_written (name_of_place d place) rest apart)

keys_apart : (d : Definition) (keys rest : List ℕ) → Apart rest → Apart (other_keys_text d keys ++ rest)
keys_apart d [] rest apart = apart
keys_apart d (key ∷ keys) rest apart = apart_comma _

keys_behind : (d : Definition) (keys rest : List ℕ) → AllByRecursion (HasColumn d) keys → Apart rest → Writes (other_keys_text d keys ++ rest) (Tail 44 (IsBytes is_name) (map (name_of_place d) keys)) rest
keys_behind d [] rest h apart = no_more rest
keys_behind d (key ∷ keys) rest h apart =
    at_text (ap (λ (u : List ℕ). 44 ∷ 32 ∷ u) (append_assoc (column_name_text d key) (other_keys_text d keys) rest))
    (one_more (place_name_written d key (other_keys_text d keys ++ rest) h.0 (keys_apart d keys rest apart)) (keys_behind d keys rest h.1 apart))

pub keys_written : (d : Definition) (key : ℕ) (keys rest : List ℕ) → AllByRecursion (HasColumn d) (key ∷ keys) → Apart rest
    → Writes (codes " PRIMARY KEY " ++ (keys_text d (key ∷ keys) ++ rest)) (IsKey (map (name_of_place d) (key ∷ keys))) rest
keys_written d key keys rest h apart =
    let names = keys_text d (key ∷ keys) ++ rest in
    blank_first (then_written tt (keyword_written (codes "PRIMARY") (codes " KEY " ++ names) (codes "PRIMARY") refl (same_itself Any (codes "PRIMARY")) (apart_blank _))
    (then_written tt (blank_first (keyword_written (codes "KEY") (32 ∷ names) (codes "KEY") refl (same_itself Any (codes "KEY")) (apart_blank names)))
    (blank_first
    (at_text (append_assoc (column_name_text d key) (other_keys_text d keys) rest)
    (fit (λ own f. inr f)
    (separated_written (name_of_place d key) (map (name_of_place d) keys) (place_name_written d key (other_keys_text d keys ++ rest) h.0 (keys_apart d keys rest apart)) (keys_behind d keys rest h.1 apart)))))))

-- ---- arguments

argument_written : (a : Arg) (rest : List ℕ) → IsSoundType a.ty → Apart rest → Writes (typed_text a.name a.ty ++ rest) (IsArgument (stands a)) rest
argument_written a rest sound apart =
    at_text (append_assoc (name_text a.name) (32 ∷ type_text a.ty) rest)
    (then_written a.name (name_written a.name (32 ∷ (type_text a.ty ++ rest)) (apart_blank (type_text a.ty ++ rest)))
    (made_written (verdict_map (argument a.name)) (stands a) (stands a.ty) refl (blank_first (type_written a.ty rest sound apart))))

arguments_apart : (arguments : List Arg) (rest : List ℕ) → Apart rest → Apart (other_arguments_text arguments ++ rest)
arguments_apart [] rest apart = apart
arguments_apart (a ∷ arguments) rest apart = apart_comma _

arguments_behind : (arguments : List Arg) (rest : List ℕ) → AllByRecursion (λ a. IsSoundType a.ty) arguments → Apart rest
    → Writes (other_arguments_text arguments ++ rest) (Tail 44 (λ a. IsArgument (stands a)) arguments) rest
arguments_behind [] rest h apart = no_more rest
arguments_behind (a ∷ arguments) rest h apart =
    at_text (ap (λ (u : List ℕ). 44 ∷ 32 ∷ u) (append_assoc (typed_text a.name a.ty) (other_arguments_text arguments) rest))
    (one_more (argument_written a (other_arguments_text arguments ++ rest) h.0 (arguments_apart arguments rest apart)) (arguments_behind arguments rest h.1 apart))

pub arguments_written : (arguments : List Arg) (rest : List ℕ) → AllByRecursion (λ a. IsSoundType a.ty) arguments → Writes (40 ∷ (arguments_text arguments ++ (41 ∷ rest))) (AreArguments (stands arguments)) rest
arguments_written [] rest h = then_written tt (sign_written 40 (41 ∷ rest) refl) (fit (λ own f. inl f) (made_written (λ _. []) [] tt refl (sign_written 41 rest refl)))
arguments_written (a ∷ arguments) rest h =
    let close = 41 ∷ rest in
    then_written tt (sign_written 40 (arguments_text (a ∷ arguments) ++ close) refl)
    (fit (λ own f. inr f)
    (then_written (stands (a ∷ arguments))
    (at_text (append_assoc (typed_text a.name a.ty) (other_arguments_text arguments) close)
    (separated_written a arguments (argument_written a (other_arguments_text arguments ++ close) h.0 (arguments_apart arguments close (apart_close rest))) (arguments_behind arguments close h.1 (apart_close rest))))
    (made_written (λ _. a ∷ arguments) (a ∷ arguments) tt refl (sign_written 41 rest refl))))
