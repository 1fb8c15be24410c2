-- Types and literals are written by their grammar.
use Rattle.std.proofs.Common.{◌≡◌, ◌<◌, ◌≤◌, ◌^◌, ℕ, Bool, true, false, cond, List, ◌∷◌, ◌++◌, Some, None, Result, Ok, Err, refl, sym, ap, ◌∙◌, arith, decimal, append_assoc, unsigned_abs, ℤ, pos, negsuc}
use Rattle.std.specs.Prelude.{codes, ◌&&◌, nat_le}
use Rattle.std.specs.List.{AllByRecursion}
use Rattle.std.specs.Fmt.{signed_decimal}
use Rattle.std.proofs.lemmas.Bool.{cond-true, le-leb}
use Rattle.std.proofs.lemmas.Bool.Decides.{nat_tests}
use Rattle.dict_value.specs.declared.value.AttrType.{AttrType}
use Rattle.dict_value.specs.declared.value.BadValue.TheVariants.{NullNotAllowed}
use Rattle.dict_value.specs.declared.value.ColType.{ColType}
use Rattle.dict_value.specs.declared.value.ColType.TheVariants as type
use Rattle.dict_value.specs.declared.value.Field.{Field}
use Rattle.dict_value.specs.declared.value.Field.TheVariants as field
use Rattle.dict_value.specs.declared.value.Value.{Value}
use Rattle.dict_value.specs.declared.value.Value.TheVariants as value
use Rattle.dict_value.specs.Values.{FitsColumn, HasType, scale_of, value_text}
use Rattle.dict_value.specs.Addresses.{v4_text, v6_text}
use Rattle.dict_value.specs.Dates.{day_text, second_text}
use Rattle.dict_value.specs.Identifiers.{id_text}
use Rattle.dict_value.specs.Numbers.{is_within}
use Rattle.dict_value.proofs.Again.{read_again}
use Rattle.dict_value.proofs.Digits.{few_digits}
use Rattle.dict_schema.specs.Sound.{IsSoundBase, IsSoundType}
use Rattle.ddl_tokens.specs.declared.fault.SyntaxFault.{SyntaxFault}
use Rattle.ddl_tokens.specs.declared.fault.SyntaxFault.TheVariants.{Unsupported}
use Rattle.ddl_tokens.specs.declared.token.TokenKind.TheVariants.{Word, Number}
use Rattle.ddl_tokens.specs.Letters.{same_letters}
use Rattle.ddl_tokens.specs.Tokens.{Token}
use Rattle.ddl_tokens.specs.Reading.{◌>>=◌, is_keyword}
use Rattle.ddl_tokens.specs.Laws.{IsOne}
use Rattle.ddl_tokens.specs.Verdicts.{falls, stands}
use Rattle.ddl_columns.specs.declared.types.BaseName.{BaseName}
use Rattle.ddl_columns.specs.declared.types.BaseName.TheVariants as base
use Rattle.ddl_columns.specs.declared.types.TypeName.{TypeName}
use Rattle.ddl_columns.specs.declared.types.TypeName.TheVariants as name
use Rattle.ddl_columns.specs.Defaults.{default_given, literal, or_misfit}
use Rattle.ddl_columns.specs.Grammar.{IsBase, IsDecimal, IsType}
use Rattle.ddl_columns.specs.Types.{base_name, decimal as decimal_type, decimal_named, not_null, not_nullable, nullable, number_named, text_named, type_name, type_named, whole_number, whole_of}
use Rattle.ddl_writing.specs.Canonical.{base_text, decimal_type_text, literal_text, type_text}
use Rattle.ddl_text.proofs.Spelt.{Apart, Writes, apart_close, apart_comma, apart_open, at_text, blank_first, fit, made_written, nothing_written, one_at, sign_written, then_at, then_written, token_of, word_at}
use Rattle.ddl_text.proofs.Quoting.{IsPlain, number_at, plain_at, scaled_written, signed_token, string_at, whole_read}
use Rattle.ddl_text.proofs.ValueTexts.{plain_day, plain_id, plain_second, plain_v4, plain_v6}

-- ---- whole numbers

pub whole_written : (n : ℕ) (rest : List ℕ) → n < 2 ^ 64 → Apart rest → Writes (decimal n ++ rest) (IsOne whole_number n) rest
whole_written n rest small apart place =
    number_at place n rest whole_number n (omega (arith, small)) apart (ap (whole_of (token_of place Number (decimal n)).place) (whole_read n small))

-- ---- what stands behind the name of a type

abbrev Digits : ℕ → ℕ → List ℕ → List ℕ
Digits digits scale rest = 40 ∷ (decimal digits ++ (44 ∷ 32 ∷ (decimal scale ++ (41 ∷ rest))))

decimal_stands : (place digits scale : ℕ) → IsSoundBase (type.Decimal digits scale) → stands (type.Decimal digits scale) ≡ decimal_type place digits scale
decimal_stands place digits scale h =
    let test : (nat_le 1 digits && nat_le digits 38 && nat_le scale digits) ≡ true = rw (le-leb 1 digits h.0, le-leb digits 38 h.1, le-leb scale digits h.2) refl in
    sym (cond-true (nat_le 1 digits && nat_le digits 38 && nat_le scale digits) (stands (type.Decimal digits scale)) (falls (Unsupported place)) test)

decimal_behind : (place digits scale : ℕ) (rest : List ℕ) → IsSoundBase (type.Decimal digits scale) → Writes (Digits digits scale rest) (IsDecimal place (stands (type.Decimal digits scale))) rest
decimal_behind place digits scale rest h =
    then_written tt (sign_written 40 (decimal digits ++ (44 ∷ 32 ∷ (decimal scale ++ (41 ∷ rest)))) refl)
    (then_written digits (whole_written digits (44 ∷ 32 ∷ (decimal scale ++ (41 ∷ rest))) (omega (arith, h)) (apart_comma (32 ∷ (decimal scale ++ (41 ∷ rest)))))
    (then_written (Some scale) (then_written tt (sign_written 44 (32 ∷ (decimal scale ++ (41 ∷ rest))) refl) (blank_first (whole_written scale (41 ∷ rest) (omega (arith, h)) (apart_close rest))))
    (made_written (λ _. decimal_type place digits scale) (stands (type.Decimal digits scale)) tt (decimal_stands place digits scale h) (sign_written 41 rest refl))))

decimal_spelled : (digits scale : ℕ) (rest : List ℕ) → decimal_type_text digits scale ++ rest ≡ codes "Decimal" ++ Digits digits scale rest
decimal_spelled digits scale rest =
    ap (λ (u : List ℕ). codes "Decimal(" ++ u)
    (append_assoc (decimal digits) (44 ∷ 32 ∷ (decimal scale ++ codes ")")) rest ∙ ap (λ (u : List ℕ). decimal digits ++ (44 ∷ 32 ∷ u)) (append_assoc (decimal scale) (codes ")") rest))

-- ---- types that NULL isn't in

pub base_written : (t : ColType) (rest : List ℕ) → IsSoundBase t → Apart rest → Writes (base_text t ++ rest) (IsBase (stands t)) rest
unfolding type_named number_named text_named decimal_named same_letters
base_written type.UInt8 rest h apart place = then_at _ (word_at place (codes "UInt8") rest base_name _ refl apart refl) (nothing_written rest _ (refl, refl))
base_written type.UInt16 rest h apart place = then_at _ (word_at place (codes "UInt16") rest base_name _ refl apart refl) (nothing_written rest _ (refl, refl))
base_written type.UInt32 rest h apart place = then_at _ (word_at place (codes "UInt32") rest base_name _ refl apart refl) (nothing_written rest _ (refl, refl))
base_written type.UInt64 rest h apart place = then_at _ (word_at place (codes "UInt64") rest base_name _ refl apart refl) (nothing_written rest _ (refl, refl))
base_written type.Int8 rest h apart place = then_at _ (word_at place (codes "Int8") rest base_name _ refl apart refl) (nothing_written rest _ (refl, refl))
base_written type.Int16 rest h apart place = then_at _ (word_at place (codes "Int16") rest base_name _ refl apart refl) (nothing_written rest _ (refl, refl))
base_written type.Int32 rest h apart place = then_at _ (word_at place (codes "Int32") rest base_name _ refl apart refl) (nothing_written rest _ (refl, refl))
base_written type.Int64 rest h apart place = then_at _ (word_at place (codes "Int64") rest base_name _ refl apart refl) (nothing_written rest _ (refl, refl))
base_written type.Str rest h apart place = then_at _ (word_at place (codes "String") rest base_name _ refl apart refl) (nothing_written rest _ (refl, refl))
base_written type.Date rest h apart place = then_at _ (word_at place (codes "Date") rest base_name _ refl apart refl) (nothing_written rest _ (refl, refl))
base_written type.DateTime rest h apart place =
    then_at _ (word_at place (codes "DateTime") rest base_name _ refl apart refl) (made_written (λ _. type.DateTime) type.DateTime None refl (nothing_written rest _ refl))
base_written type.Uuid rest h apart place = then_at _ (word_at place (codes "UUID") rest base_name _ refl apart refl) (nothing_written rest _ (refl, refl))
base_written type.Ipv4 rest h apart place = then_at _ (word_at place (codes "IPv4") rest base_name _ refl apart refl) (nothing_written rest _ (refl, refl))
base_written type.Ipv6 rest h apart place = then_at _ (word_at place (codes "IPv6") rest base_name _ refl apart refl) (nothing_written rest _ (refl, refl))
base_written (type.Decimal digits scale) rest h apart begun =
    at_text (decimal_spelled digits scale rest) (λ place.
    then_at (base.Decimal, (token_of place Word (codes "Decimal")).place) (word_at place (codes "Decimal") (Digits digits scale rest) base_name _ refl (apart_open (decimal digits ++ (44 ∷ 32 ∷ (decimal scale ++ (41 ∷ rest))))) refl)
    (decimal_behind (token_of place Word (codes "Decimal")).place digits scale rest h)) begun

-- what one writes of a type is written of it among those that may be NULL, too
named : (t : ColType) (own : List Token) → IsBase (stands t) own → IsType (stands (not_null t)) own
named t own h = record {
  value = (name.Base h.value.0, h.value.1);
  front = h.front;
  back = h.back;
  parts = h.parts;
  before = record { token = h.before.token; parts = h.before.parts; fine = of_base (type_name h.before.token) h.value h.before.fine };
  behind = record { from = stands t; is = refl; fits = h.behind };
} where
  not_base : (n : TypeName × ℕ) (b : BaseName × ℕ) → not_nullable n ≡ Ok b → n ≡ (name.Base b.0, b.1)
  not_base (name.Nullable, place) b e = absurd cc
  not_base (name.Base c, place) b e = let k : (c, place) ≡ b = cc in ap (λ (x : BaseName × ℕ). (name.Base x.0, x.1)) k

  of_base : (r : Result (TypeName × ℕ) SyntaxFault) (b : BaseName × ℕ) → (r >>= not_nullable) ≡ Ok b → r ≡ Ok (name.Base b.0, b.1)
  of_base (Ok n) b e = ap (λ (x : TypeName × ℕ). Ok x) (not_base n b e)
  of_base (Err f) b e = absurd cc

-- ---- types

pub type_written : (t : AttrType) (rest : List ℕ) → IsSoundType t → Apart rest → Writes (type_text t ++ rest) (IsType (stands t)) rest
unfolding type_named number_named text_named decimal_named same_letters
type_written t rest sound apart = of t.nullable where
  of : (b : Bool) → Writes (type_text (record { base = t.base; nullable = b }) ++ rest) (IsType (stands (record { base = t.base; nullable = b }))) rest
  of false = fit (named t.base) (base_written t.base rest sound apart)
  of true =
      at_text (ap (λ (u : List ℕ). codes "Nullable(" ++ u) (append_assoc (base_text t.base) (codes ")") rest)) (λ place.
      then_at (name.Nullable, (token_of place Word (codes "Nullable")).place) (word_at place (codes "Nullable") (40 ∷ (base_text t.base ++ (41 ∷ rest))) type_name _ refl (apart_open (base_text t.base ++ (41 ∷ rest))) refl)
      (then_written tt (sign_written 40 (base_text t.base ++ (41 ∷ rest)) refl)
      (then_written (stands t.base) (base_written t.base (41 ∷ rest) sound (apart_close rest))
      (made_written (λ _. nullable t.base) (nullable t.base) tt refl (sign_written 41 rest refl)))))

-- ---- literals

small_number : (t : ColType) (n : ℕ) → HasType t (value.U n) → n < 10 ^ 64
small_number type.UInt8 n h = omega (arith, h)
small_number type.UInt16 n h = omega (arith, h)
small_number type.UInt32 n h = omega (arith, h)
small_number type.UInt64 n h = omega (arith, h)
small_number t n h = absurd h

bound_of : (bound : ℕ) (z : ℤ) → is_within bound z ≡ true → unsigned_abs z ≤ bound
bound_of bound (pos n) h = grind (arith, nat_tests)
bound_of bound (negsuc n) h = grind (arith, nat_tests)

small_signed : (t : ColType) (z : ℤ) → HasType t (value.I z) → unsigned_abs z < 10 ^ 64
small_signed type.Int8 z h = let b = bound_of (2 ^ 7) z h in omega (arith, b)
small_signed type.Int16 z h = let b = bound_of (2 ^ 15) z h in omega (arith, b)
small_signed type.Int32 z h = let b = bound_of (2 ^ 31) z h in omega (arith, b)
small_signed type.Int64 z h = let b = bound_of (2 ^ 63) z h in omega (arith, b)
small_signed t z h = absurd h

small_scaled : (t : ColType) (z : ℤ) → HasType t (value.Dec z) → unsigned_abs z < 10 ^ 64
small_scaled (type.Decimal digits scale) z h = let few = few_digits digits in omega (arith, few, h)
small_scaled t z h = absurd h

plain_value_day : (t : ColType) (n : ℕ) → HasType t (value.Day n) → AllByRecursion IsPlain (day_text n)
plain_value_day type.Date n h = plain_day n h
plain_value_day t n h = absurd h

plain_value_second : (t : ColType) (n : ℕ) → HasType t (value.Second n) → AllByRecursion IsPlain (second_text n)
plain_value_second type.DateTime n h = plain_second n h
plain_value_second t n h = absurd h

-- a literal that gives this default
pub record Literal (t : AttrType) (v : Value) (rest : List ℕ) : Type 0 where
  pub seen : Field
  pub gives : v ≡ default_given t (Some seen)
  pub written : Writes (literal_text t.base v ++ rest) (IsOne literal seen) rest

text_gives : (t : AttrType) (v : Value) → HasType t.base v → v ≡ default_given t (Some (field.Text (value_text t.base v)))
text_gives t v h = sym (ap (or_misfit t) (read_again t.base v h))

pub literal_of : (t : AttrType) (v : Value) (rest : List ℕ) → FitsColumn t v → Apart rest → Literal t v rest
unfolding is_keyword value_text same_letters
literal_of t value.Null rest h apart = record {
  seen = field.Null;
  gives = sym (ap (λ (b : Bool). or_misfit t (cond b (Ok value.Null) (Err NullNotAllowed))) h);
  written = λ place. word_at place (codes "NULL") rest literal field.Null refl apart refl;
}
literal_of t (value.U n) rest h apart = record {
  seen = field.Text (decimal n);
  gives = text_gives t (value.U n) h;
  written = λ place. number_at place n rest literal (field.Text (decimal n)) (small_number t.base n h) apart refl;
}
literal_of t (value.I z) rest h apart = record {
  seen = field.Text (signed_decimal z);
  gives = text_gives t (value.I z) h;
  written = λ place. one_at place Number (signed_decimal z) (signed_decimal z) rest literal (field.Text (signed_decimal z)) (signed_token z rest (small_signed t.base z h) apart) refl;
}
literal_of t (value.Dec z) rest h apart = record {
  seen = field.Text (value_text t.base (value.Dec z));
  gives = text_gives t (value.Dec z) h;
  written = λ place. one_at place Number (value_text t.base (value.Dec z)) (value_text t.base (value.Dec z)) rest literal (field.Text (value_text t.base (value.Dec z))) (scaled_written (scale_of t.base) z rest (small_scaled t.base z h) apart) refl;
}
literal_of t (value.S text) rest h apart = record {
  seen = field.Text text;
  gives = text_gives t (value.S text) h;
  written = λ place. string_at place text rest literal (field.Text text) apart refl;
}
literal_of t (value.Day n) rest h apart = record {
  seen = field.Text (day_text n);
  gives = text_gives t (value.Day n) h;
  written = λ place. plain_at place (day_text n) rest literal (field.Text (day_text n)) (plain_value_day t.base n h) apart refl;
}
literal_of t (value.Second n) rest h apart = record {
  seen = field.Text (second_text n);
  gives = text_gives t (value.Second n) h;
  written = λ place. plain_at place (second_text n) rest literal (field.Text (second_text n)) (plain_value_second t.base n h) apart refl;
}
literal_of t (value.Id n) rest h apart = record {
  seen = field.Text (id_text n);
  gives = text_gives t (value.Id n) h;
  written = λ place. plain_at place (id_text n) rest literal (field.Text (id_text n)) (plain_id n) apart refl;
}
literal_of t (value.V4 n) rest h apart = record {
  seen = field.Text (v4_text n);
  gives = text_gives t (value.V4 n) h;
  written = λ place. plain_at place (v4_text n) rest literal (field.Text (v4_text n)) (plain_v4 n) apart refl;
}
literal_of t (value.V6 n) rest h apart = record {
  seen = field.Text (v6_text n);
  gives = text_gives t (value.V6 n) h;
  written = λ place. plain_at place (v6_text n) rest literal (field.Text (v6_text n)) (plain_v6 n) apart refl;
}
