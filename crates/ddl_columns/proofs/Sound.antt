-- What the grammar has is of types that can be.
use Rattle.std.proofs.Common.{◌≡◌, ℕ, Bool, true, false, cond, List, Option, Some, None, Result, Ok, Err, refl, sym, subst, inl, inr}
use Rattle.std.specs.Prelude.{All, IfOk, codes, ◌&&◌, nat_le}
use Rattle.std.proofs.lemmas.List.Elements.{All-nil, All-cons}
use borrow.Author.Tests.{leb-true}
use Rattle.dict_value.specs.declared.value.AttrType.{AttrType}
use Rattle.dict_value.specs.declared.value.ColType.{ColType}
use Rattle.dict_value.specs.declared.value.ColType.TheVariants as type
use Rattle.dict_schema.specs.declared.definition.Arg.{Arg}
use Rattle.dict_schema.specs.declared.definition.Column.{Column}
use Rattle.dict_schema.specs.Sound.{IsSoundBase, IsSoundType}
use Rattle.ddl_tokens.specs.declared.fault.ReadFault.{ReadFault}
use Rattle.ddl_tokens.specs.declared.fault.SyntaxFault.TheVariants.{Unexpected, Unsupported}
use Rattle.ddl_tokens.specs.Tokens.{Token}
use Rattle.ddl_tokens.specs.Reading.{is_name}
use Rattle.ddl_tokens.specs.Lists.{Tail, ended, another}
use Rattle.ddl_tokens.specs.Laws.{Anyhow, Begins, IsSign, Made, Optional, Then}
use Rattle.ddl_tokens.specs.Verdicts.{Verdict, stands, falls, verdict_map, Onward, SeparatedVerdict, Standing, VerdictStops}
use Rattle.ddl_tokens.proofs.Laws.{bind_ok, test_cases}
use Rattle.ddl_columns.specs.declared.types.BaseName.{BaseName}
use Rattle.ddl_columns.specs.declared.types.BaseName.TheVariants as base
use Rattle.ddl_columns.specs.declared.types.TypeName.{TypeName}
use Rattle.ddl_columns.specs.declared.types.TypeName.TheVariants as name
use Rattle.ddl_columns.specs.Types.{base_name, decimal, decimal_named, listed, not_null, not_nullable, nullable, number_named, or_else, or_none, plain_named, reads, text_named, type_name, type_named}
use Rattle.ddl_columns.specs.Grammar.{IsBaseBehind, IsBase, IsTypeBehind, IsType, IsDefault, AreMarks, IsColumn, AreColumns, IsArgument, AreArguments, TypeStops, argument, column}

-- ---- Decimals

both : (a b : Bool) → (a && b) ≡ true → (a ≡ true) × (b ≡ true)
both true true e = (refl, refl)
both true false e = absurd cc
both false b e = absurd cc

decimal_sound : (place digits scale : ℕ) (t : ColType) → decimal place digits scale ≡ stands t → IsSoundBase t
decimal_sound place digits scale t e = elim (test_cases (nat_le 1 digits && nat_le digits 38 && nat_le scale digits) (stands (type.Decimal digits scale)) (falls (Unsupported place)) (stands t) e) [
  | inr x ↦ absurd (let y = x.1 in cc)
  | inl x ↦
      let p = both (nat_le 1 digits && nat_le digits 38) (nat_le scale digits) x.0 in
      let q = both (nat_le 1 digits) (nat_le digits 38) p.0 in
      let y = x.1 in
      let k : type.Decimal digits scale ≡ t = cc in
      subst IsSoundBase k (leb-true 1 digits q.0, leb-true digits 38 q.1, leb-true scale digits p.1)
]

-- ---- names

abbrev SoundName : BaseName → Type 0
SoundName (base.Plain t) = IsSoundBase t
SoundName base.DateTime = Unit {0}
SoundName base.Decimal = Unit {0}
SoundName (base.Digits digits) = Unit {0}

abbrev SoundTypeName : TypeName → Type 0
SoundTypeName name.Nullable = Unit {0}
SoundTypeName (name.Base b) = SoundName b

abbrev IfSound : Option TypeName → Type 0
IfSound None = Unit {0}
IfSound (Some n) = SoundTypeName n

or_sound : (x y : Option TypeName) → IfSound x → IfSound y → IfSound (or_else x y)
or_sound None y s r = r
or_sound (Some n) y s r = s

numbers_by_test : (a b c d e f g h : Bool) → IfSound (cond a (plain_named type.UInt8) (cond b (plain_named type.UInt16) (cond c (plain_named type.UInt32) (cond d (plain_named type.UInt64) (cond e (plain_named type.Int8) (cond f (plain_named type.Int16) (cond g (plain_named type.Int32) (cond h (plain_named type.Int64) None))))))))
numbers_by_test true b c d e f g h = tt
numbers_by_test false true c d e f g h = tt
numbers_by_test false false true d e f g h = tt
numbers_by_test false false false true e f g h = tt
numbers_by_test false false false false true f g h = tt
numbers_by_test false false false false false true g h = tt
numbers_by_test false false false false false false true h = tt
numbers_by_test false false false false false false false true = tt
numbers_by_test false false false false false false false false = tt

numbers_sound : (bytes : List ℕ) → IfSound (number_named bytes)
unfolding number_named
numbers_sound bytes = numbers_by_test (reads (codes "UInt8") bytes) (reads (codes "UInt16") bytes) (reads (codes "UInt32") bytes) (reads (codes "UInt64") bytes) (reads (codes "Int8") bytes) (reads (codes "Int16") bytes) (reads (codes "Int32") bytes) (reads (codes "Int64") bytes)

texts_by_test : (a b c d e f : Bool) → IfSound (cond a (plain_named type.Str) (cond b (plain_named type.Date) (cond c (Some (name.Base base.DateTime)) (cond d (plain_named type.Uuid) (cond e (plain_named type.Ipv4) (cond f (plain_named type.Ipv6) None))))))
texts_by_test true b c d e f = tt
texts_by_test false true c d e f = tt
texts_by_test false false true d e f = tt
texts_by_test false false false true e f = tt
texts_by_test false false false false true f = tt
texts_by_test false false false false false true = tt
texts_by_test false false false false false false = tt

texts_sound : (bytes : List ℕ) → IfSound (text_named bytes)
unfolding text_named
texts_sound bytes = texts_by_test (reads (codes "String") bytes) (reads (codes "Date") bytes) (reads (codes "DateTime") bytes) (reads (codes "UUID") bytes) (reads (codes "IPv4") bytes) (reads (codes "IPv6") bytes)

decimals_by_test : (a b c d e : Bool) → IfSound (cond a (Some (name.Base base.Decimal)) (cond b (Some (name.Base (base.Digits 9))) (cond c (Some (name.Base (base.Digits 18))) (cond d (Some (name.Base (base.Digits 38))) (cond e (Some name.Nullable) None)))))
decimals_by_test true b c d e = tt
decimals_by_test false true c d e = tt
decimals_by_test false false true d e = tt
decimals_by_test false false false true e = tt
decimals_by_test false false false false true = tt
decimals_by_test false false false false false = tt

decimals_sound : (bytes : List ℕ) → IfSound (decimal_named bytes)
unfolding decimal_named
decimals_sound bytes = decimals_by_test (reads (codes "Decimal") bytes) (reads (codes "Decimal32") bytes) (reads (codes "Decimal64") bytes) (reads (codes "Decimal128") bytes) (reads (codes "Nullable") bytes)

types_sound : (bytes : List ℕ) → IfSound (type_named bytes)
unfolding type_named
types_sound bytes = or_sound (or_else (number_named bytes) (text_named bytes)) (decimal_named bytes) (or_sound (number_named bytes) (text_named bytes) (numbers_sound bytes) (texts_sound bytes)) (decimals_sound bytes)

listed_sound : (o : Option TypeName) (place : ℕ) (n : TypeName × ℕ) → IfSound o → listed place o ≡ Ok n → SoundTypeName n.0
listed_sound None place n s e = absurd cc
listed_sound (Some m) place n s e = let k : (m, place) ≡ n = cc in subst (λ (x : TypeName × ℕ). SoundTypeName x.0) k s

type_name_sound : (t : Token) (n : TypeName × ℕ) → type_name t ≡ Ok n → SoundTypeName n.0
type_name_sound t n e = elim (test_cases (is_name t.kind) (listed t.place (type_named t.bytes)) (Err (Unexpected t.place)) (Ok n) e) [
  | inl x ↦ listed_sound (type_named t.bytes) t.place n (types_sound t.bytes) x.1
  | inr x ↦ absurd (let y = x.1 in cc)
]

only_base : (x : TypeName × ℕ) (n : BaseName × ℕ) → SoundTypeName x.0 → not_nullable x ≡ Ok n → SoundName n.0
only_base x n s e = at x.0 s e where
  at : (m : TypeName) → SoundTypeName m → not_nullable (m, x.1) ≡ Ok n → SoundName n.0
  at name.Nullable s k = absurd cc
  at (name.Base b) s k = let z : (b, x.1) ≡ n = cc in subst (λ (y : BaseName × ℕ). SoundName y.0) z s

base_name_sound : (t : Token) (n : BaseName × ℕ) → base_name t ≡ Ok n → SoundName n.0
base_name_sound t n e = let x = bind_ok (type_name t) not_nullable n e in only_base x.0 n (type_name_sound t x.0 x.1) x.2

-- ---- types

base_behind_sound : (b : BaseName) (place : ℕ) (t : ColType) (own : List Token) → SoundName b → IsBaseBehind (b, place) (stands t) own → IsSoundBase t
base_behind_sound (base.Plain u) place t own s h = subst IsSoundBase (sym h.0) s
base_behind_sound base.DateTime place t own s h = subst IsSoundBase (sym h.is) tt
base_behind_sound base.Decimal place t own s h = let d = h.behind in decimal_sound place d.value (or_none d.behind.value) t (sym d.behind.behind.is)
base_behind_sound (base.Digits digits) place t own s h = let d = h.behind in decimal_sound place digits d.value t (sym d.behind.is)

base_sound : (t : ColType) (own : List Token) → IsBase (stands t) own → IsSoundBase t
base_sound t own h = base_behind_sound h.value.0 h.value.1 t h.back (base_name_sound h.before.token h.value h.before.fine) h.behind

made_sound : (make : ColType → AttrType) → ((t : ColType) → (make t).base ≡ t) → (ty : AttrType) (t : ColType) → ty ≡ make t → IsSoundBase t → IsSoundType ty
made_sound make same ty t e s = subst (λ (x : AttrType). IsSoundType x) (sym e) (subst IsSoundBase (sym (same t)) s)

type_behind_sound : (m : TypeName) (place : ℕ) (ty : AttrType) (own : List Token) → SoundTypeName m → IsTypeBehind (m, place) (stands ty) own → IsSoundType ty
type_behind_sound name.Nullable place ty own s h = at h.behind.value h.behind.before h.behind.behind where
  at : (w : Verdict ColType) → IsBase w h.behind.front → Onward (λ t. Standing (Made (λ _. nullable t) (IsSign 41))) w (stands ty) h.behind.back → IsSoundType ty
  at (stands t) f b = made_sound nullable (λ t. refl) ty t b.is (base_sound t h.behind.front f)
  at (falls e) f b = absurd (let k = b.0 in cc)
type_behind_sound (name.Base b) place ty own s h = at h.from h.is h.fits where
  at : (w : Verdict ColType) → stands ty ≡ verdict_map not_null w → IsBaseBehind (b, place) w own → IsSoundType ty
  at (stands t) e f = let k : ty ≡ not_null t = cc in made_sound not_null (λ t. refl) ty t k (base_behind_sound b place t own s f)
  at (falls g) e f = absurd cc

pub type_sound : (ty : AttrType) (own : List Token) → IsType (stands ty) own → IsSoundType ty
type_sound ty own h = type_behind_sound h.value.0 h.value.1 ty h.back (type_name_sound h.before.token h.value h.before.fine) h.behind

-- ---- lists

module _ {A : Type 0} (P : A → Type 0) (Own : Verdict A → List Token → Type 0) (sound : (a : A) (own : List Token) → Own (stands a) own → P a) where
  tail_sound : (items : List A) (ts : List Token) → Tail 44 (λ a. Own (stands a)) items ts → All P items
  tail_sound items ts ended = All-nil P
  tail_sound items ts (another {a = a} {others = others} {own = own} {rest = rest} e s f m) = All-cons P a others (sound a own f) (tail_sound others rest m)

  list_sound : (items : List A) (ts : List Token) → SeparatedVerdict 44 Own (stands items) ts → All P items
  list_sound items ts h = subst (λ (xs : List A). All P xs) (sym h.behind.1) (All-cons P h.value h.behind.0 (sound h.value h.front h.before) (tail_sound h.behind.0 h.back h.behind.2))

  -- the same up to the closing bracket
  closed_sound : (v : Verdict (List A)) (items : List A) (front back : List Token) → SeparatedVerdict 44 Own v front → Onward (λ xs. Standing (Made (λ _. xs) (IsSign 41))) v (stands items) back → All P items
  closed_sound (stands xs) items front back f b = subst (λ (ys : List A). All P ys) (sym b.is) (list_sound xs front f)
  closed_sound (falls e) items front back f b = absurd (let k = b.0 in cc)

-- ---- columns

abbrev Behind : List ℕ → AttrType → Verdict Column → List Token → Type 0
Behind word ty = Standing (Then (Optional IsDefault) (λ default. Made (column word ty default) AreMarks))

column_sound : (c : Column) (own : List Token) → IsColumn (stands c) own → IsSoundType c.ty
column_sound c own h = at h.behind.value h.behind.before h.behind.behind where
  at : (w : Verdict AttrType) → IsType w h.behind.front → Onward (Behind h.value) w (stands c) h.behind.back → IsSoundType c.ty
  at (stands ty) f b = subst (λ (x : Column). IsSoundType x.ty) (sym b.behind.is) (type_sound ty h.behind.front f)
  at (falls e) f b = absurd (let k = b.0 in cc)

pub columns_sound : (columns : List Column) (own : List Token) → AreColumns (stands columns) own → All (λ c. IsSoundType c.ty) columns
columns_sound columns own h = let d = h.behind in closed_sound (λ c. IsSoundType c.ty) IsColumn column_sound d.value columns d.front d.back d.before d.behind

-- ---- arguments

argument_sound : (a : Arg) (own : List Token) → IsArgument (stands a) own → IsSoundType a.ty
argument_sound a own h = at h.behind.from h.behind.is h.behind.fits where
  at : (w : Verdict AttrType) → stands a ≡ verdict_map (argument h.value) w → IsType w h.back → IsSoundType a.ty
  at (stands ty) e f = let k : a ≡ argument h.value ty = cc in subst (λ (x : Arg). IsSoundType x.ty) (sym k) (type_sound ty h.back f)
  at (falls g) e f = absurd cc

pub arguments_sound : (arguments : List Arg) (own : List Token) → AreArguments (stands arguments) own → All (λ a. IsSoundType a.ty) arguments
arguments_sound arguments own h = elim h.behind [
  | inl k ↦ subst (λ (xs : List Arg). All (λ a. IsSoundType a.ty) xs) (sym k.is) (All-nil (λ (a : Arg). IsSoundType a.ty))
  | inr k ↦ closed_sound (λ a. IsSoundType a.ty) IsArgument argument_sound k.value arguments k.front k.back k.before k.behind
]

-- ---- what a call finds

pub type_found : (ts rest : List Token) (result : Result AttrType ReadFault) → IfOk result (λ ty. Begins IsType (VerdictStops TypeStops) ts (stands ty) rest) → IfOk result IsSoundType
type_found ts rest (Ok ty) h = type_sound ty h.own h.fits
type_found ts rest (Err e) h = tt

pub columns_found : (ts rest : List Token) (result : Result (List Column) ReadFault) → IfOk result (λ columns. Begins AreColumns (VerdictStops Anyhow) ts (stands columns) rest)
    → IfOk result (λ columns. All (λ c. IsSoundType c.ty) columns)
columns_found ts rest (Ok columns) h = columns_sound columns h.own h.fits
columns_found ts rest (Err e) h = tt

pub arguments_found : (ts rest : List Token) (result : Result (List Arg) ReadFault) → IfOk result (λ arguments. Begins AreArguments (VerdictStops Anyhow) ts (stands arguments) rest)
    → IfOk result (λ arguments. All (λ a. IsSoundType a.ty) arguments)
arguments_found ts rest (Ok arguments) h = arguments_sound arguments h.own h.fits
arguments_found ts rest (Err e) h = tt
