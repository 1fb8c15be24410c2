-- The values of a decoded row fit its columns.
use Rattle.std.proofs.Common.{◌≡◌, ◌⊎◌, ◌∷◌, [], Bool, true, false, List, Ok, length, map, refl, sym, subst, inl, inr, arith}
use Rattle.std.specs.List.{AllByRecursion, AllZip}
use Rattle.dict_schema.specs.declared.definition.Role.{Role}
use Rattle.dict_schema.specs.declared.definition.Role.TheVariants as role
use Rattle.dict_schema.specs.declared.definition.ShapeColumn.{ShapeColumn}
use Rattle.dict_value.specs.declared.value.AttrType.{AttrType}
use Rattle.dict_value.specs.declared.value.ColType.{ColType}
use Rattle.dict_value.specs.declared.value.ColType.TheVariants as type
use Rattle.dict_value.specs.declared.value.Field.{Field}
use Rattle.dict_value.specs.declared.value.Field.TheVariants as field
use Rattle.dict_value.specs.declared.value.Format.{Format}
use Rattle.dict_value.specs.declared.value.Value.{Value}
use Rattle.dict_value.specs.declared.value.Value.TheVariants.{Null, U, I, S, Day, Second, Id, V4, V6, Dec}
use Rattle.dict_value.specs.Values.{FitsColumn, HasType}
use Rattle.row_text.specs.Decoding.{readings}
use Rattle.rows_typed.specs.Fits.{FitsRole, FitsShape, HasFittingDefaults}
use Rattle.rows_typed.specs.Shapes.{columns_of, null_at, seen_field, value_at}
use Rattle.dict_value.proofs.ReadTypes.{read-typed}

never-null : (t : ColType) → HasType t Null → (A : Type 0) → A
never-null type.UInt8 h A = absurd h
never-null type.UInt16 h A = absurd h
never-null type.UInt32 h A = absurd h
never-null type.UInt64 h A = absurd h
never-null type.Int8 h A = absurd h
never-null type.Int16 h A = absurd h
never-null type.Int32 h A = absurd h
never-null type.Int64 h A = absurd h
never-null type.Str h A = absurd h
never-null type.Date h A = absurd h
never-null type.DateTime h A = absurd h
never-null type.Uuid h A = absurd h
never-null type.Ipv4 h A = absurd h
never-null type.Ipv6 h A = absurd h
never-null (type.Decimal digits scale) h A = absurd h

allowed-null : (r : Role) (t : AttrType) → t.nullable ≡ true → FitsRole r t Null
allowed-null role.Start t h = refl
allowed-null role.End t h = refl
allowed-null role.Key t h = h
allowed-null role.Attribute t h = h

-- a value is Null, or fits a role wherever it has the type or fits the column
by-role : (r : Role) (t : AttrType) (v : Value) → (v ≡ Null) ⊎ ((HasType t.base v → FitsRole r t v) × (FitsColumn t v → FitsRole r t v))
by-role r t Null = inl refl
by-role r t (U n) = inr ((λ h. h), (λ h. h))
by-role r t (I n) = inr ((λ h. h), (λ h. h))
by-role r t (S n) = inr ((λ h. h), (λ h. h))
by-role r t (Day n) = inr ((λ h. h), (λ h. h))
by-role r t (Second n) = inr ((λ h. h), (λ h. h))
by-role r t (Id n) = inr ((λ h. h), (λ h. h))
by-role r t (V4 n) = inr ((λ h. h), (λ h. h))
by-role r t (V6 n) = inr ((λ h. h), (λ h. h))
by-role r t (Dec n) = inr ((λ h. h), (λ h. h))

typed-fits : (r : Role) (t : AttrType) (v : Value) → HasType t.base v → FitsRole r t v
typed-fits r t v h = elim (by-role r t v) [
  | inl none ↦ never-null t.base (subst (HasType t.base) none h) (FitsRole r t v)
  | inr fits ↦ fits.0 h
]

column-fits : (r : Role) (t : AttrType) (v : Value) → FitsColumn t v → FitsRole r t v
column-fits r t v h = elim (by-role r t v) [
  | inl none ↦ subst (FitsRole r t) (sym none) (allowed-null r t (subst (FitsColumn t) none h))
  | inr fits ↦ fits.1 h
]

-- what NULL becomes
null-fits : (r : Role) (t : AttrType) (b : Bool) (default v : Value) → t.nullable ≡ b → FitsColumn t default → null_at r b default ≡ Ok v → FitsRole r t v
null-fits role.Start t b default v n d e = let same : Null ≡ v = cc in subst (FitsRole role.Start t) same refl
null-fits role.End t b default v n d e = let same : Null ≡ v = cc in subst (FitsRole role.End t) same refl
null-fits role.Key t true default v n d e = let same : Null ≡ v = cc in subst (FitsRole role.Key t) same n
null-fits role.Key t false default v n d e = absurd (cc)
null-fits role.Attribute t true default v n d e = let same : Null ≡ v = cc in subst (FitsRole role.Attribute t) same n
null-fits role.Attribute t false default v n d e =
    let same : default ≡ v = cc in subst (FitsRole role.Attribute t) same (column-fits role.Attribute t default d)

pub value-fits : (column : ShapeColumn) (seen : Field) (v : Value) → FitsColumn column.ty column.default → value_at column seen ≡ Ok v → FitsRole column.role column.ty v
value-fits column field.Null v d e = null-fits column.role column.ty column.ty.nullable column.default v refl d e
value-fits column (field.Text text) v d e = typed-fits column.role column.ty v (read-typed column.ty.base text v e)

-- a row
pub row-fits : (format : Format) (shape : List ShapeColumn) (fields : List Field) (row : List Value) → HasFittingDefaults shape
    → length fields ≡ length (columns_of format shape) → readings (columns_of format shape) fields ≡ map Ok row → FitsShape shape row
row-fits format [] [] [] d long e = tt
row-fits format [] [] (v ∷ row) d long e = absurd (cc)
row-fits format [] (f ∷ fields) row d long e = absurd (omega arith)
row-fits format (column ∷ shape) [] row d long e = absurd (omega arith)
row-fits format (column ∷ shape) (f ∷ fields) [] d long e = absurd (cc)
row-fits format (column ∷ shape) (f ∷ fields) (v ∷ row) d long e =
    (value-fits column (seen_field format column.ty f) v d.0 (cc), row-fits format shape fields row d.1 (omega arith) (cc))

-- rows
pub each-fits : {A B : Type 0} (R : A → B → Type 0) (P : B → Type 0) (xs : List A) (ys : List B) → ((x : A) (y : B) → R x y → P y) → AllZip R xs ys → AllByRecursion P ys
each-fits R P [] [] step h = tt
each-fits R P [] (y ∷ ys) step h = absurd h
each-fits R P (x ∷ xs) [] step h = absurd h
each-fits R P (x ∷ xs) (y ∷ ys) step h = (step x y h.0, each-fits R P xs ys step h.1)
