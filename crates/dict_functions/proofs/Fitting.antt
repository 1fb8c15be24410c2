-- A value of which it can't be that it doesn't fit its column fits it.
use Rattle.std.proofs.Common.{◌<◌, ◌^◌, ℕ, Bool, true, false, IsTrue, refl, inl, inr, arith, min}
use Rattle.std.specs.Prelude.{unsigned_abs}
use Rattle.std.proofs.lemmas.Bool.{cases_lt}
use Rattle.dict_value.specs.Numbers.{is_within}
use Rattle.dict_value.specs.Values.{FitsColumn, HasType}
use Rattle.dict_value.specs.declared.value.AttrType.{AttrType}
use Rattle.dict_value.specs.declared.value.ColType.{ColType}
use Rattle.dict_value.specs.declared.value.ColType.TheVariants as type
use Rattle.dict_value.specs.declared.value.Value.{Value}
use Rattle.dict_value.specs.declared.value.Value.TheVariants.{U, I, S, Day, Second, Id, V4, V6, Dec, Null}

-- it can't be that this doesn't hold
abbrev CantFail : Type 0 → Type 0
CantFail P = (P → ⊥) → ⊥

below : (n bound : ℕ) → CantFail (n < bound) → n < bound
below n bound un = elim (cases_lt n bound) [
  | inl low ↦ low
  | inr high ↦ absurd (un (λ low. omega (arith, low, high)))
]

tested : (b : Bool) → CantFail (IsTrue b) → IsTrue b
tested true un = refl
tested false un = absurd (un (λ is. cc))

typed : (t : ColType) (v : Value) → CantFail (HasType t v) → HasType t v
typed type.UInt8 (U n) un = below n (2 ^ 8) un
typed type.UInt8 (I z) un = absurd (un (λ h. h))
typed type.UInt8 (S text) un = absurd (un (λ h. h))
typed type.UInt8 (Day n) un = absurd (un (λ h. h))
typed type.UInt8 (Second n) un = absurd (un (λ h. h))
typed type.UInt8 (Id n) un = absurd (un (λ h. h))
typed type.UInt8 (V4 n) un = absurd (un (λ h. h))
typed type.UInt8 (V6 n) un = absurd (un (λ h. h))
typed type.UInt8 (Dec z) un = absurd (un (λ h. h))
typed type.UInt8 Null un = absurd (un (λ h. h))
typed type.UInt16 (U n) un = below n (2 ^ 16) un
typed type.UInt16 (I z) un = absurd (un (λ h. h))
typed type.UInt16 (S text) un = absurd (un (λ h. h))
typed type.UInt16 (Day n) un = absurd (un (λ h. h))
typed type.UInt16 (Second n) un = absurd (un (λ h. h))
typed type.UInt16 (Id n) un = absurd (un (λ h. h))
typed type.UInt16 (V4 n) un = absurd (un (λ h. h))
typed type.UInt16 (V6 n) un = absurd (un (λ h. h))
typed type.UInt16 (Dec z) un = absurd (un (λ h. h))
typed type.UInt16 Null un = absurd (un (λ h. h))
typed type.UInt32 (U n) un = below n (2 ^ 32) un
typed type.UInt32 (I z) un = absurd (un (λ h. h))
typed type.UInt32 (S text) un = absurd (un (λ h. h))
typed type.UInt32 (Day n) un = absurd (un (λ h. h))
typed type.UInt32 (Second n) un = absurd (un (λ h. h))
typed type.UInt32 (Id n) un = absurd (un (λ h. h))
typed type.UInt32 (V4 n) un = absurd (un (λ h. h))
typed type.UInt32 (V6 n) un = absurd (un (λ h. h))
typed type.UInt32 (Dec z) un = absurd (un (λ h. h))
typed type.UInt32 Null un = absurd (un (λ h. h))
typed type.UInt64 (U n) un = below n (2 ^ 64) un
typed type.UInt64 (I z) un = absurd (un (λ h. h))
typed type.UInt64 (S text) un = absurd (un (λ h. h))
typed type.UInt64 (Day n) un = absurd (un (λ h. h))
typed type.UInt64 (Second n) un = absurd (un (λ h. h))
typed type.UInt64 (Id n) un = absurd (un (λ h. h))
typed type.UInt64 (V4 n) un = absurd (un (λ h. h))
typed type.UInt64 (V6 n) un = absurd (un (λ h. h))
typed type.UInt64 (Dec z) un = absurd (un (λ h. h))
typed type.UInt64 Null un = absurd (un (λ h. h))
typed type.Int8 (U n) un = absurd (un (λ h. h))
typed type.Int8 (I z) un = tested (is_within (2 ^ 7) z) un
typed type.Int8 (S text) un = absurd (un (λ h. h))
typed type.Int8 (Day n) un = absurd (un (λ h. h))
typed type.Int8 (Second n) un = absurd (un (λ h. h))
typed type.Int8 (Id n) un = absurd (un (λ h. h))
typed type.Int8 (V4 n) un = absurd (un (λ h. h))
typed type.Int8 (V6 n) un = absurd (un (λ h. h))
typed type.Int8 (Dec z) un = absurd (un (λ h. h))
typed type.Int8 Null un = absurd (un (λ h. h))
typed type.Int16 (U n) un = absurd (un (λ h. h))
typed type.Int16 (I z) un = tested (is_within (2 ^ 15) z) un
typed type.Int16 (S text) un = absurd (un (λ h. h))
typed type.Int16 (Day n) un = absurd (un (λ h. h))
typed type.Int16 (Second n) un = absurd (un (λ h. h))
typed type.Int16 (Id n) un = absurd (un (λ h. h))
typed type.Int16 (V4 n) un = absurd (un (λ h. h))
typed type.Int16 (V6 n) un = absurd (un (λ h. h))
typed type.Int16 (Dec z) un = absurd (un (λ h. h))
typed type.Int16 Null un = absurd (un (λ h. h))
typed type.Int32 (U n) un = absurd (un (λ h. h))
typed type.Int32 (I z) un = tested (is_within (2 ^ 31) z) un
typed type.Int32 (S text) un = absurd (un (λ h. h))
typed type.Int32 (Day n) un = absurd (un (λ h. h))
typed type.Int32 (Second n) un = absurd (un (λ h. h))
typed type.Int32 (Id n) un = absurd (un (λ h. h))
typed type.Int32 (V4 n) un = absurd (un (λ h. h))
typed type.Int32 (V6 n) un = absurd (un (λ h. h))
typed type.Int32 (Dec z) un = absurd (un (λ h. h))
typed type.Int32 Null un = absurd (un (λ h. h))
typed type.Int64 (U n) un = absurd (un (λ h. h))
typed type.Int64 (I z) un = tested (is_within (2 ^ 63) z) un
typed type.Int64 (S text) un = absurd (un (λ h. h))
typed type.Int64 (Day n) un = absurd (un (λ h. h))
typed type.Int64 (Second n) un = absurd (un (λ h. h))
typed type.Int64 (Id n) un = absurd (un (λ h. h))
typed type.Int64 (V4 n) un = absurd (un (λ h. h))
typed type.Int64 (V6 n) un = absurd (un (λ h. h))
typed type.Int64 (Dec z) un = absurd (un (λ h. h))
typed type.Int64 Null un = absurd (un (λ h. h))
typed type.Str (U n) un = absurd (un (λ h. h))
typed type.Str (I z) un = absurd (un (λ h. h))
typed type.Str (S text) un = tt
typed type.Str (Day n) un = absurd (un (λ h. h))
typed type.Str (Second n) un = absurd (un (λ h. h))
typed type.Str (Id n) un = absurd (un (λ h. h))
typed type.Str (V4 n) un = absurd (un (λ h. h))
typed type.Str (V6 n) un = absurd (un (λ h. h))
typed type.Str (Dec z) un = absurd (un (λ h. h))
typed type.Str Null un = absurd (un (λ h. h))
typed type.Date (U n) un = absurd (un (λ h. h))
typed type.Date (I z) un = absurd (un (λ h. h))
typed type.Date (S text) un = absurd (un (λ h. h))
typed type.Date (Day n) un = below n (2 ^ 16) un
typed type.Date (Second n) un = absurd (un (λ h. h))
typed type.Date (Id n) un = absurd (un (λ h. h))
typed type.Date (V4 n) un = absurd (un (λ h. h))
typed type.Date (V6 n) un = absurd (un (λ h. h))
typed type.Date (Dec z) un = absurd (un (λ h. h))
typed type.Date Null un = absurd (un (λ h. h))
typed type.DateTime (U n) un = absurd (un (λ h. h))
typed type.DateTime (I z) un = absurd (un (λ h. h))
typed type.DateTime (S text) un = absurd (un (λ h. h))
typed type.DateTime (Day n) un = absurd (un (λ h. h))
typed type.DateTime (Second n) un = below n (2 ^ 32) un
typed type.DateTime (Id n) un = absurd (un (λ h. h))
typed type.DateTime (V4 n) un = absurd (un (λ h. h))
typed type.DateTime (V6 n) un = absurd (un (λ h. h))
typed type.DateTime (Dec z) un = absurd (un (λ h. h))
typed type.DateTime Null un = absurd (un (λ h. h))
typed type.Uuid (U n) un = absurd (un (λ h. h))
typed type.Uuid (I z) un = absurd (un (λ h. h))
typed type.Uuid (S text) un = absurd (un (λ h. h))
typed type.Uuid (Day n) un = absurd (un (λ h. h))
typed type.Uuid (Second n) un = absurd (un (λ h. h))
typed type.Uuid (Id n) un = below n (2 ^ 128) un
typed type.Uuid (V4 n) un = absurd (un (λ h. h))
typed type.Uuid (V6 n) un = absurd (un (λ h. h))
typed type.Uuid (Dec z) un = absurd (un (λ h. h))
typed type.Uuid Null un = absurd (un (λ h. h))
typed type.Ipv4 (U n) un = absurd (un (λ h. h))
typed type.Ipv4 (I z) un = absurd (un (λ h. h))
typed type.Ipv4 (S text) un = absurd (un (λ h. h))
typed type.Ipv4 (Day n) un = absurd (un (λ h. h))
typed type.Ipv4 (Second n) un = absurd (un (λ h. h))
typed type.Ipv4 (Id n) un = absurd (un (λ h. h))
typed type.Ipv4 (V4 n) un = below n (2 ^ 32) un
typed type.Ipv4 (V6 n) un = absurd (un (λ h. h))
typed type.Ipv4 (Dec z) un = absurd (un (λ h. h))
typed type.Ipv4 Null un = absurd (un (λ h. h))
typed type.Ipv6 (U n) un = absurd (un (λ h. h))
typed type.Ipv6 (I z) un = absurd (un (λ h. h))
typed type.Ipv6 (S text) un = absurd (un (λ h. h))
typed type.Ipv6 (Day n) un = absurd (un (λ h. h))
typed type.Ipv6 (Second n) un = absurd (un (λ h. h))
typed type.Ipv6 (Id n) un = absurd (un (λ h. h))
typed type.Ipv6 (V4 n) un = absurd (un (λ h. h))
typed type.Ipv6 (V6 n) un = below n (2 ^ 128) un
typed type.Ipv6 (Dec z) un = absurd (un (λ h. h))
typed type.Ipv6 Null un = absurd (un (λ h. h))
typed (type.Decimal digits scale) (U n) un = absurd (un (λ h. h))
typed (type.Decimal digits scale) (I z) un = absurd (un (λ h. h))
typed (type.Decimal digits scale) (S text) un = absurd (un (λ h. h))
typed (type.Decimal digits scale) (Day n) un = absurd (un (λ h. h))
typed (type.Decimal digits scale) (Second n) un = absurd (un (λ h. h))
typed (type.Decimal digits scale) (Id n) un = absurd (un (λ h. h))
typed (type.Decimal digits scale) (V4 n) un = absurd (un (λ h. h))
typed (type.Decimal digits scale) (V6 n) un = absurd (un (λ h. h))
typed (type.Decimal digits scale) (Dec z) un = below (unsigned_abs z) (10 ^ min digits 38) un
typed (type.Decimal digits scale) Null un = absurd (un (λ h. h))

pub fits : (t : AttrType) (v : Value) → CantFail (FitsColumn t v) → FitsColumn t v
fits t Null un = tested t.nullable un
fits t (U n) un = typed t.base (U n) un
fits t (I z) un = typed t.base (I z) un
fits t (S text) un = typed t.base (S text) un
fits t (Day n) un = typed t.base (Day n) un
fits t (Second n) un = typed t.base (Second n) un
fits t (Id n) un = typed t.base (Id n) un
fits t (V4 n) un = typed t.base (V4 n) un
fits t (V6 n) un = typed t.base (V6 n) un
fits t (Dec z) un = typed t.base (Dec z) un
