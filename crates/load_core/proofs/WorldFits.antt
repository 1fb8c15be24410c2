-- What the judge's columns read fits their types.
use Rattle.std.proofs.Common.{◌≡◌, [], Ok, false, subst}
use Rattle.dict_value.proofs.ReadTypes.{read-typed}
use Rattle.dict_value.specs.declared.value.ColType.TheVariants.{Str, UInt64}
use Rattle.dict_value.specs.declared.value.Field.{Field}
use Rattle.dict_value.specs.declared.value.Field.TheVariants as field
use Rattle.dict_value.specs.declared.value.Value.{Value}
use Rattle.dict_value.specs.declared.value.Value.TheVariants.{Null, U, I, S, Day, Second, Id, V4, V6, Dec}
use Rattle.dict_value.specs.Values.{FitsColumn, HasType}
use Rattle.row_text.specs.Fitting.{AllFit}
use Rattle.load_core.specs.WorldRows.{key_column, text_column, world_columns, world_types}

key-type : (v : Value) → HasType UInt64 v → FitsColumn (record { base = UInt64; nullable = false }) v
key-type Null is = absurd is
key-type (U n) is = is
key-type (I n) is = absurd is
key-type (S n) is = absurd is
key-type (Day n) is = absurd is
key-type (Second n) is = absurd is
key-type (Id n) is = absurd is
key-type (V4 n) is = absurd is
key-type (V6 n) is = absurd is
key-type (Dec n) is = absurd is

key-fits : (seen : Field) (v : Value) → key_column seen ≡ Ok v → FitsColumn (record { base = UInt64; nullable = false }) v
key-fits field.Null v is = absurd (cc)
key-fits (field.Text text) v is = key-type v (read-typed UInt64 text v is)

text-fits : (seen : Field) (v : Value) → text_column seen ≡ Ok v → FitsColumn (record { base = Str; nullable = false }) v
text-fits field.Null v is = let same : S [] ≡ v = cc in subst (λ w. FitsColumn (record { base = Str; nullable = false }) w) same tt
text-fits (field.Text text) v is = let same : S text ≡ v = cc in subst (λ w. FitsColumn (record { base = Str; nullable = false }) w) same tt

pub world-fits : AllFit world_columns world_types
world-fits = (key-fits, (text-fits, tt))
