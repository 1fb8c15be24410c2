-- A whole number that is read as a UInt64 and bounded.
use Rattle.std.proofs.Common.{◌≡◌, ◌≢◌, ℕ, ◌<◌, ◌^◌, Bool, true, false, cond, List, Option, Some, None, Result, Ok, Err, refl, sym, ap, ◌∙◌, arith}
use Rattle.std.specs.Prelude.{nat_lt, nat_le, if◌then◌else◌}
use Rattle.std.specs.Option.{option_and_then}
use Rattle.std.proofs.lemmas.Bool.{cond-false}
use Rattle.std.proofs.lemmas.Bool.Decides.{nat_tests}
use Rattle.dict_value.specs.declared.value.ColType.TheVariants.{UInt64}
use Rattle.dict_value.specs.declared.value.Value.{Value}
use Rattle.dict_value.specs.declared.value.Value.TheVariants.{U}
use Rattle.dict_value.specs.declared.value.BadValue.{BadValue}
use Rattle.dict_value.specs.declared.value.BadValue.TheVariants as bad
use Rattle.dict_value.specs.Memory.{UnlessNoMemory}
use Rattle.dict_value.specs.Numbers.{unsigned_in, given, below}
use Rattle.dict_value.specs.Values.{text_reading, as_value, IsStringText}
use Rattle.ddl_clauses.specs.Choices.{whole_in, whole_from}

bounded : (most n : ℕ) → most < 2 ^ 64 → (b : Bool) → nat_lt n (2 ^ 64) ≡ b → whole_from most (as_value U (cond b (Ok n) (Err bad.OutOfRange))) ≡ cond (nat_le n most) (Some n) None
bounded most n h true e = refl
bounded most n h false e = sym (cond-false (nat_le n most) (Some n) None (grind (arith, nat_tests)))

given_is : (most : ℕ) → most < 2 ^ 64 → (o : Option ℕ) → whole_from most (as_value U (given o bad.NotANumber (below (2 ^ 64)))) ≡ option_and_then (λ n. if nat_le n most then Some n else None) o
given_is most h None = refl
given_is most h (Some n) = bounded most n h (nat_lt n (2 ^ 64)) refl

pub whole_is : (most : ℕ) (text : List ℕ) (r : Result Value BadValue) → most < 2 ^ 64 → UnlessNoMemory (Err bad.NoMemory) r (r ≡ text_reading UInt64 text) → (r ≡ Err bad.NoMemory → IsStringText UInt64 text)
    → whole_from most r ≡ whole_in most text
unfolding text_reading
whole_is most text r h exact memory =
    let enough : r ≢ Err bad.NoMemory = λ e. let x = (memory e).0 in absurd cc in
    ap (whole_from most) (exact enough) ∙ given_is most h (unsigned_in text)
