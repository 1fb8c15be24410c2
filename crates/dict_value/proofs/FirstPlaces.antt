-- What is found by a key.
use Rattle.std.proofs.Common.{◌≡◌, ℕ, List, Option, Some, None, ap, refl, arith, inl, inr}
use Rattle.std.proofs.lemmas.Bool.{cases_lt}
use Rattle.dict_value.specs.FindByKey.{FindsByKey}

-- of two least places neither is the lesser
pub one-found : {K : Type 0} (keys : List K) (key : K) (a b : Option ℕ) → FindsByKey keys key a → FindsByKey keys key b → a ≡ b
one-found keys key None None f g = refl
one-found keys key None (Some q) f g = absurd (f q g.equal)
one-found keys key (Some p) None f g = absurd (g p f.equal)
one-found keys key (Some p) (Some q) f g = elim (cases_lt p q) [
  | inl less ↦ absurd (g.least p less f.equal)
  | inr most ↦ elim (cases_lt q p) [
    | inl less ↦ absurd (f.least q less g.equal)
    | inr same ↦ let e : p ≡ q = omega arith in ap Some e
  ]
]
