-- A number, and another where there is one.
use Rattle.std.specs.Option.{option_to_list}
use Rattle.std.specs.Prelude.{Contains}
use Rattle.std.proofs.Common.{◌≡◌, ◌≤◌, ◌∷◌, ◌⊎◌, ℕ, zero, suc, Option, Some, None, length, inl, inr, sym, ap, arith}

pub length-both : (x : ℕ) (o : Option ℕ) → length (x ∷ option_to_list o) ≤ 2
length-both x None = omega arith
length-both x (Some y) = omega arith

pub both-second : (x : ℕ) (o : Option ℕ) (n : ℕ) → o ≡ Some n → Contains (x ∷ option_to_list o) n
both-second x None n e = cc
both-second x (Some y) n e = let s : y ≡ n = cc in (1, omega arith, s)

pub in-both : (x : ℕ) (o : Option ℕ) (n : ℕ) → Contains (x ∷ option_to_list o) n → (n ≡ x) ⊎ (o ≡ Some n)
in-both x None n (zero, l, e) = inl (sym e)
in-both x None n (suc k, l, e) = absurd (omega (arith, l))
in-both x (Some y) n (zero, l, e) = inl (sym e)
in-both x (Some y) n (suc zero, l, e) = inr (ap Some e)
in-both x (Some y) n (suc (suc k), l, e) = absurd (omega (arith, l))
