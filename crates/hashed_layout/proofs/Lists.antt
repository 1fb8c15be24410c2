-- Lemmas on lists.
use Rattle.std.proofs.Common.{◌≡◌, ◌≢◌, ℕ, zero, suc, ◌+◌, ◌<◌, ◌≤◌, List, [], ◌∷◌, ◌++◌, length, set, replicate, Some, refl, ap, arith}
use Rattle.std.specs.List.{slice_get}
use Rattle.hashed_layout.specs.steps.KeyFilling.{zeros}

pub get-set_same : {A : Type 0} (xs : List A) (i : ℕ) (v : A) → i < length xs → slice_get (set xs i v) i ≡ Some v
get-set_same [] i v l = absurd (omega arith)
get-set_same (x ∷ xs) zero v l = refl
get-set_same (x ∷ xs) (suc i) v l = get-set_same xs i v (omega arith)

pub get-set_other : {A : Type 0} (xs : List A) (i j : ℕ) (v : A) → j ≢ i → slice_get (set xs i v) j ≡ slice_get xs j
get-set_other [] i j v other = refl
get-set_other (x ∷ xs) zero zero v other = absurd (other refl)
get-set_other (x ∷ xs) zero (suc j) v other = refl
get-set_other (x ∷ xs) (suc i) zero v other = refl
get-set_other (x ∷ xs) (suc i) (suc j) v other = get-set_other xs i j v (λ e. other (ap suc e))

pub get-append_left : {A : Type 0} (xs ys : List A) (i : ℕ) → i < length xs → slice_get (xs ++ ys) i ≡ slice_get xs i
get-append_left [] ys i l = absurd (omega arith)
get-append_left (x ∷ xs) ys zero l = refl
get-append_left (x ∷ xs) ys (suc i) l = get-append_left xs ys i (omega arith)

pub get-append_here : {A : Type 0} (xs : List A) (y : A) → slice_get (xs ++ y ∷ []) (length xs) ≡ Some y
get-append_here [] y = refl
get-append_here (x ∷ xs) y = get-append_here xs y

pub zeros-replicate : (n : ℕ) → zeros (replicate n 0) ≡ n
zeros-replicate zero = refl
zeros-replicate (suc n) = let e = zeros-replicate n in omega (arith, e)

pub zeros-set : (cs : List ℕ) (i v : ℕ) → zeros cs ≤ zeros (set cs i v) + 1
zeros-set [] i v = omega arith
zeros-set (zero ∷ cs) zero zero = omega arith
zeros-set (zero ∷ cs) zero (suc v) = omega arith
zeros-set (suc c ∷ cs) zero zero = omega arith
zeros-set (suc c ∷ cs) zero (suc v) = omega arith
zeros-set (zero ∷ cs) (suc i) v = let e = zeros-set cs i v in omega (arith, e)
zeros-set (suc c ∷ cs) (suc i) v = zeros-set cs i v
