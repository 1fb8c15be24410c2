-- Lemmas on lists.
use Rattle.std.specs.List.{slice_get}
use Rattle.std.proofs.Common.{◌≡◌, Bool, true, false, ℕ, zero, suc, ◌<◌, List, [], ◌∷◌, ◌++◌, length, get_or, Some, refl, arith}
use mathlib.Core.Bool.{beq, not}
use Rattle.std.proofs.lemmas.Option.{get_or_from_slice_get, slice_get-get_or, slice_get_read}

-- what was read, whatever stands past the end
pub read-is : {A : Type 0} (xs : List A) (i : ℕ) (x d : A) → i < length xs → x ≡ get_or xs i x → get_or xs i d ≡ x
read-is xs i x d l e = get_or_from_slice_get xs i x d (slice_get_read xs (length xs) i x refl l e)

-- what stands in a list doesn't depend on what would stand past its end
pub any-default : {A : Type 0} (xs : List A) (i : ℕ) (d e : A) → i < length xs → get_or xs i d ≡ get_or xs i e
any-default xs i d e l = get_or_from_slice_get xs i (get_or xs i e) d (slice_get-get_or xs i e l)

pub same-bool : (a b : Bool) → not (beq a b) ≡ false → a ≡ b
same-bool true true e = refl
same-bool true false e = absurd (cc (e))
same-bool false true e = absurd (cc (e))
same-bool false false e = refl

pub get-append_left : {A : Type 0} (xs ys : List A) (i : ℕ) → i < length xs → slice_get (xs ++ ys) i ≡ slice_get xs i
get-append_left [] ys i l = absurd (omega arith)
get-append_left (x ∷ xs) ys zero l = refl
get-append_left (x ∷ xs) ys (suc i) l = get-append_left xs ys i (omega arith)

pub get-append_here : {A : Type 0} (xs : List A) (y : A) → slice_get (xs ++ y ∷ []) (length xs) ≡ Some y
get-append_here [] y = refl
get-append_here (x ∷ xs) y = get-append_here xs y
