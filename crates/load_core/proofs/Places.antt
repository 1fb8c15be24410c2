-- A world with another dictionary or another caller at a place.
use Rattle.std.proofs.Common.{◌≡◌, ◌≢◌, ℕ, zero, suc, List, [], ◌∷◌, Option, Some, None, refl, sym, ◌∙◌, ap, slice_set, slice_get, unwrap_or}
use Rattle.std.proofs.lemmas.Option.{none-some, same_Some}
use Rattle.load_core.specs.declared.world.WorldDict.{WorldDict}
use Rattle.load_core.specs.declared.world.WorldCaller.{WorldCaller}
use Rattle.load_core.specs.declared.world.World.{World}
use Rattle.load_core.specs.WorldSteps.{dict_at, with_dict, known_to, caller_at, with_caller}

-- what is at a place after another item was put there
pub slice_get-set_same : {A : Type 0} (xs : List A) (i : ℕ) (x y : A) → slice_get xs i ≡ Some x → slice_get (slice_set xs i y) i ≡ Some y
slice_get-set_same [] i x y h = absurd (none-some x h)
slice_get-set_same (z ∷ zs) zero x y h = refl
slice_get-set_same (z ∷ zs) (suc i) x y h = slice_get-set_same zs i x y h

-- and at the others
pub slice_get-set_other : {A : Type 0} (xs : List A) (i j : ℕ) (y : A) → i ≢ j → slice_get (slice_set xs i y) j ≡ slice_get xs j
slice_get-set_other [] i j y h = refl
slice_get-set_other (z ∷ zs) zero zero y h = absurd (h refl)
slice_get-set_other (z ∷ zs) zero (suc j) y h = refl
slice_get-set_other (z ∷ zs) (suc i) zero y h = refl
slice_get-set_other (z ∷ zs) (suc i) (suc j) y h = slice_get-set_other zs i j y (λ e. h (ap suc e))

-- an item put where it stands changes nothing
pub set-slice_get : {A : Type 0} (xs : List A) (i : ℕ) (x : A) → slice_get xs i ≡ Some x → slice_set xs i x ≡ xs
set-slice_get [] i x h = refl
set-slice_get (z ∷ zs) zero x h = ap (λ y. y ∷ zs) (sym (same_Some z x h))
set-slice_get (z ∷ zs) (suc i) x h = ap (λ ys. z ∷ ys) (set-slice_get zs i x h)

pub dict_at-with_same : (w : World) (d : ℕ) (x y : WorldDict) → dict_at w d ≡ Some x → dict_at (with_dict w d y) d ≡ Some y
dict_at-with_same w d x y h = slice_get-set_same w.dictionaries d x y h

pub dict_at-with_other : (w : World) (d e : ℕ) (y : WorldDict) → d ≢ e → dict_at (with_dict w d y) e ≡ dict_at w e
dict_at-with_other w d e y h = slice_get-set_other w.dictionaries d e y h

pub with_dict_same : (w : World) (d : ℕ) (x : WorldDict) → dict_at w d ≡ Some x → with_dict w d x ≡ w
with_dict_same w d x h = ap (λ (xs : List WorldDict). record w { dictionaries = xs }) (set-slice_get w.dictionaries d x h)

-- a caller of whom something is known is there
known_is : (w : World) (c d : ℕ) (u : WorldCaller) → caller_at w c d ≡ Some u → slice_get w.callers c ≡ Some (known_to w c)
known_is w c d u h = go (slice_get w.callers c) h
  where
    go : (o : Option (List WorldCaller)) → slice_get (unwrap_or o []) d ≡ Some u → o ≡ Some (unwrap_or o [])
    go None e = absurd (none-some u e)
    go (Some us) e = refl

known_to-with_same : (w : World) (c d : ℕ) (u v : WorldCaller) → caller_at w c d ≡ Some u → known_to (with_caller w c d v) c ≡ slice_set (known_to w c) d v
known_to-with_same w c d u v h =
    ap (λ (o : Option (List WorldCaller)). unwrap_or o []) (slice_get-set_same w.callers c (known_to w c) (slice_set (known_to w c) d v) (known_is w c d u h))

known_to-with_other : (w : World) (c d b : ℕ) (v : WorldCaller) → c ≢ b → known_to (with_caller w c d v) b ≡ known_to w b
known_to-with_other w c d b v h =
    ap (λ (o : Option (List WorldCaller)). unwrap_or o []) (slice_get-set_other w.callers c b (slice_set (known_to w c) d v) h)

pub caller_at-with_same : (w : World) (c d : ℕ) (u v : WorldCaller) → caller_at w c d ≡ Some u → caller_at (with_caller w c d v) c d ≡ Some v
caller_at-with_same w c d u v h =
    ap (λ (us : List WorldCaller). slice_get us d) (known_to-with_same w c d u v h) ∙ slice_get-set_same (known_to w c) d u v h

pub caller_at-with_other_dict : (w : World) (c d e : ℕ) (u v : WorldCaller) → caller_at w c d ≡ Some u → d ≢ e → caller_at (with_caller w c d v) c e ≡ caller_at w c e
caller_at-with_other_dict w c d e u v h n =
    ap (λ (us : List WorldCaller). slice_get us e) (known_to-with_same w c d u v h) ∙ slice_get-set_other (known_to w c) d e v n

pub caller_at-with_other : (w : World) (c d b e : ℕ) (v : WorldCaller) → c ≢ b → caller_at (with_caller w c d v) b e ≡ caller_at w b e
caller_at-with_other w c d b e v n = ap (λ (us : List WorldCaller). slice_get us e) (known_to-with_other w c d b v n)
