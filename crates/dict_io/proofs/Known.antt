-- Known bytes that grow, and known bytes that are taken from the front.
use Rattle.std.proofs.Common.{◌≡◌, ℕ, ◌+◌, ◌-◌, List, [], ◌++◌, length, take, drop, append_assoc, refl, ap, sym, ◌∙◌, arith, Option, Some, None}
use Rattle.std.proofs.lemmas.Grind.{common_steps}
use Rattle.std.proofs.Math.Seq.{take-add}
use Rattle.std.proofs.lemmas.List.{take-append-drop}
use Rattle.std.specs.Io.KnownBytes.{prepend_known, append_known}

-- two writes, one after the other
pub append_known-twice : (o : Option (List ℕ)) (a b : List ℕ) → append_known (append_known o a) b ≡ append_known o (a ++ b)
append_known-twice None a b = refl
append_known-twice (Some xs) a b = ap (λ z. Some z) (append_assoc xs a b)

-- nothing was written
pub append_known-none : (o : Option (List ℕ)) → append_known o [] ≡ o
append_known-none None = refl
append_known-none (Some xs) = grind (arith, common_steps)

-- two reads, one after the other
pub prepend_known-twice : (o : Option (List ℕ)) (a b : List ℕ) → prepend_known a (prepend_known b o) ≡ prepend_known (a ++ b) o
prepend_known-twice None a b = refl
prepend_known-twice (Some xs) a b = ap (λ z. Some z) (sym (append_assoc a b xs))

-- the front of a list, and some more of it
pub take-more : (s : List ℕ) (i n : ℕ) → take i s ++ take n (drop i s) ≡ take (i + n) s
take-more s i n = sym (take-add i n s)

-- one write of a loop over the piece s
pub append_known-step : (o p q : Option (List ℕ)) (s : List ℕ) (i n : ℕ) → p ≡ append_known o (take i s) → q ≡ append_known p (take n (drop i s)) → q ≡ append_known o (take (i + n) s)
append_known-step o p q s i n e f = f ∙ ap (λ z. append_known z (take n (drop i s))) e ∙ append_known-twice o (take i s) (take n (drop i s)) ∙ ap (append_known o) (take-more s i n)

pub drop-drop : (s : List ℕ) (i n : ℕ) → drop n (drop i s) ≡ drop (i + n) s
drop-drop s i n = grind (arith, common_steps)

-- what `&s[i..]` is
pub tail-drop : (s : List ℕ) (i : ℕ) → take (length s - i) (drop i s) ≡ drop i s
tail-drop s i = grind (arith, common_steps)

-- one read of n bytes at a place
pub drop-read : (s : List ℕ) (i n : ℕ) → drop i s ≡ take n (drop i s) ++ drop (i + n) s
drop-read s i n = sym (ap (λ z. take n (drop i s) ++ z) (sym (drop-drop s i n)) ∙ take-append-drop n (drop i s))

-- bytes that were copied to the front of a buffer
pub read-copied : (s front back : List ℕ) (i n : ℕ) → front ≡ take n (drop i s) → length front ≡ n → drop i s ≡ take n (front ++ back) ++ drop (i + n) s
read-copied s front back i n e l = drop-read s i n ∙ ap (λ z. z ++ drop (i + n) s) (sym e ∙ grind (arith, common_steps))
