-- A text has one cut at the first of some byte.
use Rattle.std.proofs.Common.{◌≡◌, ◌<◌, ℕ, List, [], ◌∷◌, ◌++◌, refl, sym, arith}
use Rattle.std.specs.List.{AllByRecursion}
use Rattle.std.specs.Str.Parse.{AllDigits}
use Rattle.std.proofs.lemmas.Str.Parse.{digit_from_value}
use Rattle.dict_value.specs.Split.{Lacks}

-- what holds of each item of two lists holds of each of both
pub AllByRecursion-append : {X : Type 0} (P : X → Type 0) (xs ys : List X) → AllByRecursion P xs → AllByRecursion P ys → AllByRecursion P (xs ++ ys)
AllByRecursion-append P [] ys p q = q
AllByRecursion-append P (x ∷ xs) ys p q = (p.0, AllByRecursion-append P xs ys p.1 q)

-- and what follows from it for each item
pub AllByRecursion-map : {X : Type 0} (P Q : X → Type 0) → ((x : X) → P x → Q x) → (xs : List X) → AllByRecursion P xs → AllByRecursion Q xs
AllByRecursion-map P Q f [] p = tt
AllByRecursion-map P Q f (x ∷ xs) p = (f x p.0, AllByRecursion-map P Q f xs p.1)

-- a text that lacks a byte doesn't have it between two parts
pub lacks-not : (byte : ℕ) (a b : List ℕ) → Lacks byte (a ++ byte ∷ b) → ⊥
lacks-not byte [] b lacks = lacks.0 refl
lacks-not byte (x ∷ a) b lacks = lacks-not byte a b lacks.1

pub cut-once : (byte : ℕ) (a b c d : List ℕ) → Lacks byte a → Lacks byte c → a ++ byte ∷ b ≡ c ++ byte ∷ d → (a ≡ c) × (b ≡ d)
cut-once byte [] b [] d p q e = (refl, cc)
cut-once byte [] b (y ∷ c) d p q e =
    let same : byte ≡ y = cc in
    absurd (q.0 (sym same))
cut-once byte (x ∷ a) b [] d p q e =
    let same : x ≡ byte = cc in
    absurd (p.0 same)
cut-once byte (x ∷ a) b (y ∷ c) d p q e =
    let first : x ≡ y = cc in
    let tail : a ++ byte ∷ b ≡ c ++ byte ∷ d = cc in
    let both = cut-once byte a b c d p.1 q.1 tail in
    let front = both.0 in
    (cc, both.1)

-- digits have no byte but digits
pub digits-lack : (byte : ℕ) (digits : List ℕ) → byte < 48 → AllDigits 10 digits → Lacks byte digits
digits-lack byte [] low each = tt
digits-lack byte (c ∷ cs) low each =
    let digit = digit_from_value c each.0 in
    (omega (arith, digit), digits-lack byte cs low each.1)
