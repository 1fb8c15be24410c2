-- The last digits of a number, and digits without the zeros at their end.
use Rattle.std.proofs.Common.{◌≡◌, ◌≢◌, ℕ, zero, suc, ◌+◌, ◌-◌, ◌/◌, ◌%◌, ◌^◌, ◌<◌, ◌≤◌, List, [], ◌∷◌, ◌++◌, length, drop, set, refl, ap, sym, ◌∙◌, arith, inl, inr, ne_eqb, length-append}
use Rattle.std.proofs.Math.Nat.{div-div-eq-div-mul, pow-suc, mul_comm}
use Rattle.std.proofs.lemmas.List.{drop-set}
use Rattle.std.proofs.lemmas.Bool.{cases_eq}
use Rattle.dict_value.specs.Decimals.{last_digits, without_end_zeros}

pub length-last_digits : (count n : ℕ) → length (last_digits count n) ≡ count
unfolding last_digits
length-last_digits zero n = refl
length-last_digits (suc count) n = omega (arith, length-append (last_digits count (n / 10)) ((48 + n % 10) ∷ []), length-last_digits count (n / 10))

-- dropping one digit more
pub shifted : (n k : ℕ) → n / 10 ^ k / 10 ≡ n / 10 ^ (k + 1)
shifted n k = div-div-eq-div-mul n (10 ^ k) 10 ∙ ap (λ m. n / m) (sym (pow-suc 10 k) ∙ ap (λ j. 10 ^ j) (omega arith))

pub shifted_first : (n k : ℕ) → n / 10 / 10 ^ k ≡ n / 10 ^ suc k
shifted_first n k = div-div-eq-div-mul n 10 (10 ^ k) ∙ ap (λ m. n / m) (mul_comm 10 (10 ^ k) ∙ sym (pow-suc 10 k))

-- one digit more in front
pub last_digits_front : (k n : ℕ) → last_digits (suc k) n ≡ (48 + n / 10 ^ k % 10) ∷ last_digits k n
unfolding last_digits
last_digits_front zero n = ap (λ m. (48 + m % 10) ∷ []) (omega arith)
last_digits_front (suc k) n =
    ap (λ l. l ++ (48 + n % 10) ∷ []) (last_digits_front k (n / 10))
    ∙ ap (λ m. (48 + m % 10) ∷ (last_digits k (n / 10) ++ (48 + n % 10) ∷ [])) (shifted_first n k)

-- one digit more, written at its place
pub digits_step : (room : List ℕ) (place n : ℕ) → 0 < place → place ≤ length room → drop place room ≡ last_digits (length room - place) n
    → drop (place - 1) (set room (place - 1) (48 + n / 10 ^ (length room - place) % 10)) ≡ last_digits (length room - (place - 1)) n
digits_step room place n low high so_far =
    let digit = 48 + n / 10 ^ (length room - place) % 10 in
    let next : length room - (place - 1) ≡ suc (length room - place) = omega arith in
    let here : place - 1 + 1 ≡ place = omega arith in
    drop-set room (place - 1) digit (omega arith) ∙ ap (λ i. digit ∷ drop i room) here ∙ ap (λ l. digit ∷ l) so_far
    ∙ sym (last_digits_front (length room - place) n) ∙ ap (λ j. last_digits j n) (sym next)

-- a zero at the end is left out, and another digit stays
pub end_zero : (ds : List ℕ) → without_end_zeros (ds ++ 48 ∷ []) ≡ without_end_zeros ds
unfolding without_end_zeros
end_zero [] = refl
end_zero (d ∷ ds) = rw (end_zero ds) refl

pub end_digit : (ds : List ℕ) (d : ℕ) → d ≢ 48 → without_end_zeros (ds ++ d ∷ []) ≡ ds ++ d ∷ []
unfolding without_end_zeros
end_digit [] d other = rw (ne_eqb d 48 other) refl
end_digit (x ∷ ds) d other =
    let more : length (ds ++ d ∷ []) ≢ 0 = λ e. omega (arith, length-append ds (d ∷ []), e) in
    rw (end_digit ds d other) (rw (ne_eqb (length (ds ++ d ∷ [])) 0 more) (elim (cases_eq x 48) [ inl e ↦ rw e refl | inr e ↦ rw (ne_eqb x 48 e) refl ]))

pub no_digits : without_end_zeros [] ≡ []
unfolding without_end_zeros
no_digits = refl

pub no_last_digits : (n : ℕ) → last_digits 0 n ≡ []
unfolding last_digits
no_last_digits n = refl
