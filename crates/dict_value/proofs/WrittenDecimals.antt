-- What is written of a Decimal is read as that Decimal.
use Rattle.std.proofs.Common.{◌≡◌, ℕ, zero, suc, ◌+◌, ◌/◌, ◌%◌, ◌^◌, ◌<◌, ◌≤◌, true, false, cond, not, ◌==◌, ◌&&◌, ◌||◌, None, List, [], ◌∷◌, ◌++◌, length, take, drop, replicate, Some, ℤ, pos, negsuc, decimal, refl, ap, sym, ◌∙◌, arith, append-nil, ne_eqb, inl, inr, unsigned_abs}
use Rattle.std.specs.List.{prefix_len}
use Rattle.std.proofs.Math.Nat.{div-le_self}
use Rattle.std.proofs.lemmas.Bool.{cases_eq}
use Rattle.std.proofs.lemmas.Bool.Decides.{nat_tests}
use Rattle.std.proofs.lemmas.List.{append_assoc, take_at, drop_at}
use Rattle.std.proofs.lemmas.Int.Digits.{digits_value_push}
use Rattle.std.specs.Char.{digit_value, is_ascii_digit}
use Rattle.std.specs.Str.{all_ascii_digits}
use Rattle.std.specs.Str.Parse.{digits_value}
use Rattle.dict_value.specs.Numbers.{is_numeral, signed_in}
use Rattle.dict_value.specs.Decimals.{before_byte, from_byte, places, scaled_in, last_digits, without_end_zeros, fraction_text, decimal_text}
use Rattle.dict_value.proofs.Digits.{both, digit_value_of}
use Rattle.dict_value.proofs.LastDigits.{length-last_digits, shifted_first}
use Rattle.dict_value.proofs.WrittenNumbers.{decimal_digits, digits_are_numeral, no_minus, no_plus}

pub digit_passes : (d : ℕ) → d < 10 → (is_ascii_digit (48 + d) ≡ true) × (digit_value (48 + d) ≡ d)
digit_passes d small = (grind (arith, nat_tests), grind (arith, nat_tests))

-- digits after digits
digits_append : (xs ys : List ℕ) → all_ascii_digits xs ≡ true → all_ascii_digits ys ≡ true → all_ascii_digits (xs ++ ys) ≡ true
digits_append [] ys h k = k
digits_append (x ∷ xs) ys h k =
    let first = (both (is_ascii_digit x) (all_ascii_digits xs) h).0 in
    rw (first, digits_append xs ys (both (is_ascii_digit x) (all_ascii_digits xs) h).1 k) refl

last_are_digits : (count n : ℕ) → all_ascii_digits (last_digits count n) ≡ true
unfolding last_digits
last_are_digits zero n = refl
last_are_digits (suc count) n =
    digits_append (last_digits count (n / 10)) ((48 + n % 10) ∷ []) (last_are_digits count (n / 10)) (rw (digit_passes (n % 10) (omega arith)).0 refl)

-- the front digits and the last ones write the whole number
whole_again : (count n : ℕ) (ds : List ℕ) → digits_value 10 ds ≡ n / 10 ^ count → digits_value 10 (ds ++ last_digits count n) ≡ n
unfolding last_digits
whole_again zero n ds h = ap (digits_value 10) (append-nil ds) ∙ h ∙ omega arith
whole_again (suc count) n ds h =
    let front = whole_again count (n / 10) ds (h ∙ sym (shifted_first n count)) in
    let digit = (digit_passes (n % 10) (omega arith)).1 in
    ap (digits_value 10) (sym (append_assoc ds (last_digits count (n / 10)) ((48 + n % 10) ∷ [])))
    ∙ digits_value_push 10 (ds ++ last_digits count (n / 10)) (48 + n % 10) ∙ omega (arith, front, digit)

-- zeros at the end are put back
zeros_back : (ds : List ℕ) (k : ℕ) → length ds ≤ k → take (length ds) (without_end_zeros ds ++ replicate k 48) ≡ ds
unfolding without_end_zeros
zeros_back [] k h = refl
zeros_back (d ∷ ds) zero h = absurd (omega arith)
zeros_back (d ∷ ds) (suc k) h = elim (cases_eq d 48) [
  | inr other ↦ rw (ne_eqb d 48 other) (ap (λ l. d ∷ l) (zeros_back ds (suc k) (omega arith)))
  | inl same ↦ rw same (zero_back ds k (without_end_zeros ds) (zeros_back ds k (omega arith)) (zeros_back ds (suc k) (omega arith)))
]
  where
    zero_back : (ds : List ℕ) (k : ℕ) (rest : List ℕ) → take (length ds) (rest ++ replicate k 48) ≡ ds → take (length ds) (rest ++ replicate (suc k) 48) ≡ ds
        → take (suc (length ds)) (cond (true && (length rest == 0)) [] (48 ∷ rest) ++ replicate (suc k) 48) ≡ 48 ∷ ds
    zero_back ds k [] short long = ap (λ l. 48 ∷ l) short
    zero_back ds k (r ∷ rest) short long = rw (ne_eqb (length (r ∷ rest)) 0 (omega arith)) (ap (λ l. 48 ∷ l) long)

kept_are_digits : (ds : List ℕ) → all_ascii_digits ds ≡ true → all_ascii_digits (without_end_zeros ds) ≡ true
unfolding without_end_zeros
kept_are_digits [] h = refl
kept_are_digits (d ∷ ds) h =
    let first = (both (is_ascii_digit d) (all_ascii_digits ds) h).0 in
    let others = kept_are_digits ds (both (is_ascii_digit d) (all_ascii_digits ds) h).1 in
    elim ((d == 48) && (length (without_end_zeros ds) == 0)) as (λ b. all_ascii_digits (cond b [] (d ∷ without_end_zeros ds)) ≡ true) [
      | true ↦ refl
      | false ↦ rw (first, others) refl
    ]

-- digits stand before the point
before_point : (ds rest : List ℕ) → all_ascii_digits ds ≡ true → prefix_len (λ c. not (c == 46)) rest ≡ 0 → prefix_len (λ c. not (c == 46)) (ds ++ rest) ≡ length ds
before_point [] rest h stop = stop
before_point (d ∷ ds) rest h stop =
    let v = digit_value_of d (both _ _ h).0 in
    rw (ne_eqb d 46 (λ e. omega (arith, v, e))) (omega (arith, before_point ds rest (both _ _ h).1 stop))

point_stops : (fraction : List ℕ) → prefix_len (λ c. not (c == 46)) (fraction_text fraction) ≡ 0
point_stops [] = refl
point_stops (d ∷ ds) = refl

-- what stands behind the whole digits
behind_point : (scale : ℕ) (whole fraction : List ℕ) → all_ascii_digits fraction ≡ true
    → cond ((length (fraction_text fraction) == 0) || is_numeral (drop 1 (fraction_text fraction))) (Some (digits_value 10 (whole ++ places scale (drop 1 (fraction_text fraction))))) None
    ≡ Some (digits_value 10 (whole ++ places scale fraction))
behind_point scale whole [] k = refl
behind_point scale whole (d ∷ ds) k =
    rw (ne_eqb (length (46 ∷ d ∷ ds)) 0 (omega arith), digits_are_numeral (d ∷ ds) k (omega arith)) refl

-- the text without a sign
scaled_again : (scale : ℕ) (whole fraction : List ℕ) → all_ascii_digits whole ≡ true → 0 < length whole → all_ascii_digits fraction ≡ true
    → scaled_in scale (whole ++ fraction_text fraction) ≡ Some (digits_value 10 (whole ++ places scale fraction))
scaled_again scale whole fraction h some k =
    let cut = before_point whole (fraction_text fraction) h (point_stops fraction) in
    let before : before_byte 46 (whole ++ fraction_text fraction) ≡ whole =
    ap (λ i. take i (whole ++ fraction_text fraction)) cut ∙ take_at whole (fraction_text fraction) (length whole) refl in
    let from : from_byte 46 (whole ++ fraction_text fraction) ≡ fraction_text fraction =
    ap (λ i. drop i (whole ++ fraction_text fraction)) cut ∙ drop_at whole (fraction_text fraction) (length whole) refl in
    ap (λ w. cond (is_numeral w && ((length (from_byte 46 (whole ++ fraction_text fraction)) == 0) || is_numeral (drop 1 (from_byte 46 (whole ++ fraction_text fraction)))))
    (Some (digits_value 10 (w ++ places scale (drop 1 (from_byte 46 (whole ++ fraction_text fraction)))))) None) before
    ∙ ap (λ r. cond (is_numeral whole && ((length r == 0) || is_numeral (drop 1 r))) (Some (digits_value 10 (whole ++ places scale (drop 1 r)))) None) from
    ∙ ap (λ b. cond (b && ((length (fraction_text fraction) == 0) || is_numeral (drop 1 (fraction_text fraction))))
    (Some (digits_value 10 (whole ++ places scale (drop 1 (fraction_text fraction))))) None) (digits_are_numeral whole h some)
    ∙ behind_point scale whole fraction k

magnitude_again : (scale n : ℕ) → n < 10 ^ 64
    → scaled_in scale (decimal (n / 10 ^ scale) ++ fraction_text (without_end_zeros (last_digits scale n))) ≡ Some n
magnitude_again scale n small =
    let d = decimal_digits (n / 10 ^ scale) (omega (arith, div-le_self n (10 ^ scale))) in
    let last = last_digits scale n in
    let long = length-last_digits scale n in
    let back : places scale (without_end_zeros last) ≡ last =
    ap (λ k. take k (without_end_zeros last ++ replicate scale 48)) (sym long) ∙ zeros_back last scale (omega (arith, long)) in
    scaled_again scale (decimal (n / 10 ^ scale)) (without_end_zeros last) d.0 d.1 (kept_are_digits last (last_are_digits scale n))
    ∙ ap (λ l. Some (digits_value 10 (decimal (n / 10 ^ scale) ++ l))) back ∙ ap Some (whole_again scale n (decimal (n / 10 ^ scale)) d.2)

pub decimal_again : (scale : ℕ) (z : ℤ) → unsigned_abs z < 10 ^ 64 → signed_in (scaled_in scale) (decimal_text scale z) ≡ Some z
decimal_again scale (pos n) small =
    let d = decimal_digits (n / 10 ^ scale) (omega (arith, div-le_self n (10 ^ scale))) in
    let fraction = fraction_text (without_end_zeros (last_digits scale n)) in
    rw (no_minus (decimal (n / 10 ^ scale)) fraction d.0 d.1, no_plus (decimal (n / 10 ^ scale)) fraction d.0 d.1, magnitude_again scale n small) refl
decimal_again scale (negsuc n) small = rw (magnitude_again scale (suc n) small) refl
