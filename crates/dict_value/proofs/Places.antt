-- The places behind the point.
use Rattle.std.proofs.Common.{◌≡◌, ℕ, ◌+◌, ◌-◌, ◌*◌, ◌<◌, List, [], ◌∷◌, ◌++◌, length, get_or, take, replicate, refl, ap, sym, ◌∙◌, arith, append_assoc, length-append, length-take, inl, inr}
use Rattle.std.proofs.lemmas.List.{get_or-take, get_or-replicate, length-replicate, take_more, get_or_append_left, get_or-append_right, get_or_default, get_or_past}
use Rattle.std.proofs.lemmas.Bool.{cases_lt}
use Rattle.std.proofs.lemmas.Int.Digits.{digits_value_push}
use Rattle.std.specs.Char.{digit_value}
use Rattle.std.specs.Str.Parse.{digits_value}
use Rattle.dict_value.specs.Decimals.{places}

pub length-places : (scale : ℕ) (fraction : List ℕ) → length (places scale fraction) ≡ scale
length-places scale fraction =
    simp (length-take, length-append, length-replicate) (omega arith)

-- the digit at a place behind the point
pub places_at : (scale : ℕ) (fraction : List ℕ) (i : ℕ) → i < scale → get_or (places scale fraction) i 0 ≡ get_or fraction i 48
places_at scale fraction i within =
    get_or-take scale (fraction ++ replicate scale 48) i 0 within ∙ elim (cases_lt i (length fraction)) [
      | inl small ↦ get_or_append_left fraction (replicate scale 48) 0 i small ∙ get_or_default fraction i 0 48 small
      | inr large ↦ get_or-append_right fraction (replicate scale 48) (length fraction) i 0 refl large
          ∙ get_or-replicate scale (i - length fraction) 48 0 (omega arith) ∙ sym (get_or_past fraction i 48 large)
    ]

-- one more place
pub places_more : (whole : List ℕ) (scale : ℕ) (fraction : List ℕ) (i : ℕ) → i < scale
    → digits_value 10 (whole ++ take (i + 1) (places scale fraction)) ≡ digits_value 10 (whole ++ take i (places scale fraction)) * 10 + digit_value (get_or fraction i 48)
places_more whole scale fraction i within =
    let all = places scale fraction in
    let next = take_more all i 0 (omega (arith, length-places scale fraction)) in
    ap (λ l. digits_value 10 (whole ++ l)) next ∙ ap (digits_value 10) (sym (append_assoc whole (take i all) (get_or all i 0 ∷ [])))
    ∙ digits_value_push 10 (whole ++ take i all) (get_or all i 0)
    ∙ ap (λ d. digits_value 10 (whole ++ take i all) * 10 + digit_value d) (places_at scale fraction i within)
