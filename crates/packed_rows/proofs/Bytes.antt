-- Numbers as bytes at a place.
use Rattle.std.proofs.Common.{◌≡◌, ◌<◌, ◌≤◌, ◌+◌, ◌*◌, ◌/◌, ◌%◌, ◌^◌, ◌∷◌, ◌++◌, ◌∙◌, [], ℕ, List, length, refl, sym, ap, arith, w16, w32, w64}
use Rattle.std.specs.Int.{to_le_bytes, from_le_bytes}
use Rattle.std.specs.Prelude.{slice_index}
use Rattle.std.proofs.lemmas.List.{append_assoc, get_or_append_left, get_or-append-add, length-append}
use Rattle.std.proofs.lemmas.Nat.{from_le_bytes-to_le_bytes_2, from_le_bytes-to_le_bytes_4, from_le_bytes-to_le_bytes_8}
use Rattle.packed_rows.specs.declared.column.CellWidth.{CellWidth}
use Rattle.packed_rows.specs.declared.column.CellWidth.TheVariants.{One, Two, Four, Eight, Sixteen}
use Rattle.packed_rows.specs.Widths.{width_bytes, limit_of, kept, nat_at, two_at, four_at, eight_at}

same : (xs ys : List ℕ) (k : ℕ) → k < length xs → slice_index (xs ++ ys) k ≡ slice_index xs k
same xs ys k below = get_or_append_left xs ys 0 k below

two : (xs ys : List ℕ) (at : ℕ) → at + 2 ≤ length xs → two_at (xs ++ ys) at ≡ two_at xs at
two xs ys at fits =
    let a = same xs ys at (omega arith) in
    let b = same xs ys (at + 1) (omega arith) in
    λ j. from_le_bytes w16 (a j ∷ b j ∷ [])

four : (xs ys : List ℕ) (at : ℕ) → at + 4 ≤ length xs → four_at (xs ++ ys) at ≡ four_at xs at
four xs ys at fits =
    let a = same xs ys at (omega arith) in
    let b = same xs ys (at + 1) (omega arith) in
    let c = same xs ys (at + 2) (omega arith) in
    let d = same xs ys (at + 3) (omega arith) in
    λ j. from_le_bytes w32 (a j ∷ b j ∷ c j ∷ d j ∷ [])

eight : (xs ys : List ℕ) (at : ℕ) → at + 8 ≤ length xs → eight_at (xs ++ ys) at ≡ eight_at xs at
eight xs ys at fits =
    let a = same xs ys at (omega arith) in
    let b = same xs ys (at + 1) (omega arith) in
    let c = same xs ys (at + 2) (omega arith) in
    let d = same xs ys (at + 3) (omega arith) in
    let e = same xs ys (at + 4) (omega arith) in
    let f = same xs ys (at + 5) (omega arith) in
    let g = same xs ys (at + 6) (omega arith) in
    let h = same xs ys (at + 7) (omega arith) in
    λ j. from_le_bytes w64 (a j ∷ b j ∷ c j ∷ d j ∷ e j ∷ f j ∷ g j ∷ h j ∷ [])

-- a number stays where it is when bytes follow
pub nat_at-append : (w : CellWidth) (xs ys : List ℕ) (i : ℕ) → (i + 1) * width_bytes w ≤ length xs → nat_at w (xs ++ ys) i ≡ nat_at w xs i
unfolding nat_at width_bytes
nat_at-append One xs ys i fits = same xs ys i (omega arith)
nat_at-append Two xs ys i fits = two xs ys (i * 2) (omega arith)
nat_at-append Four xs ys i fits = four xs ys (i * 4) (omega arith)
nat_at-append Eight xs ys i fits = eight xs ys (i * 8) (omega arith)
nat_at-append Sixteen xs ys i fits =
    let high = eight xs ys (i * 16 + 8) (omega arith) in
    let low = eight xs ys (i * 16) (omega arith) in
    λ j. high j * 2 ^ 64 + low j

later : (xs ys : List ℕ) (at k n : ℕ) → length xs ≡ at → n ≡ at + k → slice_index (xs ++ ys) n ≡ slice_index ys k
later xs ys at k n is here = ap (λ m. slice_index (xs ++ ys) m) (here ∙ ap (λ m. m + k) (sym is)) ∙ get_or-append-add xs ys k 0

two-last : (xs : List ℕ) (at n : ℕ) → length xs ≡ at → n < 2 ^ 16 → two_at (xs ++ to_le_bytes w16 n) at ≡ n
two-last xs at n is fits =
    let ys = to_le_bytes w16 n in
    let a = later xs ys at 0 at is (omega arith) in
    let b = later xs ys at 1 (at + 1) is refl in
    (λ j. from_le_bytes w16 (a j ∷ b j ∷ [])) ∙ from_le_bytes-to_le_bytes_2 n fits

four-last : (xs : List ℕ) (at n : ℕ) → length xs ≡ at → n < 2 ^ 32 → four_at (xs ++ to_le_bytes w32 n) at ≡ n
four-last xs at n is fits =
    let ys = to_le_bytes w32 n in
    let a = later xs ys at 0 at is (omega arith) in
    let b = later xs ys at 1 (at + 1) is refl in
    let c = later xs ys at 2 (at + 2) is refl in
    let d = later xs ys at 3 (at + 3) is refl in
    (λ j. from_le_bytes w32 (a j ∷ b j ∷ c j ∷ d j ∷ [])) ∙ from_le_bytes-to_le_bytes_4 n fits

eight-last : (xs : List ℕ) (at n : ℕ) → length xs ≡ at → n < 2 ^ 64 → eight_at (xs ++ to_le_bytes w64 n) at ≡ n
eight-last xs at n is fits =
    let ys = to_le_bytes w64 n in
    let a = later xs ys at 0 at is (omega arith) in
    let b = later xs ys at 1 (at + 1) is refl in
    let c = later xs ys at 2 (at + 2) is refl in
    let d = later xs ys at 3 (at + 3) is refl in
    let e = later xs ys at 4 (at + 4) is refl in
    let f = later xs ys at 5 (at + 5) is refl in
    let g = later xs ys at 6 (at + 6) is refl in
    let h = later xs ys at 7 (at + 7) is refl in
    (λ j. from_le_bytes w64 (a j ∷ b j ∷ c j ∷ d j ∷ e j ∷ f j ∷ g j ∷ h j ∷ [])) ∙ from_le_bytes-to_le_bytes_8 n fits

sixteen-last : (xs : List ℕ) (at n : ℕ) → length xs ≡ at → n < 2 ^ 128
    → eight_at (xs ++ (to_le_bytes w64 (n % 2 ^ 64) ++ to_le_bytes w64 (n / 2 ^ 64))) (at + 8) * 2 ^ 64
    + eight_at (xs ++ (to_le_bytes w64 (n % 2 ^ 64) ++ to_le_bytes w64 (n / 2 ^ 64))) at ≡ n
sixteen-last xs at n is fits =
    let low = to_le_bytes w64 (n % 2 ^ 64) in
    let high = to_le_bytes w64 (n / 2 ^ 64) in
    let joined = sym (append_assoc xs low high) in
    let front : length (xs ++ low) ≡ at + 8 = omega (arith, length-append xs low, is) in
    let lower = ap (λ (ys : List ℕ). eight_at ys at) joined
    ∙ (eight (xs ++ low) high at (omega (arith, front)) ∙ eight-last xs at (n % 2 ^ 64) is (omega arith)) in
    let upper = ap (λ (ys : List ℕ). eight_at ys (at + 8)) joined ∙ eight-last (xs ++ low) (at + 8) (n / 2 ^ 64) front (omega (arith, fits)) in
    omega (arith, lower, upper)

-- the number that was kept last is read again
pub nat_at-last : (w : CellWidth) (xs : List ℕ) (i n : ℕ) → length xs ≡ i * width_bytes w → n < limit_of w → nat_at w (xs ++ kept w n) i ≡ n
unfolding nat_at width_bytes limit_of kept
nat_at-last One xs i n is fits = later xs (n ∷ []) i 0 i (omega arith) (omega arith)
nat_at-last Two xs i n is fits = two-last xs (i * 2) n is fits
nat_at-last Four xs i n is fits = four-last xs (i * 4) n is fits
nat_at-last Eight xs i n is fits = eight-last xs (i * 8) n is fits
nat_at-last Sixteen xs i n is fits = sixteen-last xs (i * 16) n is fits

pub length-kept : (w : CellWidth) (n : ℕ) → length (kept w n) ≡ width_bytes w
unfolding width_bytes kept
length-kept One n = refl
length-kept Two n = refl
length-kept Four n = refl
length-kept Eight n = refl
length-kept Sixteen n = refl
