-- A list of numbers, as it is written so far.
use Rattle.std.proofs.Common.{◌≡◌, ◌<◌, ◌+◌, ◌++◌, ◌∷◌, ◌∙◌, [], ℕ, zero, suc, List, get_or, length, take, sym, ap, arith, append_assoc, map, decimal}
use Rattle.std.specs.List.{join_with_byte}
use Rattle.dict_value.specs.declared.letters.TheConstants.{COMMA}
use Rattle.dict_functions.specs.steps.Lines.{listed_at}

-- the first numbers of a list, so many
abbrev pub joined : List ℕ → ℕ → List ℕ
joined numbers count = join_with_byte COMMA (map decimal (take count numbers))

-- and one more
joined-more : (numbers : List ℕ) (i n d : ℕ) → i < length numbers → n ≡ get_or numbers i d
    → joined numbers (suc i) ≡ joined numbers i ++ listed_at i n
joined-more [] i n d low at = absurd (omega (arith, low))
joined-more (a ∷ numbers) zero n d low at = ap decimal (sym at)
joined-more (a ∷ []) (suc i) n d low at = absurd (omega (arith, low))
joined-more (a ∷ b ∷ numbers) (suc zero) n d low at = ap (λ m. decimal a ++ COMMA ∷ decimal m) (sym at)
joined-more (a ∷ b ∷ numbers) (suc (suc i)) n d low at =
    ap (λ l. decimal a ++ COMMA ∷ l) (joined-more (b ∷ numbers) (suc i) n d (omega (arith, low)) at)
    ∙ sym (append_assoc (decimal a) (COMMA ∷ joined (b ∷ numbers) (suc i)) (COMMA ∷ decimal n))

pub listed-more : (front numbers : List ℕ) (i n d : ℕ) → i < length numbers → n ≡ get_or numbers i d
    → (front ++ 91 ∷ joined numbers i) ++ listed_at i n ≡ front ++ 91 ∷ joined numbers (i + 1)
listed-more front numbers i n d low at =
    let next : suc i ≡ i + 1 = omega arith in
    append_assoc front (91 ∷ joined numbers i) (listed_at i n)
    ∙ ap (λ l. front ++ 91 ∷ l) (sym (joined-more numbers i n d low at) ∙ ap (joined numbers) next)
