-- Names, texts and numbers are written as one token each.
use Rattle.std.proofs.Common.{◌≡◌, ◌≢◌, ◌<◌, ◌^◌, ◌≤◌, ◌/◌, ◌%◌, ℕ, zero, suc, ◌+◌, Bool, true, false, cond, List, [], ◌∷◌, ◌++◌, length, Option, Some, None, Result, Ok, refl, sym, ap, subst, ◌∙◌, inl, inr, arith, decimal, ℤ, pos, negsuc, unsigned_abs, append-nil, append_assoc, lt-ltb}
use Rattle.std.specs.Prelude.{◌==◌, ◌&&◌, nat_le}
use Rattle.std.specs.List.{AllByRecursion, flat_map}
use Rattle.std.specs.Str.{all_ascii_digits}
use Rattle.std.specs.Char.{is_ascii_digit}
use Rattle.std.specs.Fmt.{signed_decimal}
use Rattle.std.proofs.Math.Nat.{div-le_self}
use Rattle.std.specs.Option.{option_and_then}
use Rattle.std.proofs.lemmas.Bool.{cond-true, eqb-true, eqb-false, le-leb}
use Rattle.std.proofs.lemmas.Bool.Decides.{nat_tests}
use Rattle.dict_value.specs.Escapes.{unescaped}
use Rattle.dict_value.specs.Numbers.{unsigned_of}
use Rattle.dict_value.specs.Decimals.{decimal_text, fraction_text, last_digits, sign_text, without_end_zeros}
use Rattle.dict_value.specs.declared.letters.TheConstants.{BACKSLASH, BACKSPACE, CARRIAGE_RETURN, DIGIT_0, FORM_FEED, LETTER_B, LETTER_F, LETTER_N, LETTER_R, LETTER_T, LINE_FEED, NUL, TAB}
use Rattle.dict_value.proofs.Digits.{both, digit_value_of}
use Rattle.dict_value.proofs.WrittenNumbers.{decimal_digits, unsigned_again}
use Rattle.ddl_tokens.specs.declared.fault.SyntaxFault.{SyntaxFault}
use Rattle.ddl_tokens.specs.declared.token.TokenKind.TheVariants.{QuotedWord, Number, String}
use Rattle.ddl_tokens.specs.Letters.{is_digit}
use Rattle.ddl_tokens.specs.Quoted.{StandsFor, nothing, itself, escaped}
use Rattle.ddl_tokens.specs.Tokens.{Token, AreDigits, IsNumberSign, IsToken, whole, fraction, quoted}
use Rattle.ddl_tokens.specs.Laws.{IsOne}
use Rattle.ddl_clauses.specs.Choices.{whole_in}
use Rattle.ddl_writing.specs.Canonical.{as_string}
use Rattle.ddl_writing.specs.Quoted.{byte_in_quotes, letter_in_quotes, name_text, string_text, with_letter}
use Rattle.ddl_text.proofs.Spelt.{Apart, Spells, one_at, token_of}

-- ---- in quotes

-- a byte is read again that is written with this letter behind a backslash, or as it is
abbrev Again : ℕ → ℕ → Option ℕ → Type 0
Again q b letter = (own bytes : List ℕ) → StandsFor q own bytes → StandsFor q (with_letter b letter ++ own) (b ∷ bytes)

by_letter : (q b c : ℕ) → unescaped c ≡ b → c ≢ 120 → Again q b (Some c)
by_letter q b c same other own bytes h = subst (λ (n : ℕ). StandsFor q (92 ∷ c ∷ own) (n ∷ bytes)) same (escaped other h)

tested : (q b : ℕ) (test : Bool) (x y : Option ℕ) → (test ≡ true → Again q b x) → (test ≡ false → Again q b y) → Again q b (cond test x y)
tested q b true x y k l = k refl
tested q b false x y k l = l refl

letter_again : (q b : ℕ) → unescaped q ≡ q → q ≢ 120 → Again q b (letter_in_quotes q b)
unfolding letter_in_quotes unescaped
letter_again q b same other =
    tested q b (b == q) _ _ (λ e. by_letter q b q (same ∙ sym (eqb-true b q e)) other) (λ no_quote.
    tested q b (b == BACKSLASH) _ _ (λ e. by_letter q b 92 (sym (eqb-true b 92 e)) (omega arith)) (λ no_slash.
    tested q b (b == BACKSPACE) _ _ (λ e. by_letter q b LETTER_B (sym (eqb-true b 8 e)) (omega arith)) (λ no_b.
    tested q b (b == FORM_FEED) _ _ (λ e. by_letter q b LETTER_F (sym (eqb-true b 12 e)) (omega arith)) (λ no_f.
    tested q b (b == CARRIAGE_RETURN) _ _ (λ e. by_letter q b LETTER_R (sym (eqb-true b 13 e)) (omega arith)) (λ no_r.
    tested q b (b == LINE_FEED) _ _ (λ e. by_letter q b LETTER_N (sym (eqb-true b 10 e)) (omega arith)) (λ no_n.
    tested q b (b == TAB) _ _ (λ e. by_letter q b LETTER_T (sym (eqb-true b 9 e)) (omega arith)) (λ no_t.
    tested q b (b == NUL) _ _ (λ e. by_letter q b DIGIT_0 (sym (eqb-true b 0 e)) (omega arith)) (λ no_0 own bytes h.
    itself (eqb-false b q no_quote) (eqb-false b 92 no_slash) h))))))))

bytes_again : (q : ℕ) → unescaped q ≡ q → q ≢ 120 → (text : List ℕ) → StandsFor q (flat_map (byte_in_quotes q) text) text
bytes_again q same other [] = nothing
bytes_again q same other (b ∷ text) = letter_again q b same other (flat_map (byte_in_quotes q) text) text (bytes_again q same other text)

pub name_at : {A : Type 0} (place : ℕ) (name rest : List ℕ) (judge : Token → Result A SyntaxFault) (a : A) → Apart rest → judge (token_of place QuotedWord name) ≡ Ok a
    → Spells place (name_text name ++ rest) (IsOne judge a) rest
unfolding unescaped
name_at place name rest judge a apart is = one_at place QuotedWord name (name_text name) rest judge a (quoted refl refl (bytes_again 96 refl (omega arith) name) apart.name) is

pub string_at : {A : Type 0} (place : ℕ) (text rest : List ℕ) (judge : Token → Result A SyntaxFault) (a : A) → Apart rest → judge (token_of place String text) ≡ Ok a
    → Spells place (string_text text ++ rest) (IsOne judge a) rest
unfolding unescaped
string_at place text rest judge a apart is = one_at place String text (string_text text) rest judge a (quoted refl refl (bytes_again 39 refl (omega arith) text) apart.text) is

-- a byte that stands in single quotes as it is
abbrev pub IsPlain : ℕ → Type 0
IsPlain b = (b ≢ 39) × (b ≢ 92)

plain_again : (text : List ℕ) → AllByRecursion IsPlain text → StandsFor 39 text text
plain_again [] h = nothing
plain_again (b ∷ text) h = itself h.0.0 h.0.1 (plain_again text h.1)

pub plain_at : {A : Type 0} (place : ℕ) (text rest : List ℕ) (judge : Token → Result A SyntaxFault) (a : A) → AllByRecursion IsPlain text → Apart rest → judge (token_of place String text) ≡ Ok a
    → Spells place (as_string text ++ rest) (IsOne judge a) rest
plain_at place text rest judge a plain apart is = one_at place String text (as_string text) rest judge a (quoted refl refl (plain_again text plain) apart.text) is

-- ---- numbers

abbrev EachDigit : List ℕ → Type 0
EachDigit text = AllByRecursion (λ b. is_digit b ≡ true) text

digit_is : (b : ℕ) → 48 ≤ b → b ≤ 57 → is_digit b ≡ true
digit_is b low high = grind (arith, nat_tests)

each_digit : (text : List ℕ) → all_ascii_digits text ≡ true → EachDigit text
each_digit [] h = tt
each_digit (b ∷ text) h = let p = both (is_ascii_digit b) (all_ascii_digits text) h in let v = digit_value_of b p.0 in (digit_is b v.0 v.1, each_digit text p.1)

some_bytes : (text : List ℕ) → 0 < length text → text ≢ []
some_bytes [] h e = absurd (omega arith)
some_bytes (b ∷ text) h e = absurd cc

number_digits : (n : ℕ) → n < 10 ^ 64 → AreDigits (decimal n)
number_digits n small = let d = decimal_digits n small in (some_bytes (decimal n) d.1, each_digit (decimal n) d.0)

decimal_token : (n : ℕ) (rest : List ℕ) → n < 10 ^ 64 → Apart rest → IsToken Number (decimal n) (decimal n) rest
decimal_token n rest small apart = whole [] (decimal n) refl (inl refl) (number_digits n small) apart.digit apart.fraction

pub number_at : {A : Type 0} (place n : ℕ) (rest : List ℕ) (judge : Token → Result A SyntaxFault) (a : A) → n < 10 ^ 64 → Apart rest → judge (token_of place Number (decimal n)) ≡ Ok a
    → Spells place (decimal n ++ rest) (IsOne judge a) rest
number_at place n rest judge a small apart is = one_at place Number (decimal n) (decimal n) rest judge a (decimal_token n rest small apart) is

pub signed_token : (z : ℤ) (rest : List ℕ) → unsigned_abs z < 10 ^ 64 → Apart rest → IsToken Number (signed_decimal z) (signed_decimal z) rest
signed_token (pos n) rest small apart = decimal_token n rest small apart
signed_token (negsuc n) rest small apart = whole (45 ∷ []) (decimal (suc n)) refl (inr (45, refl, refl)) (number_digits (suc n) small) apart.digit apart.fraction

-- ---- Decimals

more_digits : (xs : List ℕ) (b : ℕ) → EachDigit xs → is_digit b ≡ true → EachDigit (xs ++ b ∷ [])
more_digits [] b h k = (k, tt)
more_digits (x ∷ xs) b h k = (h.0, more_digits xs b h.1 k)

last_digits_are : (count n : ℕ) → EachDigit (last_digits count n)
unfolding last_digits
last_digits_are zero n = tt
last_digits_are (suc count) n = more_digits (last_digits count (n / 10)) (48 + n % 10) (last_digits_are count (n / 10)) (digit_is (48 + n % 10) (omega arith) (omega arith))

left_digits : (b : Bool) (d : ℕ) (rest : List ℕ) → is_digit d ≡ true → EachDigit rest → EachDigit (cond b [] (d ∷ rest))
left_digits true d rest h k = tt
left_digits false d rest h k = (h, k)

kept_digits : (ds : List ℕ) → EachDigit ds → EachDigit (without_end_zeros ds)
unfolding without_end_zeros
kept_digits [] h = tt
kept_digits (d ∷ ds) h = left_digits ((d == 48) && (length (without_end_zeros ds) == 0)) d (without_end_zeros ds) h.0 (kept_digits ds h.1)

scaled_token : (sign digits places rest : List ℕ) → IsNumberSign sign → AreDigits digits → EachDigit places → Apart rest
    → IsToken Number (sign ++ (digits ++ fraction_text places)) (sign ++ (digits ++ fraction_text places)) rest
scaled_token sign digits [] rest is digits_are each apart = whole sign digits (ap (λ (us : List ℕ). sign ++ us) (append-nil digits)) is digits_are apart.digit apart.fraction
scaled_token sign digits (p ∷ places) rest is digits_are each apart = fraction sign digits (p ∷ places) refl is digits_are (some_bytes (p ∷ places) (omega arith), each) apart.digit

sign_is : (z : ℤ) → IsNumberSign (sign_text z)
sign_is (pos n) = inl refl
sign_is (negsuc n) = inr (45, refl, refl)

pub scaled_written : (scale : ℕ) (z : ℤ) (rest : List ℕ) → unsigned_abs z < 10 ^ 64 → Apart rest → IsToken Number (decimal_text scale z) (decimal_text scale z) rest
scaled_written scale z rest small apart =
    let sign = sign_text z in
    let whole_part = decimal (unsigned_abs z / 10 ^ scale) in
    let places = without_end_zeros (last_digits scale (unsigned_abs z)) in
    subst (λ (t : List ℕ). IsToken Number t t rest) (sym (append_assoc sign whole_part (fraction_text places)))
    (scaled_token sign whole_part places rest (sign_is z) (number_digits (unsigned_abs z / 10 ^ scale) (omega (arith, div-le_self (unsigned_abs z) (10 ^ scale))))
    (kept_digits (last_digits scale (unsigned_abs z)) (last_digits_are scale (unsigned_abs z))) apart)

-- ---- whole numbers of a definition

pub whole_read : (n : ℕ) → n < 2 ^ 64 → unsigned_of 64 (decimal n) ≡ Ok n
whole_read n small = rw (unsigned_again n (omega (arith, small)), lt-ltb n (2 ^ 64) small) refl

-- a number of at most so much
pub whole_within : (most n : ℕ) → n ≤ most → most < 10 ^ 64 → whole_in most (decimal n) ≡ Some n
whole_within most n within small =
    ap (option_and_then (λ (m : ℕ). cond (nat_le m most) (Some m) None)) (unsigned_again n (omega (arith, within, small))) ∙ cond-true (nat_le n most) (Some n) None (le-leb n most within)
