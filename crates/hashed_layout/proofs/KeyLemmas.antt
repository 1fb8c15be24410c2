-- Two key lists with the same bytes are one, and no key's bytes begin with those of another.
use Rattle.std.proofs.Common.{◌≡◌, ◌≢◌, ℕ, zero, suc, ◌+◌, ◌-◌, ◌*◌, ◌/◌, ◌%◌, ◌^◌, ◌<◌, ◌≤◌, ◌==◌, pos, negsuc, cond, eqb, List, [], ◌∷◌, ◌++◌, length, take, drop, inl, inr, refl, ap, arith, sym, ◌∙◌, ne_eqb, set, get_or, append-nil, ◌↔◌, drop-cons, eq-eqb}
use Rattle.std.proofs.Math.Nat.{pow-succ'}
use Rattle.std.proofs.Math.Seq.{drop-append_seam, take-append_seam, take-set-lt}
use Rattle.std.proofs.lemmas.Bool.{cases_eq, cases_lt, eqb-true}
use Rattle.std.proofs.lemmas.List.{append_assoc, append_cancel_left, drop_all, length-take-le, take_more_set}
use Rattle.std.specs.Prelude.{IsTrue, MatchOption, None, Option, Some}
use denote.Bor.{Bor}
use Rattle.hashed_layout.specs.KeyHash.{hashed_on}
use Rattle.dict_value.specs.declared.value.Value.{Value}
use Rattle.dict_value.specs.declared.value.Value.TheVariants.{U, I, S, Day, Second, Id, V4, V6, Dec, Null}
use Rattle.hashed_layout.specs.KeyBytes.{BeginsWithKey, digits_of, digits_to, key_bytes, kind_of, magnitude_of, string_of, value_bytes}
use Rattle.hashed_layout.specs.declared.key_bytes.TheConstants.{END_MARK}

-- ---- digits

-- the number of digits
value_of : List ℕ → ℕ
value_of [] = 0
value_of (d ∷ ds) = d + 256 * value_of ds

quotient-small : (k n : ℕ) → n < 256 ^ suc k → n / 256 < 256 ^ k
quotient-small k n small = let e = pow-succ' 256 k in omega (arith, e, small)

digits-zero : (k : ℕ) → digits_to k 0 ≡ []
unfolding digits_to
digits-zero zero = refl
digits-zero (suc k) = refl

pub digits-more : (k n : ℕ) → n ≢ 0 → digits_to (suc k) n ≡ n % 256 ∷ digits_to k (n / 256)
unfolding digits_to
digits-more k n some = ap (λ b. cond b [] (n % 256 ∷ digits_to k (n / 256))) (ne_eqb n 0 some)

digits-value : (k n : ℕ) → n < 256 ^ k → value_of (digits_to k n) ≡ n
unfolding value_of
digits-value zero n small = let e : n ≡ 0 = omega arith in ap value_of (ap (digits_to 0) e ∙ digits-zero 0) ∙ sym e
digits-value (suc k) n small = elim (cases_eq n 0) [
  | inl none ↦ ap value_of (ap (digits_to (suc k)) none ∙ digits-zero (suc k)) ∙ sym none
  | inr some ↦
      let rest = digits-value k (n / 256) (quotient-small k n small) in
      ap value_of (digits-more k n some) ∙ omega (arith, rest)
]

pub digits-enough : (j k n : ℕ) → n < 256 ^ j → n < 256 ^ k → digits_to j n ≡ digits_to k n
digits-enough zero k n small other = let e : n ≡ 0 = omega arith in ap (digits_to 0) e ∙ digits-zero 0 ∙ sym (digits-zero k) ∙ ap (digits_to k) (sym e)
digits-enough (suc j) zero n small other = let e : n ≡ 0 = omega arith in ap (digits_to (suc j)) e ∙ digits-zero (suc j) ∙ sym (digits-zero 0) ∙ ap (digits_to 0) (sym e)
digits-enough (suc j) (suc k) n small other = elim (cases_eq n 0) [
  | inl none ↦ ap (digits_to (suc j)) none ∙ digits-zero (suc j) ∙ sym (digits-zero (suc k)) ∙ ap (digits_to (suc k)) (sym none)
  | inr some ↦
      digits-more j n some
      ∙ ap (λ ds. n % 256 ∷ ds) (digits-enough j k (n / 256) (quotient-small j n small) (quotient-small k n other))
      ∙ sym (digits-more k n some)
]

power-above : (n : ℕ) → n < 256 ^ n
power-above zero = omega arith
power-above (suc n) = let e = pow-succ' 256 n in let h = power-above n in omega (arith, e, h)

-- so many digits are all of a number that has no more
pub digits-all : (k n : ℕ) → n < 256 ^ k → digits_to k n ≡ digits_of n
digits-all k n small = digits-enough k n n small (power-above n)

digits-tell : (n m : ℕ) → digits_of n ≡ digits_of m → n ≡ m
digits-tell n m e = sym (digits-value n n (power-above n)) ∙ ap value_of e ∙ digits-value m m (power-above m)

-- ---- values

-- the value of a kind with a number and a text
made : ℕ → ℕ → List ℕ → Value
made k n text =
    cond (eqb k 1) (U n) (cond (eqb k 2) (I (pos n)) (cond (eqb k 3) (I (negsuc (n - 1))) (cond (eqb k 4) (S text) (cond (eqb k 5) (Day n) (cond (eqb k 6) (Second n)
    (cond (eqb k 7) (Id n) (cond (eqb k 8) (V4 n) (cond (eqb k 9) (V6 n) (cond (eqb k 10) (Dec (pos n)) (cond (eqb k 11) (Dec (negsuc (n - 1))) Null))))))))))

value-made : (v : Value) → v ≡ made (kind_of v) (magnitude_of v) (string_of v)
unfolding made
value-made Null = refl
value-made (U n) = refl
value-made (I (pos n)) = refl
value-made (I (negsuc n)) = let e : n ≡ suc n - 1 = omega arith in ap (λ k. I (negsuc k)) e
value-made (S text) = refl
value-made (Day n) = refl
value-made (Second n) = refl
value-made (Id n) = refl
value-made (V4 n) = refl
value-made (V6 n) = refl
value-made (Dec (pos n)) = refl
value-made (Dec (negsuc n)) = let e : n ≡ suc n - 1 = omega arith in ap (λ k. Dec (negsuc k)) e

-- the length of a text is told by the kind and the number
text_length : ℕ → ℕ → ℕ
text_length k n = cond (eqb k 4) n 0

text-length : (v : Value) → length (string_of v) ≡ text_length (kind_of v) (magnitude_of v)
unfolding text_length
text-length Null = refl
text-length (U n) = refl
text-length (I (pos n)) = refl
text-length (I (negsuc n)) = refl
text-length (S text) = refl
text-length (Day n) = refl
text-length (Second n) = refl
text-length (Id n) = refl
text-length (V4 n) = refl
text-length (V6 n) = refl
text-length (Dec (pos n)) = refl
text-length (Dec (negsuc n)) = refl

kind-small : (v : Value) → kind_of v < END_MARK
kind-small Null = omega arith
kind-small (U n) = omega arith
kind-small (I (pos n)) = omega arith
kind-small (I (negsuc n)) = omega arith
kind-small (S text) = omega arith
kind-small (Day n) = omega arith
kind-small (Second n) = omega arith
kind-small (Id n) = omega arith
kind-small (V4 n) = omega arith
kind-small (V6 n) = omega arith
kind-small (Dec (pos n)) = omega arith
kind-small (Dec (negsuc n)) = omega arith

-- two joins whose first parts are as long are joins of the same
fronts-same : (a b r s : List ℕ) → length a ≡ length b → a ++ r ≡ b ++ s → a ≡ b
fronts-same a b r s len e = sym (take-append_seam a r) ∙ (ap (λ n. take n (a ++ r)) len ∙ ap (take (length b)) e) ∙ take-append_seam b s

ends-same : (a b r s : List ℕ) → length a ≡ length b → a ++ r ≡ b ++ s → r ≡ s
ends-same a b r s len e = sym (drop-append_seam a r) ∙ (ap (λ n. drop n (a ++ r)) len ∙ ap (drop (length b)) e) ∙ drop-append_seam b s

head : List ℕ → ℕ
head [] = 0
head (x ∷ xs) = x

tail : List ℕ → List ℕ
tail [] = []
tail (x ∷ xs) = xs

-- no value's bytes begin with those of another
values-same : (a b : Value) (r s : List ℕ) → value_bytes a ++ r ≡ value_bytes b ++ s → (a ≡ b) × (r ≡ s)
unfolding head tail
values-same a b r s e =
    let da = digits_of (magnitude_of a) in
    let db = digits_of (magnitude_of b) in
    let kinds : kind_of a ≡ kind_of b = ap head e in
    let behind : length da ∷ (da ++ string_of a) ++ r ≡ length db ∷ (db ++ string_of b) ++ s = ap tail e in
    let sizes : length da ≡ length db = ap head behind in
    let joined : (da ++ string_of a) ++ r ≡ (db ++ string_of b) ++ s = ap tail behind in
    let apart : da ++ (string_of a ++ r) ≡ db ++ (string_of b ++ s) = sym (append_assoc da (string_of a) r) ∙ joined ∙ append_assoc db (string_of b) s in
    let numbers : magnitude_of a ≡ magnitude_of b = digits-tell (magnitude_of a) (magnitude_of b) (fronts-same da db (string_of a ++ r) (string_of b ++ s) sizes apart) in
    let texts : string_of a ++ r ≡ string_of b ++ s = ends-same da db (string_of a ++ r) (string_of b ++ s) sizes apart in
    let lengths : length (string_of a) ≡ length (string_of b) = text-length a ∙ ap (λ k. text_length k (magnitude_of a)) kinds ∙ ap (text_length (kind_of b)) numbers ∙ sym (text-length b) in
    let text : string_of a ≡ string_of b = fronts-same (string_of a) (string_of b) r s lengths texts in
    (value-made a ∙ (λ i. made (kinds i) (numbers i) (text i)) ∙ sym (value-made b), ends-same (string_of a) (string_of b) r s lengths texts)

-- ---- key lists

pub keys-same : (a b : List Value) (r s : List ℕ) → key_bytes a ++ r ≡ key_bytes b ++ s → a ≡ b
unfolding head
keys-same [] [] r s e = refl
keys-same [] (w ∷ ws) r s e = absurd (let h : END_MARK ≡ kind_of w = ap head e in let k = kind-small w in omega (arith, h, k))
keys-same (v ∷ vs) [] r s e = absurd (let h : kind_of v ≡ END_MARK = ap head e in let k = kind-small v in omega (arith, h, k))
keys-same (v ∷ vs) (w ∷ ws) r s e =
    let apart : value_bytes v ++ (key_bytes vs ++ r) ≡ value_bytes w ++ (key_bytes ws ++ s) = sym (append_assoc (value_bytes v) (key_bytes vs) r) ∙ e ∙ append_assoc (value_bytes w) (key_bytes ws) s in
    let first = values-same v w (key_bytes vs ++ r) (key_bytes ws ++ s) apart in
    let rest = keys-same vs ws r s first.1 in
    λ i. first.0 i ∷ rest i

-- ---- the head of a value

-- a digit more
pub head-more : (bytes : List ℕ) (size rest : ℕ) (all : List ℕ) → size < 16 → length bytes ≡ 18 → rest ≢ 0
    → take (size + 2) bytes ++ digits_to (16 - size) rest ≡ all
    → take (size + 1 + 2) (set bytes (size + 2) (rest % 256)) ++ digits_to (16 - (size + 1)) (rest / 256) ≡ all
head-more bytes size rest all few len some before =
    let left : 16 - size ≡ suc (16 - (size + 1)) = omega arith in
    let more = take_more_set bytes (size + 2) (rest % 256) (omega arith) in
    let at : size + 1 + 2 ≡ size + 2 + 1 = omega arith in
    ap (λ n. take n (set bytes (size + 2) (rest % 256)) ++ digits_to (16 - (size + 1)) (rest / 256)) at
    ∙ ap (λ l. l ++ digits_to (16 - (size + 1)) (rest / 256)) more
    ∙ append_assoc (take (size + 2) bytes) (rest % 256 ∷ []) (digits_to (16 - (size + 1)) (rest / 256))
    ∙ ap (λ l. take (size + 2) bytes ++ l) (sym (digits-more (16 - (size + 1)) rest some))
    ∙ ap (λ k. take (size + 2) bytes ++ digits_to k rest) (sym left)
    ∙ before

-- no digit is left
pub head-done : (bytes : List ℕ) (size rest kind : ℕ) (ds : List ℕ) → size ≤ 16 → length bytes ≡ 18 → (size < 16 → rest ≡ 0)
    → take (size + 2) bytes ++ digits_to (16 - size) rest ≡ kind ∷ 0 ∷ ds → take (size + 2) (set bytes 1 size) ≡ kind ∷ length ds ∷ ds
unfolding digits_to
head-done bytes size rest kind ds few len done before =
    let none : digits_to (16 - size) rest ≡ [] = elim (cases_lt size 16) [
      | inl less ↦ ap (digits_to (16 - size)) (done less) ∙ digits-zero (16 - size)
      | inr full ↦ let e : 16 - size ≡ 0 = omega arith in ap (λ k. digits_to k rest) e ∙ no-digits rest
    ] in
    let whole : take (size + 2) bytes ≡ kind ∷ 0 ∷ ds = sym (append-nil (take (size + 2) bytes)) ∙ ap (λ l. take (size + 2) bytes ++ l) (sym none) ∙ before in
    let long : length (take (size + 2) bytes) ≡ size + 2 = length-take-le (size + 2) bytes (omega arith) in
    let count : size ≡ length ds = let e = ap length whole in omega (arith, e, long) in
    take-set-lt (size + 2) bytes 1 size (omega arith) ∙ ap (λ l. set l 1 size) whole ∙ ap (λ n. kind ∷ n ∷ ds) count
  where
    no-digits : (n : ℕ) → digits_to 0 n ≡ []
    no-digits n = refl

-- ---- what follows a value

-- bytes that don't begin with the head of a value don't begin with the value's
pub head-missing : (bytes head text : List ℕ) → ((rest : List ℕ) → bytes ≢ head ++ rest) → (rest : List ℕ) → bytes ≢ (head ++ text) ++ rest
head-missing bytes head text missing rest e = missing (text ++ rest) (e ∙ append_assoc head text rest)

-- what follows the text behind the head is what follows the value
pub value-behind : (bytes head text between : List ℕ) (r : Option (Bor (List ℕ))) → bytes ≡ head ++ between
    → MatchOption r ((rest : List ℕ) → between ≢ text ++ rest) (λ rest. between ≡ text ++ rest.now)
    → MatchOption r ((rest : List ℕ) → bytes ≢ (head ++ text) ++ rest) (λ rest. bytes ≡ (head ++ text) ++ rest.now)
value-behind bytes head text between None is missing = λ rest e. missing rest (append_cancel_left head between (text ++ rest) (sym is ∙ e ∙ append_assoc head text rest))
value-behind bytes head text between (Some x) is found = is ∙ ap (λ l. head ++ l) found ∙ sym (append_assoc head text x.now)

-- ---- the digits that bytes begin with

pub digits-next : (n : ℕ) → n ≢ 0 → digits_of n ≡ n % 256 ∷ digits_of (n / 256)
digits-next zero some = absurd (some refl)
digits-next (suc m) some =
    digits-more m (suc m) some ∙ ap (λ ds. suc m % 256 ∷ ds) (digits-all m (suc m / 256) (quotient-small m (suc m) (power-above (suc m))))

pub no-digits-left : (n : ℕ) → n ≡ 0 → digits_of n ≡ []
no-digits-left n none = ap digits_of none ∙ digits-zero 0

-- the next byte is the next digit
pub digit-met : (bytes : List ℕ) (count left : ℕ) → count < length bytes → get_or bytes count 0 ≡ left % 256 → left ≢ 0
    → (rest : List ℕ) → (drop count bytes ≡ digits_of left ++ rest) ↔ (drop (count + 1) bytes ≡ digits_of (left / 256) ++ rest)
unfolding tail
digit-met bytes count left within same some rest =
    let at : suc count ≡ count + 1 = omega arith in
    let front : drop count bytes ≡ left % 256 ∷ drop (count + 1) bytes = drop-cons bytes count 0 within ∙ (λ i. same i ∷ drop (at i) bytes) in
    let digits : digits_of left ++ rest ≡ left % 256 ∷ (digits_of (left / 256) ++ rest) = ap (λ l. l ++ rest) (digits-next left some) in
    (λ e. ap tail (sym front ∙ e ∙ digits), λ e. front ∙ ap (λ l. left % 256 ∷ l) e ∙ sym digits)

-- there is no next byte, or it isn't the next digit
pub digit-missed : (bytes : List ℕ) (count left : ℕ) → left ≢ 0 → (count < length bytes → get_or bytes count 0 ≢ left % 256)
    → (rest : List ℕ) → drop count bytes ≢ digits_of left ++ rest
unfolding head
digit-missed bytes count left some other rest e =
    let digits : digits_of left ++ rest ≡ left % 256 ∷ (digits_of (left / 256) ++ rest) = ap (λ l. l ++ rest) (digits-next left some) in
    elim (cases_lt count (length bytes)) [
      | inl within ↦ other within (ap head (sym (drop-cons bytes count 0 within) ∙ e ∙ digits))
      | inr past ↦ let none = sym (drop_all count bytes past) ∙ e ∙ digits in absurd (cc (none))
    ]

-- ---- going through a key

drop-at : (key : List Value) (i : ℕ) (v : Value) → i < length key → v ≡ get_or key i v → drop i key ≡ v ∷ drop (i + 1) key
drop-at key i v within is =
    let next : suc i ≡ i + 1 = omega arith in
    drop-cons key i v within ∙ ap (λ x. x ∷ drop (suc i) key) (sym is) ∙ ap (λ j. v ∷ drop j key) next

-- behind the next value the bytes left begin with those of the values left
pub next-left : (bytes rest next more : List ℕ) (key : List Value) (i : ℕ) (v : Value) → i < length key → v ≡ get_or key i v → rest ≡ value_bytes v ++ next
    → ((bytes ≡ key_bytes key ++ more) ↔ (rest ≡ key_bytes (drop i key) ++ more)) → (bytes ≡ key_bytes key ++ more) ↔ (next ≡ key_bytes (drop (i + 1) key) ++ more)
next-left bytes rest next more key i v within is found before =
    let left = key_bytes (drop (i + 1) key) in
    let split : key_bytes (drop i key) ++ more ≡ value_bytes v ++ (left ++ more) = ap (λ k. key_bytes k ++ more) (drop-at key i v within is) ∙ append_assoc (value_bytes v) left more in
    (λ e. append_cancel_left (value_bytes v) next (left ++ more) (sym found ∙ before.0 e ∙ split), λ e. before.1 (found ∙ ap (λ l. value_bytes v ++ l) e ∙ sym split))

-- a value that is missing is missed by the key
pub value-missing : (bytes rest : List ℕ) (key : List Value) (i : ℕ) (v : Value) → i < length key → v ≡ get_or key i v → ((more : List ℕ) → rest ≢ value_bytes v ++ more)
    → ((more : List ℕ) → (bytes ≡ key_bytes key ++ more) ↔ (rest ≡ key_bytes (drop i key) ++ more)) → BeginsWithKey bytes key → ⊥
value-missing bytes rest key i v within is missing before b =
    let left = key_bytes (drop (i + 1) key) in
    missing (left ++ b.0) ((before b.0).0 b.1 ∙ ap (λ k. key_bytes k ++ b.0) (drop-at key i v within is) ∙ append_assoc (value_bytes v) left b.0)

-- behind the last value stands the end mark
module _ (bytes : List ℕ) (key : List Value) (i : ℕ) (all : length key ≤ i) where
  end-left : (more : List ℕ) → key_bytes (drop i key) ++ more ≡ END_MARK ∷ more
  end-left more = ap (λ k. key_bytes k ++ more) (drop_all i key all)

  pub end-marked : (rest : List ℕ) → ((more : List ℕ) → (bytes ≡ key_bytes key ++ more) ↔ (rest ≡ key_bytes (drop i key) ++ more))
      → 0 < length rest → get_or rest 0 0 ≡ END_MARK → BeginsWithKey bytes key
  end-marked [] before some mark = absurd (omega arith)
  end-marked (x ∷ xs) before some mark = (xs, (before xs).1 (ap (λ y. y ∷ xs) mark ∙ sym (end-left xs)))

  pub end-missing : (rest : List ℕ) → ((more : List ℕ) → (bytes ≡ key_bytes key ++ more) ↔ (rest ≡ key_bytes (drop i key) ++ more))
      → get_or rest 0 0 ≢ END_MARK → BeginsWithKey bytes key → ⊥
  end-missing rest before other b = other (ap (λ l. get_or l 0 0) ((before b.0).0 b.1 ∙ end-left b.0))

  pub end-told : (rest : List ℕ) → ((more : List ℕ) → (bytes ≡ key_bytes key ++ more) ↔ (rest ≡ key_bytes (drop i key) ++ more))
      → 0 < length rest → IsTrue (get_or rest 0 0 == END_MARK) ↔ BeginsWithKey bytes key
  end-told rest before some = (
    λ same. end-marked rest before some (eqb-true (get_or rest 0 0) END_MARK same),
    λ begins. elim (cases_eq (get_or rest 0 0) END_MARK) [
      | inl same ↦ eq-eqb (get_or rest 0 0) END_MARK same
      | inr other ↦ absurd (end-missing rest before other begins)
    ],
  )

-- the state behind the last value
pub hashed-all : (state : ℕ) (key : List Value) (i : ℕ) → length key ≤ i → hashed_on state (drop i key) ≡ state
hashed-all state key i all = ap (hashed_on state) (drop_all i key all)
