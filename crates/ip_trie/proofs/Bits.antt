-- The bits that lead from cell to cell.
use Rattle.std.proofs.Common.{◌≡◌, ℕ, zero, suc, ◌+◌, ◌-◌, ◌*◌, ◌/◌, ◌%◌, ◌^◌, ◌<◌, ◌≤◌, arith, sym, ◌∙◌, ap, subst}
use Rattle.std.proofs.lemmas.Nat.{mod-pow-add, pow-add, shl-shr, shr-shr, shr_le, shr_split}
use Rattle.std.proofs.Math.Nat.{mul-mod_left, mul_assoc}
use Rattle.ip_trie.specs.Cells.{digit, level_of, top}

-- fewer bits are the first of more
pub top-of : (d e a : ℕ) → d ≤ e → e ≤ 128 → top d a ≡ top e a / 2 ^ (e - d)
top-of d e a h l =
    let k : 128 - e + (e - d) ≡ 128 - d = omega arith in
    subst (λ m. a / 2 ^ m ≡ top e a / 2 ^ (e - d)) k (sym (shr-shr a (128 - e) (e - d)))

pub same-top : (d e a b : ℕ) → d ≤ e → e ≤ 128 → top e a ≡ top e b → top d a ≡ top d b
same-top d e a b h l s = top-of d e a h l ∙ (ap (λ (x : ℕ). x / 2 ^ (e - d)) s ∙ sym (top-of d e b h l))

-- a level more
pub top-more : (level a : ℕ) → level < 32 → top (4 * (level + 1)) a ≡ 16 * top (4 * level) a + digit level a
top-more level a l =
    let t = top-of (4 * level) (4 * (level + 1)) a (omega arith) (omega arith) in
    let four : 4 * (level + 1) - 4 * level ≡ 4 = omega arith in
    let u : top (4 * level) a ≡ top (4 * (level + 1)) a / 2 ^ 4 = subst (λ m. top (4 * level) a ≡ top (4 * (level + 1)) a / 2 ^ m) four t in
    let k : 128 - 4 * (level + 1) ≡ 124 - 4 * level = omega arith in
    let v : top (4 * (level + 1)) a ≡ a / 2 ^ (124 - 4 * level) = ap (λ m. a / 2 ^ m) k in
    omega (arith, u, v)

pub digit-small : (level a : ℕ) → digit level a < 16
digit-small level a = omega arith

pub same-digit : (level a b : ℕ) → level < 32 → top (4 * (level + 1)) a ≡ top (4 * (level + 1)) b → digit level a ≡ digit level b
same-digit level a b l s =
    let x = top-more level a l in
    let y = top-more level b l in
    let h = same-top (4 * level) (4 * (level + 1)) a b (omega arith) (omega arith) s in
    omega (arith, x, y, h, s)

pub same-more : (level a b : ℕ) → level < 32 → top (4 * level) a ≡ top (4 * level) b → digit level a ≡ digit level b → top (4 * (level + 1)) a ≡ top (4 * (level + 1)) b
same-more level a b l s d =
    let x = top-more level a l in
    let y = top-more level b l in
    omega (arith, x, y, s, d)

pub top-none : (a : ℕ) → a < 2 ^ 128 → top 0 a ≡ 0
top-none a l = omega arith

-- the level of a length
pub level-within : (len : ℕ) → len ≤ 128 → level_of len < 32
level-within len l = omega arith

pub level-below : (len level : ℕ) → level < level_of len → 4 * (level + 1) < len
level-below len level l = omega arith

pub level-most : (len : ℕ) → len ≤ 4 * level_of len + 4
level-most len = omega arith

pub level-least : (len : ℕ) → 4 * level_of len ≤ len
level-least len = omega arith

-- ---- which digits a prefix covers at its level

zero-product : (x i : ℕ) → x * 2 ^ i ≡ 0 → x ≡ 0
zero-product x i z = sym (shl-shr x i) ∙ (ap (λ (m : ℕ). m / 2 ^ i) z ∙ shr-none i)
  where
    shr-none : (i : ℕ) → 0 / 2 ^ i ≡ 0
    shr-none i = let l = shr_le 0 i in omega (arith, l)

shifted-zero : (a i j : ℕ) → a % 2 ^ (j + i) ≡ 0 → a / 2 ^ i % 2 ^ j ≡ 0
shifted-zero a i j z =
    let parts = mod-pow-add a j i in
    zero-product (a / 2 ^ i % 2 ^ j) i (omega (arith, parts, z))

-- the bits up to the end of the level, where those past the prefix's length are 0
cleared-top : (len high a : ℕ) → len ≤ high → high ≤ 128 → a % 2 ^ (128 - len) ≡ 0 → top high a % 2 ^ (high - len) ≡ 0
cleared-top len high a h l c =
    let n : 128 - len ≡ high - len + (128 - high) = omega arith in
    shifted-zero a (128 - high) (high - len) (subst (λ m. a % 2 ^ m ≡ 0) n c)

-- numbers that agree but for their last digits
covers-at : (x y e : ℕ) → e ≤ 4 → x % 2 ^ e ≡ 0
    → (x % 16 + 2 ^ e ≤ 16) × (x / 2 ^ e ≡ y / 2 ^ e → (x / 16 ≡ y / 16) × (x % 16 ≤ y % 16) × (y % 16 < x % 16 + 2 ^ e))
    × (x / 16 ≡ y / 16 → x % 16 ≤ y % 16 → y % 16 < x % 16 + 2 ^ e → x / 2 ^ e ≡ y / 2 ^ e)
covers-at x y zero l z = (omega arith, λ s. (omega arith, omega arith, omega arith), λ a b c. omega arith)
covers-at x y (suc zero) l z = (omega arith, λ s. (omega arith, omega arith, omega arith), λ a b c. omega arith)
covers-at x y (suc (suc zero)) l z = (omega arith, λ s. (omega arith, omega arith, omega arith), λ a b c. omega arith)
covers-at x y (suc (suc (suc zero))) l z = (omega arith, λ s. (omega arith, omega arith, omega arith), λ a b c. omega arith)
covers-at x y (suc (suc (suc (suc zero)))) l z = (omega arith, λ s. (omega arith, omega arith, omega arith), λ a b c. omega arith)
covers-at x y (suc (suc (suc (suc (suc e))))) l z = absurd (omega (arith, l))

module _ (len level a0 a : ℕ) (l : level < 32) (is : level ≡ level_of len) (most : len ≤ 128) (cleared : a0 % 2 ^ (128 - len) ≡ 0) where
  abbrev high : ℕ
  high = 4 * (level + 1)

  abbrev width : ℕ
  width = 2 ^ (4 * level + 4 - len)

  at-level : (top high a0 % 16 + width ≤ 16) × (top high a0 / width ≡ top high a / width → (top high a0 / 16 ≡ top high a / 16) × (top high a0 % 16 ≤ top high a % 16) × (top high a % 16 < top high a0 % 16 + width))
      × (top high a0 / 16 ≡ top high a / 16 → top high a0 % 16 ≤ top high a % 16 → top high a % 16 < top high a0 % 16 + width → top high a0 / width ≡ top high a / width)
  at-level =
      let e : high - len ≡ 4 * level + 4 - len = omega arith in
      covers-at (top high a0) (top high a) (4 * level + 4 - len) (let m = level-least len in omega (arith, m, is))
      (subst (λ k. top high a0 % 2 ^ k ≡ 0) e (cleared-top len high a0 (let m = level-most len in omega (arith, m, is)) (omega arith) cleared))

  top-is : (b : ℕ) → top len b ≡ top high b / width
  top-is b =
      let e : high - len ≡ 4 * level + 4 - len = omega arith in
      subst (λ k. top len b ≡ top high b / 2 ^ k) e (top-of len high b (let m = level-most len in omega (arith, m, is)) (omega arith))

  pub covered-within : digit level a0 + width ≤ 16
  covered-within = let m = top-more level a0 l in let w = at-level.0 in omega (arith, m, w)

  pub covered-to : top len a0 ≡ top len a → (top (4 * level) a0 ≡ top (4 * level) a) × (digit level a0 ≤ digit level a) × (digit level a < digit level a0 + width)
  covered-to s =
      let x = top-more level a0 l in
      let y = top-more level a l in
      let q = at-level.1 (sym (top-is a0) ∙ (s ∙ top-is a)) in
      let q0 = q.0 in
      let q1 = q.1 in
      let q2 = q.2 in
      (omega (arith, x, y, q0), omega (arith, x, y, q1), omega (arith, x, y, q2))

  pub covered-from : top (4 * level) a0 ≡ top (4 * level) a → digit level a0 ≤ digit level a → digit level a < digit level a0 + width → top len a0 ≡ top len a
  covered-from s low up =
      let x = top-more level a0 l in
      let y = top-more level a l in
      top-is a0 ∙ (at-level.2 (omega (arith, x, y, s)) (omega (arith, x, y, low)) (omega (arith, x, y, up)) ∙ sym (top-is a))

-- the bits of an IPv4 prefix, as the first of 128
pub cleared-short : (bits len : ℕ) → len ≤ 32 → bits < 2 ^ 32 → bits % 2 ^ (32 - len) ≡ 0 → bits * 2 ^ 96 % 2 ^ 128 % 2 ^ (128 - len) ≡ 0
cleared-short bits len l small z =
    let whole : bits * 2 ^ 96 % 2 ^ 128 ≡ bits * 2 ^ 96 = omega (arith, small) in
    let s = shr_split bits (32 - len) in
    let parts : bits ≡ bits / 2 ^ (32 - len) * 2 ^ (32 - len) = omega (arith, s, z) in
    let e : 32 - len + 96 ≡ 128 - len = omega arith in
    let p : 2 ^ (32 - len + 96) ≡ 2 ^ (32 - len) * 2 ^ 96 = pow-add 2 (32 - len) 96 in
    let q : bits * 2 ^ 96 ≡ bits / 2 ^ (32 - len) * 2 ^ (128 - len) =
    ap (λ (m : ℕ). m * 2 ^ 96) parts ∙ (mul_assoc (bits / 2 ^ (32 - len)) (2 ^ (32 - len)) (2 ^ 96) ∙ (ap (λ (m : ℕ). bits / 2 ^ (32 - len) * m) (sym p) ∙ ap (λ k. bits / 2 ^ (32 - len) * 2 ^ k) e)) in
    ap (λ (m : ℕ). m % 2 ^ (128 - len)) (whole ∙ q) ∙ mul-mod_left (bits / 2 ^ (32 - len)) (2 ^ (128 - len))
