-- What is written of an identifier or an address is read as the same number.
use Rattle.std.proofs.Common.{◌≡◌, ℕ, zero, suc, ◌+◌, ◌*◌, ◌/◌, ◌%◌, ◌^◌, ◌<◌, List, [], ◌∷◌, length, get_or, Ok, All, refl, ap, sym, ◌∙◌, arith, inl, inr}
use Rattle.std.proofs.lemmas.Bool.{cases_lt}
use Rattle.std.proofs.lemmas.List.{get_or_past}
use Rattle.std.proofs.lemmas.List.Elements.{All-from_recursion}
use Rattle.std.proofs.lemmas.Nat.{from_be_bytes-to_be_bytes_4}
use Rattle.std.specs.List.{AllByRecursion}
use Rattle.std.specs.Int.{w32, w128, to_be_bytes, from_be_bytes}
use Rattle.std.specs.Net.Addr.{octets_of, segments_of}
use Rattle.std.specs.Net.Text.{ipv4_text, ipv6_text}
use Rattle.std.proofs.NetLemmas.Texts.{IsDotted-ipv4_text, IsColonHex-ipv6_text}
use Rattle.uuid.specs.Text.{lower}
use Rattle.uuid.proofs.RoundTrips.{parses_hyphenated}
use Rattle.uuid.proofs.OrderLemmas.{from_be_bytes-to_be_bytes_16}
use Rattle.dict_value.specs.Identifiers.{id_of, id_text}
use Rattle.dict_value.specs.Addresses.{v4_of, v6_of, v4_text, v6_text}
use Rattle.dict_value.proofs.WrittenAddresses.{v4_read, v6_read}

-- the bytes of a number
bytes_4 : (n : ℕ) → All (λ b. b < 256) (to_be_bytes w32 n)
bytes_4 n = All-from_recursion (λ b. b < 256) (to_be_bytes w32 n) (omega arith)

bytes_16 : (n : ℕ) → All (λ b. b < 256) (to_be_bytes w128 n)
bytes_16 n = All-from_recursion (λ b. b < 256) (to_be_bytes w128 n) (omega arith)

-- a bound of each number in a list is one of what stands at any place
at_any : (bound : ℕ) (xs : List ℕ) → 0 < bound → All (λ x. x < bound) xs → (k : ℕ) → get_or xs k 0 < bound
at_any bound xs some all k = elim (cases_lt k (length xs)) [
  | inl within ↦ all k 0 within
  | inr past ↦ rw (get_or_past xs k 0 past) some
]

groups_16 : (n : ℕ) → All (λ s. s < 2 ^ 16) (segments_of (to_be_bytes w128 n))
groups_16 n = All-from_recursion (λ s. s < 2 ^ 16) (segments_of (to_be_bytes w128 n)) (omega arith)

pub id_again : (n : ℕ) → n < 2 ^ 128 → id_of (id_text n) ≡ Ok n
id_again n small =
    rw (sym (parses_hyphenated lower (to_be_bytes w128 n) (inl refl) refl (bytes_16 n))) (ap Ok (from_be_bytes-to_be_bytes_16 n small))

pub v4_again : (n : ℕ) → n < 2 ^ 32 → v4_of (v4_text n) ≡ Ok n
v4_again n small =
    let octets = to_be_bytes w32 n in
    rw (v4_read (ipv4_text octets) octets (IsDotted-ipv4_text octets refl (at_any 256 octets (omega arith) (bytes_4 n)))) (ap Ok (from_be_bytes-to_be_bytes_4 n small))

-- two octets are one group
pairs_back : (xs : List ℕ) (n : ℕ) → length xs ≡ 2 * n → AllByRecursion (λ b. b < 256) xs → octets_of (segments_of xs) ≡ xs
pairs_back [] n e h = refl
pairs_back (a ∷ []) n e h = absurd (omega arith)
pairs_back (a ∷ b ∷ xs) zero e h = absurd (omega arith)
pairs_back (a ∷ b ∷ xs) (suc n) e h =
    let high : (a * 256 + b) / 256 ≡ a = omega arith in
    let low : (a * 256 + b) % 256 ≡ b = omega arith in
    let rest = pairs_back xs n (omega arith) h.1.1 in
    λ i. high i ∷ low i ∷ rest i

octets_again : (n : ℕ) → octets_of (segments_of (to_be_bytes w128 n)) ≡ to_be_bytes w128 n
octets_again n = pairs_back (to_be_bytes w128 n) 8 refl (omega arith)

pub v6_again : (n : ℕ) → n < 2 ^ 128 → v6_of (v6_text n) ≡ Ok n
v6_again n small =
    let groups = segments_of (to_be_bytes w128 n) in
    rw (v6_read (ipv6_text groups) groups (IsColonHex-ipv6_text groups refl (at_any (2 ^ 16) groups (omega arith) (groups_16 n))))
    (ap Ok (ap (from_be_bytes w128) (octets_again n) ∙ from_be_bytes-to_be_bytes_16 n small))
