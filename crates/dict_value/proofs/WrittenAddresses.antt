-- A text writes an address exactly where it is read so.
use Rattle.std.proofs.Common.{◌≡◌, ℕ, List, [], ◌++◌, Option, Some, None, length, sym, ap, ◌∙◌, subst, lit≤, append-nil, refl, ne_eqb, arith, ◌∷◌, ◌⊎◌, inl, inr}
use Rattle.std.specs.Option.{option_map}
use Rattle.std.specs.Int.{w32, w128, from_be_bytes}
use Rattle.std.specs.Net.Addr.{octets_of}
use Rattle.std.specs.Net.Grammar.{IsDotted, IsColonHex}
use Rattle.std.specs.Net.Reader.{read_ipv4, read_ipv6, whole_value}
use Rattle.std.proofs.NetLemmas.Ipv4.{read_ipv4_complete, read_ipv4_sound}
use Rattle.std.proofs.NetLemmas.Ipv6.{read_ipv6_complete, read_ipv6_sound, EndsGroups-nil, IsDotted-not_colon_hex}
use Rattle.dict_value.specs.Addresses.{v4_in, v6_in, IsV4, IsV6, IsAddress, address_in}
use Rattle.dict_value.specs.declared.value.Address.{Address}
use Rattle.dict_value.specs.declared.value.Address.TheVariants as address

-- a text that is written so is read so
pub v4_read : (text octets : List ℕ) → IsDotted text octets → v4_in text ≡ Some (from_be_bytes w32 octets)
v4_read text octets h =
    let whole = rw append-nil at (read_ipv4_complete text octets [] h (lit≤ tt)) in
    ap (λ r. option_map (from_be_bytes w32) (whole_value r)) whole

pub v6_read : (text groups : List ℕ) → IsColonHex text groups → v6_in text ≡ Some (from_be_bytes w128 (octets_of groups))
v6_read text groups h =
    let whole = rw append-nil at (read_ipv6_complete text groups [] h EndsGroups-nil) in
    ap (λ r. option_map (λ groups. from_be_bytes w128 (octets_of groups)) (whole_value r)) whole

-- a text that is read so is written so
module _ (IsText : List ℕ → List ℕ → Type 0) (text : List ℕ) (read : Option (List ℕ × List ℕ))
    (sound : (parts rest : List ℕ) → read ≡ Some (parts, rest) → (front : List ℕ) × (text ≡ front ++ rest) × IsText front parts) where
  at_rest : (parts rest value : List ℕ) → read ≡ Some (parts, rest) → whole_value (Some (parts, rest)) ≡ Some value → IsText text value
  at_rest parts [] value e h =
      let found = sound parts [] e in
      let same : parts ≡ value = cc in
      subst (λ v. IsText text v) same (subst (λ t. IsText t parts) (sym (found.1 ∙ append-nil found.0)) found.2)
  at_rest parts (b ∷ rest) value e h =
      let wrong = rw (ne_eqb (length (b ∷ rest)) 0 (omega arith)) at h in absurd (cc)

  at_read : (r : Option (List ℕ × List ℕ)) (value : List ℕ) → read ≡ r → whole_value r ≡ Some value → IsText text value
  at_read None value e h = absurd (cc)
  at_read (Some p) value e h = at_rest p.0 p.1 value e h

  pub whole_sound : (value : List ℕ) → whole_value read ≡ Some value → IsText text value
  whole_sound value h = at_read read value refl h

mapped : {A B : Type 0} (f : A → B) (o : Option A) (y : B) → option_map f o ≡ Some y → (x : A) × (o ≡ Some x) × (y ≡ f x)
mapped f None y h = absurd (cc)
mapped f (Some x) y h = (x, refl, cc)

pub v4_written : (text : List ℕ) (n : ℕ) → v4_in text ≡ Some n → IsV4 text n
v4_written text n h =
    let found = mapped (from_be_bytes w32) (whole_value (read_ipv4 text)) n h in
    (found.0, whole_sound IsDotted text (read_ipv4 text) (λ parts rest e. read_ipv4_sound text parts rest e) found.0 found.1, found.2)

pub v6_written : (text : List ℕ) (n : ℕ) → v6_in text ≡ Some n → IsV6 text n
v6_written text n h =
    let found = mapped (λ groups. from_be_bytes w128 (octets_of groups)) (whole_value (read_ipv6 text)) n h in
    (found.0, whole_sound IsColonHex text (read_ipv6 text) (λ parts rest e. read_ipv6_sound text parts rest e) found.0 found.1, found.2)

-- a number that was read, or none
pub cases_of : {A : Type 0} (o : Option A) → (o ≡ None) ⊎ ((x : A) × (o ≡ Some x))
cases_of None = inl refl
cases_of (Some x) = inr (x, refl)

-- the address of a text, in both directions
pub address_written : (text : List ℕ) (a : Address) → address_in text ≡ Some a → IsAddress text a
unfolding address_in
address_written text (address.V4 n) h = elim (cases_of (v4_in text)) [
  | inl none ↦ elim (cases_of (v6_in text)) [
    | inl none6 ↦ absurd (cc (none, none6, h))
    | inr some6 ↦ absurd (cc (none, some6.1, h))
  ]
  | inr some ↦ v4_written text n (some.1 ∙ ap Some (cc))
]
address_written text (address.V6 n) h = elim (cases_of (v4_in text)) [
  | inl none ↦ elim (cases_of (v6_in text)) [
    | inl none6 ↦ absurd (cc (none, none6, h))
    | inr some6 ↦ v6_written text n (some6.1 ∙ ap Some (cc))
  ]
  | inr some ↦ absurd (cc (some.1, h))
]

pub address_read : (text : List ℕ) (a : Address) → IsAddress text a → address_in text ≡ Some a
unfolding address_in
address_read text (address.V4 n) h = rw (v4_read text h.0 h.1, h.2) refl
address_read text (address.V6 n) h = elim (cases_of (v4_in text)) [
  | inl none ↦ rw (none, v6_read text h.0 h.1, h.2) refl
  | inr some ↦ absurd (IsDotted-not_colon_hex text _ _ (v4_written text some.0 some.1).1 h.1)
]

-- where none is written none is read
pub v4_unread : (text : List ℕ) → ((octets : List ℕ) → ¬ (IsDotted text octets)) → v4_in text ≡ None
v4_unread text none = elim (cases_of (v4_in text)) [
  | inl e ↦ e
  | inr some ↦ let w = v4_written text some.0 some.1 in absurd (none w.0 w.1)
]

pub v6_unread : (text : List ℕ) → ((groups : List ℕ) → ¬ (IsColonHex text groups)) → v6_in text ≡ None
v6_unread text none = elim (cases_of (v6_in text)) [
  | inl e ↦ e
  | inr some ↦ let w = v6_written text some.0 some.1 in absurd (none w.0 w.1)
]
