-- Addresses and prefixes: the ClickHouse documentation's IPv4 and IPv6, in this profile.
use Rattle.std.specs.Prelude.{◌%◌, ◌<◌, ◌≤◌, ◌≡◌, ℕ, ◌-◌, ◌*◌, ◌/◌, ◌^◌, true, false, not, ◌||◌, ◌==◌, nat_le}
use Rattle.std.specs.Prelude.{if◌then◌else◌, List, length, drop, slice_index, Option, Some, None, Result, Ok}
use Rattle.std.specs.Option.{option_map, option_or, option_and_then}
use Rattle.std.specs.Int.{w32, w128, to_be_bytes, from_be_bytes}
use Rattle.std.specs.Net.Addr.{octets_of, segments_of}
use Rattle.std.specs.Net.Grammar.{IsDotted, IsColonHex}
use Rattle.std.specs.Net.Reader.{read_ipv4, read_ipv6, whole_value}
use Rattle.std.specs.Net.Text.{ipv4_text, ipv6_text}
use Rattle.dict_value.specs.Letters.{digit_zero, slash}
use Rattle.dict_value.specs.declared.value.BadValue.{BadValue}
use Rattle.dict_value.specs.declared.value.BadValue.TheVariants.{BadAddress}
use Rattle.dict_value.specs.declared.value.Address.{Address}
use Rattle.dict_value.specs.declared.value.Address.TheVariants as address
use Rattle.dict_value.specs.declared.value.Prefix.{Prefix}
use Rattle.dict_value.specs.Decimals.{before_byte, from_byte}
use Rattle.dict_value.specs.Numbers.{number_in, given}

-- The text writes this address of four octets, or of eight groups of 16 bits.
abbrev pub IsV4 : List ℕ → ℕ → Type 0
IsV4 text n = (octets : List ℕ) × IsDotted text octets × (n ≡ from_be_bytes w32 octets)

abbrev pub IsV6 : List ℕ → ℕ → Type 0
IsV6 text n = (groups : List ℕ) × IsColonHex text groups × (n ≡ from_be_bytes w128 (octets_of groups))

-- the address that a text writes, of either family
abbrev pub IsAddress : List ℕ → Address → Type 0
IsAddress text (address.V4 n) = IsV4 text n
IsAddress text (address.V6 n) = IsV6 text n

-- The same as functions of the text.
abbrev pub v4_in : List ℕ → Option ℕ
v4_in text = option_map (from_be_bytes w32) (whole_value (read_ipv4 text))

abbrev pub v6_in : List ℕ → Option ℕ
v6_in text = option_map (λ groups. from_be_bytes w128 (octets_of groups)) (whole_value (read_ipv6 text))

abbrev pub v4_of : List ℕ → Result ℕ BadValue
v4_of text = given (v4_in text) BadAddress Ok

abbrev pub v6_of : List ℕ → Result ℕ BadValue
v6_of text = given (v6_in text) BadAddress Ok

unfoldable pub address_in : List ℕ → Option Address
address_in text = option_or (option_map address.V4 (v4_in text)) (option_map address.V6 (v6_in text))

-- the text of an address
abbrev pub v4_text : ℕ → List ℕ
v4_text n = ipv4_text (to_be_bytes w32 n)

abbrev pub v6_text : ℕ → List ℕ
v6_text n = ipv6_text (segments_of (to_be_bytes w128 n))

-- a number without leading zeros, at most `most`
abbrev pub length_in : ℕ → List ℕ → Option ℕ
length_in most text =
    if not (slice_index text 0 == digit_zero) || (length text == 1)
    then option_and_then (λ n. if nat_le n most then Some n else None) (number_in text) else None

-- a number of `width` bits with all but its first `count` bits cleared
abbrev pub first_bits : ℕ → ℕ → ℕ → ℕ
first_bits width count n = n / 2 ^ (width - count) * 2 ^ (width - count)

-- the address's first bits
abbrev pub prefix_of : Address → ℕ → Prefix
prefix_of (address.V4 n) len = record { v6 = false; bits = first_bits 32 len n; len = len }
prefix_of (address.V6 n) len = record { v6 = true; bits = first_bits 128 len n; len = len }

-- how many bits an address of the prefix's family has
abbrev pub prefix_width : Prefix → ℕ
prefix_width p = if p.v6 then 128 else 32

-- The first bits of an address of its family; the bits past its length are 0.
pub record IsPrefix (p : Prefix) : Type 0 where
  pub len : p.len ≤ prefix_width p
  pub bits : p.bits < 2 ^ prefix_width p
  pub cleared : p.bits % 2 ^ (prefix_width p - p.len) ≡ 0

-- how many bits an address of the family has
abbrev pub width_of : Address → ℕ
width_of (address.V4 n) = 32
width_of (address.V6 n) = 128

-- the length behind a slash, or the whole width where there is none
abbrev pub prefix_len_in : ℕ → List ℕ → Option ℕ
prefix_len_in width rest = if length rest == 0 then Some width else length_in width (drop 1 rest)

-- the prefix that a text writes
unfoldable pub prefix_in : List ℕ → Option Prefix
prefix_in text =
    option_and_then (λ a. option_map (prefix_of a) (prefix_len_in (width_of a) (from_byte slash text)))
    (address_in (before_byte slash text))
