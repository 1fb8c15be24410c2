-- How an open table is probed: from the home of a key on, over the end to the front.
use Rattle.std.specs.Prelude.{◌≡◌, ◌≢◌, ℕ, ◌+◌, ◌-◌, ◌*◌, ◌/◌, ◌%◌, ◌^◌, ◌<◌, Option, Some, None, bit_xor, nat_lt}
use Rattle.std.specs.Prelude.{if◌then◌else◌}

-- the cell of a probe
abbrev pub probed : ℕ → ℕ → ℕ → ℕ
probed size home probe = if nat_lt (home + probe) size then home + probe else home + probe - size

-- The probes from the home meet the key, behind taken cells alone. Each cell is free or holds a key.
pub record IsMet {K : Type 0} (size home : ℕ) (held : ℕ → Option K) (key : K) : Type 0 where
  pub probe : ℕ
  pub near : probe < size
  pub met : held (probed size home probe) ≡ Some key
  pub taken : (earlier : ℕ) → earlier < probe → held (probed size home earlier) ≢ None

-- the part of the cells before the home of a number with these 32 bits, of all 2 ^ 32
abbrev pub part_of : ℕ → ℕ → ℕ
part_of size bits = bits * size / 2 ^ 32

-- 64 bits, mixed: each bit of the number moves about half of the upper ones
unfoldable pub mixed : ℕ → ℕ
mixed n =
    let once = (bit_xor n (n / 2 ^ 32) * 0x9e3779b97f4a7c15) % 2 ^ 64 in
    (bit_xor once (once / 2 ^ 32) * 0xd6e8feb86659fd93) % 2 ^ 64

-- where the probes of a key of 64 bits begin
unfoldable pub home_of : ℕ → ℕ → ℕ
home_of size key = part_of size (mixed key / 2 ^ 32)
