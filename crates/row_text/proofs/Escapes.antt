-- The escape that a text begins with.
use Rattle.std.proofs.Common.{◌≡◌, ◌≢◌, ◌≤◌, ◌+◌, ◌*◌, ◌∷◌, [], ℕ, List, length, get_or, refl, arith, Some}
use Rattle.dict_value.specs.declared.letters.TheConstants.{BACKSLASH, LETTER_X}
use Rattle.dict_value.specs.Escapes.{hex_digit, unescaped}
use Rattle.row_text.specs.Marks.{escaped, hex}
use Rattle.row_text.specs.steps.TabSteps.{EscapeOf}

pub escape-one : (text : List ℕ) → get_or text 0 0 ≡ BACKSLASH → 2 ≤ length text → get_or text 1 0 ≢ LETTER_X → EscapeOf text (Some (unescaped (get_or text 1 0), 2))
escape-one [] first long other = absurd (omega (arith, long))
escape-one (a ∷ []) first long other = absurd (omega (arith, long))
escape-one (a ∷ b ∷ rest) first long other = (
  escaped b,
  refl,
  long,
  refl,
  record {
    within = long;
    spells = record { valid = (other, tt); joined = rw first refl };
    untabbed = (refl, tt);
  },
)

pub escape-hex : (text : List ℕ) (high low : ℕ) → get_or text 0 0 ≡ BACKSLASH → 4 ≤ length text → get_or text 1 0 ≡ LETTER_X
    → hex_digit (get_or text 2 0) ≡ Some high → hex_digit (get_or text 3 0) ≡ Some low → EscapeOf text (Some (16 * high + low, 4))
escape-hex [] high low first long other p q = absurd (omega (arith, long))
escape-hex (a ∷ []) high low first long other p q = absurd (omega (arith, long))
escape-hex (a ∷ b ∷ []) high low first long other p q = absurd (omega (arith, long))
escape-hex (a ∷ b ∷ h ∷ []) high low first long other p q = absurd (omega (arith, long))
escape-hex (a ∷ b ∷ h ∷ l ∷ rest) high low first long other p q = (
  hex h l,
  rw (p, q) refl,
  long,
  refl,
  record {
    within = long;
    spells = record { valid = ((rw p refl, rw q refl), tt); joined = rw (first, other) refl };
    untabbed = (refl, tt);
  },
)
