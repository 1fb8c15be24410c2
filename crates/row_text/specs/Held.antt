-- What a cutter knows of the bytes that it was fed.
use Rattle.std.specs.Prelude.{◌≡◌, ◌<◌, ◌≤◌, ◌+◌, ◌∷◌, ◌++◌, [], nat_lt, ℕ, List, length}
use Rattle.row_text.specs.declared.cutter.CutRule.{CutRule}
use Rattle.row_text.specs.declared.cutter.Cut.{Cut}
use Rattle.row_text.specs.declared.cutter.Cut.TheVariants as cut
use Rattle.row_text.specs.declared.cutter.Cutter.{Cutter}
use Rattle.dict_value.specs.declared.letters.TheConstants.{LINE_FEED}
use Rattle.row_text.specs.Cutting.{IsOpen, IsWhole, keeps_open}

-- the cutter goes by this rule, and stands behind these bytes of a row
pub record IsBehindRow (rule : CutRule) (cutter : Cutter) (row : List ℕ) : Type 0 where
  pub by_rule : cutter.rule ≡ rule
  pub opened : IsOpen rule row
  pub started : cutter.started ≡ nat_lt 0 (length row)
  pub inside : cutter.inside ≡ keeps_open rule row

-- behind these bytes of a row, so many bytes of the piece end it, line feed included
abbrev pub EndsRow : CutRule → List ℕ → List ℕ → ℕ → Type 0
EndsRow rule row piece count =
    (front tail : List ℕ) × (piece ≡ front ++ LINE_FEED ∷ tail) × (count ≡ length front + 1)
    × IsWhole rule (row ++ front)

-- what a cutter behind these bytes of a row answers to a piece, and where it stands then
abbrev pub Feeds : CutRule → List ℕ → List ℕ → Cut → Cutter → Type 0
Feeds rule row piece (cut.Row count) after = EndsRow rule row piece count × IsBehindRow rule after []
Feeds rule row piece cut.More after = IsBehindRow rule after (row ++ piece)

-- a row end is one of the piece's
abbrev pub IsCutOf : List ℕ → Cut → Type 0
IsCutOf piece (cut.Row count) = (0 < count) × (count ≤ length piece)
IsCutOf piece cut.More = Unit {0}
