-- A child that is read to its end.
use Rattle.std.specs.Prelude.{◌≡◌, ◌<◌, ◌≤◌, ℕ, List, ◌++◌, length, map, Option, Some}
use Rattle.std.specs.List.{All, concat}
use Rattle.child_io.specs.Told.{Told}
use Rattle.child_io.specs.Calls.{Act, History, read_gave}
use Rattle.child_io.specs.Runs.{IsEnding}
use Rattle.child_io.specs.Outcomes.{IsHeard}
use Rattle.child_io.specs.declared.pieces.PieceEnd.{PieceEnd}

-- the pieces and the end are those of the script, where the child tells it
abbrev pub HearTold : Option Told → ℕ → PieceEnd → List (List ℕ) → Type 0
HearTold old limit end pieces =
    (t : Told) → old ≡ Some t → t.taken ≡ 0 → t.reads ≡ 0 → IsHeard t.script t.written limit pieces end

-- the calls of the reads and of the wait
abbrev pub HearCalls : {C : Type 0} → History C → C → ℕ → ℕ → PieceEnd → C → List (List ℕ) → Type 0
HearCalls {C} history old limit read_ms end new pieces = (first : C) (acts : List Act) → history first acts old
    → (ending : List Act) × IsEnding limit read_ms pieces end ending
    × history first (acts ++ (map (read_gave read_ms) pieces ++ ending)) new

-- the pieces that were handed on: one for each read that brought bytes, within the limit
pub record HearsPieces (took : List (List ℕ) → Type 0) (limit : ℕ) (by_script by_calls : List (List ℕ) → Type 0)
    : Type 0 where
  pub pieces : List (List ℕ)
  pub handed : took pieces
  pub some : All (λ piece. 0 < length piece) pieces
  pub within : length (concat pieces) ≤ limit
  pub told : by_script pieces
  pub calls : by_calls pieces
