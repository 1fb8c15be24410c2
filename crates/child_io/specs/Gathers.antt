-- All pieces as one list of bytes.
use Rattle.std.specs.Prelude.{◌≡◌, ℕ, ◌-◌, ◌^◌, min, List, length, false, if◌then◌else◌}
use Rattle.std.specs.List.{concat}
use Rattle.dict_value.specs.Memory.{UnlessNoMemory}
use Rattle.child_io.specs.declared.child.Outcome.{Outcome}
use Rattle.child_io.specs.declared.child.Outcome.TheVariants.{NotStarted, WriteFailed, Cut, TooLong}
use Rattle.child_io.specs.declared.child.Outcome.TheVariants.{WaitFailed, Ended, NoMemory}
use Rattle.child_io.specs.declared.pieces.PieceEnd.{PieceEnd}
use Rattle.child_io.specs.declared.pieces.PieceEnd.TheVariants as ending
use Rattle.child_io.specs.declared.pieces.Gathered.{Gathered}

-- the pieces were counted, and unless one was lost their bytes are all there; the count stands still at its end
abbrev pub Gathers : Gathered → List (List ℕ) → Type 0
Gathers g pieces = (g.pieces ≡ min (length pieces) (2 ^ 64 - 1)) × (g.lost ≡ false → g.bytes ≡ concat pieces)

-- the outcome of a child that ended so, with the bytes that were read
abbrev pub outcome_of : PieceEnd → List ℕ → Outcome
outcome_of ending.NotStarted bytes = NotStarted
outcome_of ending.WriteFailed bytes = WriteFailed
outcome_of (ending.Cut timed_out) bytes = Cut bytes timed_out
outcome_of ending.TooLong bytes = TooLong
outcome_of ending.WaitFailed bytes = WaitFailed bytes
outcome_of (ending.Ended exit) bytes = Ended bytes exit
outcome_of ending.NoMemory bytes = NoMemory

abbrev pub gathered_outcome : Gathered → PieceEnd → Outcome
gathered_outcome g end = if g.lost then NoMemory else outcome_of end g.bytes

-- the outcome has all bytes of the pieces; a child that isn't started takes no memory
abbrev pub HasWholeOutput : Outcome → PieceEnd → List (List ℕ) → Type 0
HasWholeOutput outcome end pieces =
    (end ≡ ending.NotStarted → outcome ≡ NotStarted)
    × UnlessNoMemory NoMemory outcome (outcome ≡ outcome_of end (concat pieces))
