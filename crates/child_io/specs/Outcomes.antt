-- How a child ends that gets an input and is then read to its end, by its script.
use Rattle.std.specs.Prelude.{◌≡◌, ◌<◌, ℕ, zero, suc, ◌+◌, List, [], ◌∷◌, ◌++◌, length, take, drop}
use Rattle.std.specs.Prelude.{Bool, true, false, ◌||◌, ◌&&◌, ◌==◌, nat_lt, if◌then◌else◌}
use Rattle.child_io.specs.Told.{holds_number, read_fails, read_times_out, read_size}
use Rattle.child_io.specs.declared.child.Script.{Script}
use Rattle.child_io.specs.declared.pieces.PieceEnd.{PieceEnd}
use Rattle.child_io.specs.declared.pieces.PieceEnd.TheVariants.{NotStarted, WriteFailed, Cut, TooLong}
use Rattle.child_io.specs.declared.pieces.PieceEnd.TheVariants.{WaitFailed, Ended}
use Rattle.child_io.specs.declared.run.TheConstants.{READ_ROOM}

-- the number of bytes that the first k reads bring
abbrev pub taken_by : Script → ℕ → ℕ
taken_by s zero = 0
taken_by s (suc k) = taken_by s k + read_size s (taken_by s k) k READ_ROOM

-- the bytes that the read of that number brings
abbrev pub piece_of : Script → ℕ → List ℕ
piece_of s k = take (read_size s (taken_by s k) k READ_ROOM) (drop (taken_by s k) s.output)

-- the pieces that the first k reads bring, in order
abbrev pub pieces_by : Script → ℕ → List (List ℕ)
pieces_by s zero = []
pieces_by s (suc k) = pieces_by s k ++ piece_of s k ∷ []

-- not the whole input goes into the child
abbrev pub input_fails : Script → List ℕ → Bool
input_fails s input = nat_lt 0 (length input) && (holds_number s.failing_writes 0 || nat_lt s.room (length input))

-- all of the output came by the first k reads
abbrev pub is_read : Script → ℕ → Bool
is_read s k = taken_by s k == length s.output

-- the read of that number is the last one: it fails, times out, finds the end, or goes past the limit
abbrev pub is_last_read : Script → List ℕ → ℕ → ℕ → Bool
is_last_read s input limit k =
    read_fails s input k || (read_times_out s true k || (is_read s k || nat_lt limit (taken_by s (suc k))))

-- it is the first such read
abbrev pub EndsAt : Script → List ℕ → ℕ → ℕ → Type 0
EndsAt s input limit k =
    ((j : ℕ) → j < k → is_last_read s input limit j ≡ false) × (is_last_read s input limit k ≡ true)

-- how the child ends, where that read is the last one
abbrev pub end_at : Script → List ℕ → ℕ → PieceEnd
end_at s input k =
    if read_fails s input k then Cut false
    else if read_times_out s true k then Cut true
    else if is_read s k then (if s.wait_fails then WaitFailed else Ended s.exit)
    else TooLong

-- the pieces and the end of a child that got this input, and whose input was closed
abbrev pub IsHeard : Script → List ℕ → ℕ → List (List ℕ) → PieceEnd → Type 0
IsHeard s input limit pieces end =
    (k : ℕ) × EndsAt s input limit k × (pieces ≡ pieces_by s k) × (end ≡ end_at s input k)

-- the pieces and the end of a child that was started
abbrev pub IsChildOutcome : Script → List ℕ → ℕ → List (List ℕ) → PieceEnd → Type 0
IsChildOutcome s input limit pieces end =
    (input_fails s input ≡ true → (pieces ≡ []) × (end ≡ WriteFailed))
    × (input_fails s input ≡ false → IsHeard s input limit pieces end)

-- the pieces and the end of a script
abbrev pub IsOutcome : Script → List ℕ → ℕ → List (List ℕ) → PieceEnd → Type 0
IsOutcome s input limit pieces end =
    (s.start_fails ≡ true → (pieces ≡ []) × (end ≡ NotStarted))
    × (s.start_fails ≡ false → IsChildOutcome s input limit pieces end)
