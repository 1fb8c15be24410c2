-- One run of a child: what it is asked, and what it does, hands on and answers.
use Rattle.std.specs.Prelude.{◌≡◌, ◌≢◌, ◌<◌, ◌≤◌, ℕ, ◌+◌, List, [], ◌∷◌, ◌++◌, length, map, ⊤}
use Rattle.std.specs.Prelude.{Option, Some, None, false, if◌then◌else◌}
use Rattle.std.specs.List.{All, concat}
use Rattle.dict_value.specs.Memory.{UnlessNoMemory}
use Rattle.dict_value.specs.declared.fault.Exit.{Exit}
use Rattle.dict_io.specs.Outside.{HasCause}
use Rattle.child_io.specs.Told.{Told, fresh}
use Rattle.child_io.specs.Calls.{Act, History, write_took, write_failed, input_closed, read_gave, read_ended}
use Rattle.child_io.specs.Calls.{read_failed, read_timed_out, wait_gave, wait_failed}
use Rattle.child_io.specs.Outcomes.{IsChildOutcome, IsOutcome}
use Rattle.child_io.specs.declared.child.Script.{Script}
use Rattle.child_io.specs.declared.child.How.{How}
use Rattle.child_io.specs.declared.child.How.TheVariants as how
use Rattle.child_io.specs.declared.pieces.PieceEnd.{PieceEnd}
use Rattle.child_io.specs.declared.pieces.PieceEnd.TheVariants.{NotStarted, WriteFailed, Cut, TooLong}
use Rattle.child_io.specs.declared.pieces.PieceEnd.TheVariants.{WaitFailed, Ended, NoMemory}

-- what a run is asked: the program's words, its input, how many bytes it may print, and how long a read may take
pub record Order : Type 0 where
  pub words : List (List ℕ)
  pub input : List ℕ
  pub limit : ℕ
  pub read_ms : ℕ

abbrev pub order_of : List (List ℕ) → List ℕ → ℕ → ℕ → Order
order_of words input limit read_ms = record { words = words; input = input; limit = limit; read_ms = read_ms }

-- a call of the child failed
abbrev pub EndFails : PieceEnd → Type 0
EndFails NotStarted = ⊥
EndFails WriteFailed = ⊤
EndFails (Cut timed_out) = ⊤
EndFails TooLong = ⊥
EndFails WaitFailed = ⊤
EndFails (Ended exit) = ⊥
EndFails NoMemory = ⊥

-- in which way it failed
abbrev pub EndBroke : (How → Type 0) → PieceEnd → Type 0
EndBroke broke NotStarted = ⊤
EndBroke broke WriteFailed = broke how.Write
EndBroke broke (Cut timed_out) = broke (if timed_out then how.TimedOut else how.Read)
EndBroke broke TooLong = ⊤
EndBroke broke WaitFailed = broke how.Wait
EndBroke broke (Ended exit) = ⊤
EndBroke broke NoMemory = ⊤

-- the writes of a whole input, or those up to one that failed
abbrev pub WritesAll : List ℕ → List Act → Type 0
WritesAll input acts = (chunks : List (List ℕ)) × (concat chunks ≡ input) × (acts ≡ map write_took chunks)

abbrev pub WritesFront : List ℕ → List Act → Type 0
WritesFront input acts =
    (chunks : List (List ℕ)) × ((rest : List ℕ) × (concat chunks ++ rest ≡ input))
    × (acts ≡ map write_took chunks ++ write_failed ∷ [])

-- the read that ends a run, and the wait for a child that was read to its end
abbrev pub IsEnding : ℕ → ℕ → List (List ℕ) → PieceEnd → List Act → Type 0
IsEnding limit read_ms pieces NotStarted acts = ⊥
IsEnding limit read_ms pieces WriteFailed acts = ⊥
IsEnding limit read_ms pieces (Cut timed_out) acts =
    acts ≡ (if timed_out then read_timed_out read_ms else read_failed read_ms) ∷ []
IsEnding limit read_ms pieces TooLong acts =
    (piece : List ℕ) × (limit < length (concat pieces) + length piece) × (acts ≡ read_gave read_ms piece ∷ [])
IsEnding limit read_ms pieces WaitFailed acts = acts ≡ read_ended read_ms ∷ wait_failed ∷ []
IsEnding limit read_ms pieces (Ended exit) acts = acts ≡ read_ended read_ms ∷ wait_gave exit ∷ []
IsEnding limit read_ms pieces NoMemory acts = ⊥

-- the calls of a run: the input is written and closed, and then each piece is read, with the limit of the order
pub data AreCalls (order : Order) (pieces : List (List ℕ)) (end : PieceEnd) (acts : List Act) : Type 0 where
  unwritten : end ≡ WriteFailed → pieces ≡ [] → WritesFront order.input acts → AreCalls order pieces end acts
  heard : (writes ending : List Act) → WritesAll order.input writes
      → IsEnding order.limit order.read_ms pieces end ending
      → acts ≡ writes ++ input_closed ∷ (map (read_gave order.read_ms) pieces ++ ending)
      → AreCalls order pieces end acts

-- all that the spawner did was to start this child, which took the calls of the run
pub record ChildRun {S C : Type 0} (started : S → List (List ℕ) → C → S → Type 0) (told : C → Option Told)
    (history : History C) (faults : C → ℕ) (order : Order) (old new : S) (end : PieceEnd) (pieces : List (List ℕ))
    : Type 0 where
  pub first : C
  pub last : C
  pub acts : List Act
  pub start : started old order.words first new
  pub calls : history first acts last
  pub run : AreCalls order pieces end acts
  pub cause : HasCause (faults first) (faults last) (EndFails end)
  pub outcome : (s : Script) → told first ≡ Some (fresh s) → IsChildOutcome s order.input order.limit pieces end

-- the same, where a child was started
abbrev pub RanChild : {S C : Type 0} → (S → List (List ℕ) → C → S → Type 0) → (C → Option Told)
    → History C → (C → ℕ) → Order → S → S → PieceEnd → List (List ℕ) → Type 0
RanChild started told history faults order old new end pieces =
    end ≢ NotStarted → end ≢ NoMemory → ChildRun started told history faults order old new end pieces

-- a run of this script, unless memory ran out at a start that doesn't fail
abbrev pub ScriptTold : Script → List ℕ → ℕ → PieceEnd → List (List ℕ) → Type 0
ScriptTold s input limit end pieces =
    (end ≡ NoMemory → s.start_fails ≡ false) × UnlessNoMemory NoMemory end (IsOutcome s input limit pieces end)

-- a run takes the next script, and its outcome is that script's; without a script it doesn't start
abbrev pub RunTold : Option (List Script) → Option (List Script) → List ℕ → ℕ → PieceEnd → List (List ℕ) → Type 0
RunTold None new input limit end pieces = new ≡ None
RunTold (Some []) new input limit end pieces = (new ≡ Some []) × (pieces ≡ []) × (end ≡ NotStarted)
RunTold (Some (s ∷ rest)) new input limit end pieces = (new ≡ Some rest) × ScriptTold s input limit end pieces

-- the fact of a run to its end
abbrev pub RanToEnd : (List (List ℕ) → List ℕ → Exit → Type 0) → List (List ℕ) → PieceEnd → List (List ℕ)
    → Type 0
RanToEnd ran words NotStarted pieces = ⊤
RanToEnd ran words WriteFailed pieces = ⊤
RanToEnd ran words (Cut timed_out) pieces = ⊤
RanToEnd ran words TooLong pieces = ⊤
RanToEnd ran words WaitFailed pieces = ⊤
RanToEnd ran words (Ended exit) pieces = ran words (concat pieces) exit
RanToEnd ran words NoMemory pieces = ⊤

-- some pieces were handed on, one for each read that brought bytes, within the limit, and all of this holds of them
pub record HandsOn (took : List (List ℕ) → Type 0) (limit : ℕ) (by_script by_child in_full : List (List ℕ) → Type 0)
    : Type 0 where
  pub pieces : List (List ℕ)
  pub handed : took pieces
  pub some : All (λ piece. 0 < length piece) pieces
  pub within : length (concat pieces) ≤ limit
  pub told : by_script pieces
  pub child : by_child pieces
  pub full : in_full pieces
