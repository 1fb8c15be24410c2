-- A child that is written its input.
use Rattle.std.specs.Prelude.{◌≡◌, ℕ, List, ◌++◌, true, false, Option, Some, Result, Ok, Err}
use Rattle.dict_io.specs.declared.outside.Failed.{Failed}
use Rattle.child_io.specs.Told.{Told, fresh}
use Rattle.child_io.specs.Calls.{Act, History}
use Rattle.child_io.specs.Runs.{WritesAll, WritesFront}
use Rattle.child_io.specs.Outcomes.{input_fails}
use Rattle.child_io.specs.declared.child.Script.{Script}

-- a child that got its input, and wasn't read
pub record FedAs (s : Script) (input : List ℕ) (told : Option Told) : Type 0 where
  pub now : Told
  pub told_now : told ≡ Some now
  pub script : now.script ≡ s
  pub written : now.written ≡ input
  pub taken : now.taken ≡ 0
  pub reads : now.reads ≡ 0

-- the whole input went into a fresh child, exactly where it can
abbrev pub FeedAs : Script → Option Told → List ℕ → Result (Unit {0}) Failed → Type 0
FeedAs s new input (Ok _) = (input_fails s input ≡ false) × FedAs s input new
FeedAs s new input (Err _) = input_fails s input ≡ true

abbrev pub FeedTold : Option Told → Option Told → List ℕ → Result (Unit {0}) Failed → Type 0
FeedTold old new input r = (s : Script) → old ≡ Some (fresh s) → FeedAs s new input r

-- the calls of the writes
abbrev pub IsWriting : List ℕ → Result (Unit {0}) Failed → List Act → Type 0
IsWriting input (Ok _) writes = WritesAll input writes
IsWriting input (Err _) writes = WritesFront input writes

abbrev pub FeedCalls : {C : Type 0} → History C → C → List ℕ → Result (Unit {0}) Failed → C → Type 0
FeedCalls {C} history old input r new = (first : C) (acts : List Act) → history first acts old
    → (writes : List Act) × IsWriting input r writes × history first (acts ++ writes) new
